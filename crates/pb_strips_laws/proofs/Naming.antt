-- Where a file keeps the rule on names, the names of its roles are apart, and each stands at one position alone.
use Rattle.std.proofs.Common.{◌≡◌, ℕ, suc, Bool, true, false, ◌||◌, nat_eq, if◌then◌else◌, List, [], ◌∷◌, ◌++◌, Option, None, Some, refl, sym, ◌∙◌, subst, arith}
use Rattle.std.proofs.lemmas.Bool.{true≢false, or_parts, or_from}
use Rattle.std.proofs.lemmas.Bool.Decides.{nat_tests}
use Rattle.std.proofs.lemmas.List.{append_assoc, append-nil}
use Rattle.std.proofs.lemmas.Slice.Eq.{bytes_eq-Decides}
use Rattle.pb_text.specs.declared.place.Place.{Place}
use Rattle.pb_syntax.specs.declared.tree.RangeText.{RangeText}
use Rattle.pb_syntax.specs.declared.tree.RoleText.{RoleText}
use Rattle.pb_syntax.specs.Tree.{PlainFile}
use Rattle.pb_core_language.specs.FileRules.{is_visited, has_other_kind, is_misused, misnamed, role_names, broken_1}
use Rattle.pb_core_language.specs.Meaning.{position_of}
use Rattle.pb_core_language.specs.Names.{Name, same, Visit, declared, the_constant, the_protocol, a_role, no_scope, range_visits, roles_visits, block_visits}
use Rattle.pb_strips_laws.proofs.Each.{none_in}

-- ---- equal names

pub same_itself : (x : Name) → same x x ≡ true
same_itself x = (bytes_eq-Decides x x).1 refl

pub same_is : (x y : Name) → same x y ≡ true → x ≡ y
same_is x y = (bytes_eq-Decides x y).0

pub swapped : (x y : Name) → same x y ≡ false → same y x ≡ false
swapped x y h = by (same y x) refl
  where
    by : (b : Bool) → same y x ≡ b → same y x ≡ false
    by false e = e
    by true e = absurd (true≢false (sym (subst (λ z. same z y ≡ true) (same_is y x e) (same_itself y)) ∙ h))

pub same_flips : (x y : Name) → same x y ≡ same y x
same_flips x y = by (same x y) refl
  where
    by : (b : Bool) → same x y ≡ b → same x y ≡ same y x
    by true e = subst (λ z. same x z ≡ same z x) (same_is x y e) refl
    by false e = e ∙ sym (swapped x y e)

-- ---- names that are apart

-- none of these is that name
abbrev pub AreUnlike : Name → List Name → Type 0
AreUnlike y [] = Unit {0}
AreUnlike y (z ∷ zs) = (same z y ≡ false) × AreUnlike y zs

abbrev pub AreApart : List Name → Type 0
AreApart [] = Unit {0}
AreApart (y ∷ ys) = AreUnlike y ys × AreApart ys

-- whatever has this position is that name
abbrev pub IsAt : List Name → ℕ → Name → Type 0
IsAt names q z = (y : Name) → nat_eq (position_of y names) q ≡ same y z

abbrev pub AreAt : List Name → ℕ → List Name → Type 0
AreAt names q [] = Unit {0}
AreAt names q (z ∷ zs) = IsAt names q z × AreAt names (suc q) zs

first_at : (z : Name) (zs : List Name) → IsAt (z ∷ zs) 0 z
first_at z zs y = by (same y z)
  where
    by : (b : Bool) → nat_eq (if b then 0 else suc (position_of y zs)) 0 ≡ b
    by true = refl
    by false = grind (arith, nat_tests)

one_on : (p q : ℕ) (b : Bool) → nat_eq p q ≡ b → nat_eq (suc p) (suc q) ≡ b
one_on p q b h = grind (arith, nat_tests)

none_on : (q : ℕ) → nat_eq 0 (suc q) ≡ false
none_on q = grind (arith, nat_tests)

later_at : (w : Name) (ys : List Name) (q : ℕ) (z : Name) → same z w ≡ false → IsAt ys q z → IsAt (w ∷ ys) (suc q) z
later_at w ys q z other h y = by (same y w) refl
  where
    by : (b : Bool) → same y w ≡ b → nat_eq (if b then 0 else suc (position_of y ys)) (suc q) ≡ same y z
    by true e = none_on q ∙ sym (subst (λ x. same x z ≡ false) (sym (same_is y w e)) (swapped z w other))
    by false e = one_on (position_of y ys) q (same y z) (h y)

later_all : (w : Name) (ys : List Name) (q : ℕ) (zs : List Name) → AreUnlike w zs → AreAt ys q zs → AreAt (w ∷ ys) (suc q) zs
later_all w ys q [] other h = tt
later_all w ys q (z ∷ zs) other h = (later_at w ys q z other.0 h.0, later_all w ys (suc q) zs other.1 h.1)

pub all_at : (names : List Name) → AreApart names → AreAt names 0 names
all_at [] a = tt
all_at (y ∷ ys) a = (first_at y ys, later_all y ys 0 ys a.0 (all_at ys a.1))

-- ---- from the rule

not_told : (a b : Bool) (p : Place) → let none_there : List Place = [] in (if a || b then p ∷ [] else none_there) ≡ [] → b ≡ false
not_told true b p h = cc
not_told false true p h = cc
not_told false false p h = refl

visited_first : (x : Name) (xs ys : List Visit) → is_visited x (xs ++ ys) ≡ false → is_visited x xs ≡ false
visited_first x [] ys h = refl
visited_first x (v ∷ xs) ys h =
    let both = or_parts (same x v.spot.name) (is_visited x (xs ++ ys)) h in or_from _ _ both.0 (visited_first x xs ys both.1)

visited_last : (x : Name) (before : List Visit) (v : Visit) → is_visited x (before ++ v ∷ []) ≡ false → same x v.spot.name ≡ false
visited_last x [] v h = (or_parts (same x v.spot.name) false h).0
visited_last x (w ∷ before) v h = visited_last x before v (or_parts (same x w.spot.name) (is_visited x (before ++ v ∷ [])) h).1

module _ (roles : List Name) where
  -- what stands in front is seen before what stands behind
  misnamed_behind : (before xs ws : List Visit) → misnamed roles before (xs ++ ws) ≡ [] → misnamed roles (before ++ xs) ws ≡ []
  misnamed_behind before [] ws h = subst (λ seen. misnamed roles seen ws ≡ []) (sym (append-nil before)) h
  misnamed_behind before (v ∷ xs) ws h =
      subst (λ seen. misnamed roles seen ws ≡ []) (append_assoc before (v ∷ []) xs)
      (misnamed_behind (before ++ v ∷ []) xs ws
      (none_in (if has_other_kind v.spot.name v.kind before || is_misused roles before v v.how then v.spot.place ∷ [] else []) _ h).1)

  module _ (constant : Name) where
    abbrev head_of : RoleText → Visit
    head_of r = record { spot = r.role; kind = a_role; how = declared; scope = no_scope }

    abbrev ends_of : Option RangeText → List Visit
    ends_of rows = elim rows [ None ↦ [] | Some over ↦ range_visits constant no_scope over ]

    -- the first role is new, and the others are after it
    abbrev After : List Visit → RoleText → List Visit
    After before r = (before ++ head_of r ∷ []) ++ ends_of r.range

    role_is_new : (before : List Visit) (r : RoleText) (rs : List RoleText) (ws : List Visit) → misnamed roles before (roles_visits constant (r ∷ rs) ++ ws) ≡ [] → is_visited r.role.name before ≡ false
    role_is_new before r rs ws h =
        not_told (has_other_kind r.role.name a_role before) (is_visited r.role.name before) r.role.place
        (none_in (if has_other_kind r.role.name a_role before || is_visited r.role.name before then r.role.place ∷ [] else []) _ h).0

    others_after : (before : List Visit) (r : RoleText) (rs : List RoleText) (ws : List Visit) → misnamed roles before (roles_visits constant (r ∷ rs) ++ ws) ≡ [] → misnamed roles (After before r) (roles_visits constant rs ++ ws) ≡ []
    others_after before r rs ws h =
        misnamed_behind (before ++ head_of r ∷ []) (ends_of r.range) (roles_visits constant rs ++ ws)
        (subst (λ xs. misnamed roles (before ++ head_of r ∷ []) xs ≡ []) (append_assoc (ends_of r.range) (roles_visits constant rs) ws)
        (none_in (if has_other_kind r.role.name a_role before || is_visited r.role.name before then r.role.place ∷ [] else []) _ h).1)

    are_unlike : (y : Name) (before : List Visit) → ((z : Name) → is_visited z before ≡ false → same z y ≡ false) →
        (rs : List RoleText) (ws : List Visit) → misnamed roles before (roles_visits constant rs ++ ws) ≡ [] → AreUnlike y (role_names rs)
    are_unlike y before seen [] ws h = tt
    are_unlike y before seen (r ∷ rs) ws h =
        (seen r.role.name (role_is_new before r rs ws h), are_unlike y (After before r) (λ z new. seen z (visited_first z before (head_of r ∷ []) (visited_first z (before ++ head_of r ∷ []) (ends_of r.range) new))) rs ws (others_after before r rs ws h))

    are_apart : (before : List Visit) (rs : List RoleText) (ws : List Visit) → misnamed roles before (roles_visits constant rs ++ ws) ≡ [] → AreApart (role_names rs)
    are_apart before [] ws h = tt
    are_apart before (r ∷ rs) ws h =
        let behind = others_after before r rs ws h in
        (are_unlike r.role.name (After before r) (λ z new. visited_last z before (head_of r) (visited_first z (before ++ head_of r ∷ []) (ends_of r.range) new)) rs ws behind, are_apart (After before r) rs ws behind)

pub names_apart : (f : PlainFile) → broken_1 f ≡ [] → AreApart (role_names f.roles)
names_apart f h =
    let first : List Visit =
    record { spot = f.constant; kind = the_constant; how = declared; scope = no_scope }
    ∷ record { spot = f.protocol; kind = the_protocol; how = declared; scope = no_scope }
    ∷ [] in
    are_apart (role_names f.roles) f.constant.name first f.roles (block_visits f.constant.name no_scope f.body.list)
    (misnamed_behind (role_names f.roles) [] first (roles_visits f.constant.name f.roles ++ block_visits f.constant.name no_scope f.body.list) h)
