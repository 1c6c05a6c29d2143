-- The roles of a file in its core: each once, with an index for every N, and a size that tells N.
use Rattle.std.proofs.Common.{◌≡◌, ◌≢◌, ℕ, zero, suc, ◌≤◌, ℤ, pos, negsuc, ◌+ℤ◌, ◌-ℤ◌, ◌≤ℤ◌, int_le, Bool, true, false, ◌||◌, ◌&&◌, nat_lt, if◌then◌else◌, ◌⊎◌, inl, inr, Option, Some, None, List, [], ◌∷◌, length, map, refl, sym, ap, ap₂, subst, ◌∙◌, arith}
use Rattle.std.specs.Prelude.{All, Contains, IsTrue}
use Rattle.std.proofs.lemmas.Bool.Decides.{nat_tests}
use Rattle.std.proofs.lemmas.Int.{ints}
use Rattle.std.proofs.lemmas.List.{append-nil}
use Rattle.std.proofs.lemmas.List.Elements.{All-cons, All-nil}
use Rattle.std.proofs.lemmas.Bool.{or_parts, and_parts, eqb-true}
use Rattle.pb_affine.specs.declared.lin.Base.{Base}
use Rattle.pb_affine.specs.declared.lin.Base.TheVariants.{Fixed, Param, Var}
use Rattle.pb_affine.specs.declared.range.NRange.{NRange}
use Rattle.pb_affine.specs.Values.{value, IsSmall, count_of, count_from, range}
use Rattle.pb_text.specs.declared.place.Spot.{Spot}
use Rattle.pb_syntax.specs.declared.tree.High.{High}
use Rattle.pb_syntax.specs.declared.tree.High.TheVariants.{Upto, Max}
use Rattle.pb_syntax.specs.declared.tree.LinText.{LinText}
use Rattle.pb_syntax.specs.declared.tree.RangeText.{RangeText}
use Rattle.pb_syntax.specs.declared.tree.RoleText.{RoleText}
use Rattle.pb_syntax.specs.Tree.{PlainFile}
use Rattle.pb_core_language.specs.declared.protocol.CoreRole.{CoreRole}
use Rattle.pb_core_language.specs.Tree.{Mark}
use Rattle.pb_core_language.specs.Names.{Name, same, is_named, a_role, declared, Visit, no_scope, range_visits, role_visits, roles_visits}
use Rattle.pb_core_language.specs.FileRules.{role_names, growth, role_growth, total_growth, is_below, is_just, broken_5}
use Rattle.pb_core_language.specs.Meaning.{lin_of, role_of, roles_of, high_of, meaning}
use Rattle.pb_core_language.specs.Plain.{Protocol}
use Rattle.pb_core_language.specs.Lists.{is_empty}
use Rattle.pb_core_language.specs.Rules.{empty_roles, nobody, Breach, broken_6, breaches}
use Rattle.pb_core_language.specs.Sound.{is_small, is_over_n, is_bound, are_roles}
use Rattle.pb_core_language.specs.Verdict.{IsIn, IsUpTo, KeepsAll}
use Rattle.pb_local.specs.Names.{is_name}
use Rattle.pb_local.specs.Ranks.{Sum, factor, no_ranks, size_with, with_role, ranks_of}
use Rattle.pb_local.specs.WellMade.{IsInRange, IsRange, IsUpperEnd, IsSingle, IsRole}
use Rattle.pb_local.specs.WellMade as W
use Rattle.pb_shape.specs.Places as S
use Rattle.pb_core_endpoint.proofs.Tests.{none_both}
use Rattle.pb_compile_laws.proofs.Bools.{listed_if, listed_unless}
use Rattle.pb_compile_laws.proofs.Words.{named, swapped}
use Rattle.pb_compile_laws.proofs.Forms.{IsTop}
use Rattle.pb_compile_laws.proofs.Header.{AreNamed}
use Rattle.pb_compile_laws.proofs.Distinct.{Distinct}
use Rattle.pb_compile_laws.proofs.OneKind.{AreSettled, split_settled, Pairs, pairs_both}

-- ---- each once

unvisited : (c : Name) (v : Visit) (rs : List RoleText) → AreSettled (v ∷ []) (roles_visits c rs) → is_named v.spot.name (role_names rs) ≡ false
unvisited c v [] h = refl
unvisited c v (r ∷ rs) h =
    let g = split_settled (v ∷ []) (role_visits c r) (roles_visits c rs) h in
    ap₂ (λ a b. a || b) (swapped r.role.name v.spot.name (or_parts (same r.role.name v.spot.name) false g.0.0.1).0) (unvisited c v rs g.1)

pub roles_once : (c : Name) (rs : List RoleText) → Pairs (roles_visits c rs) → Distinct (role_names rs)
roles_once c [] h = tt
roles_once c (r ∷ rs) h =
    let over : List Visit = elim r.range [ None ↦ [] | Some o ↦ range_visits c no_scope o ] in
    let v : Visit = record { spot = r.role; kind = a_role; how = declared; scope = no_scope } in
    let g = split_settled (v ∷ []) over (roles_visits c rs) h.0 in
    (unvisited c v rs g.1, roles_once c rs (pairs_both over (roles_visits c rs) h.1).1)

named_so : (c : Name) (r : RoleText) → (role_of c r).name ≡ r.role.name
named_so c r = at r.range
  where
    at : (over : Option RangeText) → (role_of c (record { role = r.role; range = over })).name ≡ r.role.name
    at None = refl
    at (Some o) = refl

pub names_are : (c : Name) (rs : List RoleText) → map (λ r. r.name) (map S.role_of (roles_of c rs)) ≡ role_names rs
names_are c [] = refl
names_are c (r ∷ rs) = ap₂ (λ x xs. x ∷ xs) (named_so c r) (names_are c rs)

pub length_is : (c : Name) (rs : List RoleText) → length (map S.role_of (roles_of c rs)) ≡ length rs
length_is c [] = refl
length_is c (r ∷ rs) = ap suc (length_is c rs)

-- ---- each with an index

index_there : (low : ℤ) (z : ℤ) → is_empty (count_from (count_of z) low) ≡ false → pos 1 ≤ℤ z
index_there low (negsuc n) h = absurd (grind arith)
index_there low (pos zero) h = absurd (grind arith)
index_there low (pos (suc n)) h = omega (arith, ints)

not_above : (low high : ℤ) → pos 1 ≤ℤ (high +ℤ pos 1 -ℤ low) → low ≤ℤ high
not_above low high h = omega (arith, ints)

le_true : (a b : ℤ) → int_le a b ≡ true → a ≤ℤ b
le_true a b h = grind (arith, ints)

wide_low : (x : ℤ) → negsuc 99999 ≤ℤ x → negsuc 999999 ≤ℤ x
wide_low x h = omega (arith, ints)

wide_high : (x : ℤ) → x ≤ℤ pos 100000 → x ≤ℤ pos 1000000
wide_high x h = omega (arith, ints)

small : (x : ℤ) → is_small x ≡ true → IsSmall x
small x h =
    let t = and_parts (int_le (negsuc 99999) x) (int_le x (pos 100000)) h in
    record { low = wide_low x (le_true (negsuc 99999) x t.0); high = wide_high x (le_true x (pos 100000) t.1) }

no_variable : (b : Base) → is_over_n b ≡ true → b ≢ Var
no_variable Fixed h e = cc
no_variable Param h e = cc
no_variable Var h e = cc

-- each role from number k on has an index at each of these N
abbrev HaveIndices : NRange → ℕ → List CoreRole → Type 0
HaveIndices over k roles = (n : ℕ) → IsInRange over n → empty_roles k roles (pos n) ≡ []

pub each_is : (over : NRange) (c : Name) (k : ℕ) (rs : List RoleText) → AreNamed rs → are_roles (roles_of c rs) ≡ true → HaveIndices over k (roles_of c rs) → All (IsRole over) (map S.role_of (roles_of c rs))
each_is over c k [] well sound some = All-nil (IsRole over)
each_is over c k (r ∷ rs) well sound some =
    let q = role_of c r in
    let low = and_parts (is_bound q.low) (is_bound q.high && are_roles (roles_of c rs)) sound in
    let high = and_parts (is_bound q.high) (are_roles (roles_of c rs)) low.1 in
    let a = and_parts (is_over_n q.low.base) (is_small q.low.off) low.0 in
    let b = and_parts (is_over_n q.high.base) (is_small q.high.off) high.0 in
    All-cons (IsRole over) (S.role_of q) (map S.role_of (roles_of c rs))
    (record {
      name = subst (λ x. IsTrue (is_name x)) (sym (named_so c r)) (named r.role.name well.0);
      low = small q.low.off a.1;
      high = small q.high.off b.1;
      low_fixed = no_variable q.low.base a.0;
      high_fixed = no_variable q.high.base b.0;
      some = λ n within.
          let e = (listed_if (is_empty (range (value q.low (pos n) (pos 0)) (value q.high (pos n) (pos 0)))) (record { number = k; place = q.place }) (empty_roles (suc k) (roles_of c rs) (pos n)) (some n within)).0 in
          not_above (value q.low (pos n) (pos 0)) (value q.high (pos n) (pos 0)) (index_there (value q.low (pos n) (pos 0)) _ e);
    })
    (each_is over c (suc k) rs well.1 high.1 (λ n within. (none_both _ (empty_roles (suc k) (roles_of c rs) (pos n)) (some n within)).1))

in_range : (over : NRange) (n : ℕ) → IsInRange over n → IsIn over (pos n)
in_range over n h = record { low = pos_le over.low n h.low; high = at over.high h.high }
  where
    pos_le : (a b : ℕ) → a ≤ b → pos a ≤ℤ pos b
    pos_le a b h = omega (arith, ints)

    at : (high : Option ℕ) → W.IsUpTo n high → IsUpTo (pos n) high
    at None h = tt
    at (Some high) h = pos_le n high h

no_breach : (p : Protocol) (n : ℤ) → IsIn p.range n → KeepsAll p → (bs : List Breach) → breaches p n ≡ bs → breaches p n ≡ []
no_breach p n within keeps [] e = e
no_breach p n within keeps (b ∷ bs) e = absurd (keeps (record { n = n; breach = b }) (record { within = within; there = subst (λ l. Contains l b) (sym e) (zero, omega arith, refl) }))

none_mapped : (ms : List Mark) → map (nobody 6) ms ≡ [] → ms ≡ []
none_mapped [] h = refl
none_mapped (m ∷ ms) h = cc

-- where rule 6 is kept
pub have_indices : (p : Protocol) → KeepsAll p → HaveIndices p.range 0 p.roles
have_indices p keeps n within =
    none_mapped (empty_roles 0 p.roles (pos n)) (none_both (broken_6 p (pos n)) _ (no_breach p (pos n) (in_range p.range n within) keeps (breaches p (pos n)) refl)).0

-- ---- the size, and the range

base_growth : (c : Name) (l : LinText) → factor (lin_of c l).base ≡ growth c l
base_growth c l = at l.base
  where
    tested : (b : Bool) → factor (if b then Param else Var) ≡ (if b then pos 1 else pos 0)
    tested true = refl
    tested false = refl

    at : (b : Option Spot) → factor (lin_of c (record { base = b; off = l.off; place = l.place })).base ≡ growth c (record { base = b; off = l.off; place = l.place })
    at None = refl
    at (Some x) = tested (same x.name c)

role_factors : (c : Name) (r : RoleText) → (factor (role_of c r).high.base -ℤ factor (role_of c r).low.base) ≡ role_growth c r
role_factors c r = at r.range
  where
    at : (over : Option RangeText) → (factor (role_of c (record { role = r.role; range = over })).high.base -ℤ factor (role_of c (record { role = r.role; range = over })).low.base) ≡ role_growth c (record { role = r.role; range = over })
    at None = refl
    at (Some o) = ap₂ (λ a b. a -ℤ b) (base_growth c o.high) (base_growth c o.low)

add_none : (a : ℤ) → a ≡ a +ℤ pos 0
add_none a = omega (arith, ints)

regroup : (a h l t : ℤ) → ((a +ℤ h -ℤ l) +ℤ t) ≡ (a +ℤ ((h -ℤ l) +ℤ t))
regroup a h l t = omega (arith, ints)

size_is : (c : Name) (rs : List RoleText) (f : Sum) → (size_with f (map S.role_of (roles_of c rs))).a ≡ f.a +ℤ total_growth c rs
size_is c [] f = add_none f.a
size_is c (r ∷ rs) f =
    size_is c rs (with_role f (S.role_of (role_of c r)))
    ∙ (regroup f.a (factor (role_of c r).high.base) (factor (role_of c r).low.base) (total_growth c rs) ∙ ap (λ z. f.a +ℤ (z +ℤ total_growth c rs)) (role_factors c r))

grown : (a t : ℤ) → a ≡ pos 0 +ℤ t → int_le (pos 1) t ≡ true → pos 1 ≤ℤ a
grown a t e h = grind (arith, ints)

single : (high : High) (low : ℕ) → is_just high low ≡ true → high_of high ≡ Some low
single (Upto hi) low h = ap Some (eqb-true hi low h)
single Max low h = absurd (grind arith)

pub sized : (f : PlainFile) → broken_5 f ≡ [] → (pos 1 ≤ℤ (ranks_of (map S.role_of (roles_of f.constant.name f.roles))).a) ⊎ IsSingle (meaning f).range
sized f five =
    let low = listed_if (nat_lt f.low 1) f.low_place _ five in
    let high = listed_if (is_below f.high f.low) f.high_place _ low.1 in
    at (int_le (pos 1) (total_growth f.constant.name f.roles)) refl (listed_unless _ f.protocol.place [] (append-nil _ ∙ high.1)).0
  where
    at : (b : Bool) → int_le (pos 1) (total_growth f.constant.name f.roles) ≡ b → (b || is_just f.high f.low) ≡ true → (pos 1 ≤ℤ (ranks_of (map S.role_of (roles_of f.constant.name f.roles))).a) ⊎ IsSingle (meaning f).range
    at true e h = inl (grown _ (total_growth f.constant.name f.roles) (size_is f.constant.name f.roles no_ranks) e)
    at false e h = inr (single f.high f.low h)

at_least_one : (n : ℕ) → nat_lt n 1 ≡ false → 1 ≤ n
at_least_one n h = grind (arith, nat_tests)

not_below : (a b : ℕ) → nat_lt a b ≡ false → b ≤ a
not_below a b h = grind (arith, nat_tests)

pub ranged : (f : PlainFile) → broken_5 f ≡ [] → f.low ≤ 2000000000 → IsTop f.high → IsRange (meaning f).range
ranged f five most top =
    let low = listed_if (nat_lt f.low 1) f.low_place _ five in
    let high = listed_if (is_below f.high f.low) f.high_place _ low.1 in
    record {
      some = at_least_one f.low low.0;
      most = most;
      high = upper f.high f.low high.0 top;
    }
  where
    upper : (high : High) (low : ℕ) → is_below high low ≡ false → IsTop high → IsUpperEnd low (high_of high)
    upper (Upto hi) low h t = (not_below hi low h, t)
    upper Max low h t = tt
