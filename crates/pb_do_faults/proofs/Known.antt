-- Whether a name stands in a table, and what it adds to one.
use Rattle.std.proofs.Common.{◌≡◌, ℕ, suc, ◌+◌, ◌<◌, Bool, true, false, cond, not, nat_eq, nat_lt, ◌||◌, if◌then◌else◌, is_some, Option, Some, None, MatchOption, List, [], ◌∷◌, ◌++◌, length, get_or, map, drop, zero, refl, sym, ap, ◌∙◌, arith, length-append}
use Rattle.std.proofs.lemmas.Bool.{lt-ltb, ltb-true, ltb_from_iff}
use Rattle.std.specs.List.{position_or_len}
use Rattle.std.specs.Cmp.Lexicographic.{pointwise}
use Rattle.pb_text.specs.declared.place.Place.{Place}
use Rattle.pb_text.specs.Tables.{IsInterned, position_of}
use Rattle.pb_do_syntax.specs.declared.tree.Sub.{Sub}
use Rattle.pb_do_syntax.specs.Names.{Name, same, is_named, names}
use Rattle.pb_do_syntax.specs.Plain.{plain_sub}
use Rattle.pb_do_inline.specs.Index.{param_lists}
use Rattle.pb_do_faults.specs.Found.{first}
use Rattle.pb_do_faults.specs.Strangers.{unless_named, strangers_in, subs_strangers}
use Rattle.pb_do_faults.proofs.Calling.{one_more}

is_there : (x : Name) (ys : List Name) → nat_lt (position_or_len (pointwise nat_eq x) ys) (length ys) ≡ is_named x ys
is_there x [] = refl
is_there x (y ∷ ys) = at (same x y) (is_there x ys)
  where
    at : (b : Bool) → nat_lt (position_or_len (pointwise nat_eq x) ys) (length ys) ≡ is_named x ys
        → nat_lt (cond (not b) (1 + position_or_len (pointwise nat_eq x) ys) 0) (suc (length ys)) ≡ (b || is_named x ys)
    at true h = lt-ltb 0 (suc (length ys)) (omega arith)
    at false h =
        ltb_from_iff (λ t. omega (arith, ltb-true (1 + position_or_len (pointwise nat_eq x) ys) (suc (length ys)) t), λ l. lt-ltb (1 + position_or_len (pointwise nat_eq x) ys) (suc (length ys)) (omega arith)) ∙ h

some_if : (b : Bool) (p : ℕ) → is_some (cond b (Some p) None) ≡ b
some_if true p = refl
some_if false p = refl

pub found_if : (x : Name) (ys : List Name) → is_some (position_of x ys) ≡ is_named x ys
found_if x ys = some_if (nat_lt (position_or_len (pointwise nat_eq x) ys) (length ys)) (position_or_len (pointwise nat_eq x) ys) ∙ is_there x ys

pub known : (x : Name) (ys : List Name) (p : Place) (k : ℕ) → Some k ≡ position_of x ys → None ≡ first (unless_named x ys p)
known x ys p k e = ap (λ (b : Bool). first (if b then [] else p ∷ [])) (ap is_some e ∙ found_if x ys)

pub unknown : (x : Name) (ys : List Name) (p : Place) → None ≡ position_of x ys → Some p ≡ first (unless_named x ys p)
unknown x ys p e = ap (λ (b : Bool). first (if b then [] else p ∷ [])) (ap is_some e ∙ found_if x ys)

last_by : (o : Option ℕ) (id : ℕ) (old new : List Name) (x : Name) → is_some o ≡ false → MatchOption o ((id ≡ length old) × (new ≡ old ++ x ∷ [])) (λ place. (id ≡ place) × (new ≡ old)) → new ≡ old ++ (x ∷ [])
last_by None id old new x e h = h.1
last_by (Some k) id old new x e h = absurd (grind arith)

pub interned_last : (old new : List Name) (x : Name) (id : ℕ) → is_named x old ≡ false → IsInterned old x id new → new ≡ old ++ (x ∷ [])
interned_last old new x id e h = last_by (position_of x old) id old new x (found_if x old ∙ e) h

pub counted_more : (old new : List Name) (x : Name) (count : ℕ) → new ≡ old ++ (x ∷ []) → count ≡ length old → count + 1 ≡ length new
counted_more old new x count n k = ap (λ c. c + 1) k ∙ sym (ap length n ∙ length-append old (x ∷ []))

pub as_many : (subs : List Sub) → length (param_lists (map plain_sub subs)) ≡ length subs
as_many [] = refl
as_many (s ∷ ss) = ap suc (as_many ss)

pub params_at : (subs : List Sub) (i : ℕ) (d : List Name) (s : Sub) → i < length subs → get_or (param_lists (map plain_sub subs)) i d ≡ names (get_or subs i s).params.items
params_at [] i d s h = absurd (omega (arith, h))
params_at (x ∷ xs) zero d s h = refl
params_at (x ∷ xs) (suc i) d s h = params_at xs i d s (omega (arith, h))

pub strangers_here : (subs : List Sub) (params : List (List Name)) (i : ℕ) (s : Sub) (p : List Name) → i < length subs → s ≡ get_or subs i s → p ≡ get_or params i p → params ≡ param_lists (map plain_sub subs) →
    subs_strangers (map plain_sub (drop i subs)) ≡ strangers_in p [] (plain_sub s).body.list ++ subs_strangers (map plain_sub (drop (i + 1) subs))
strangers_here subs params i s p h e f same =
    ap (λ (l : List Sub). subs_strangers (map plain_sub l)) (one_more subs i s s h e)
    ∙ ap (λ (q : List Name). strangers_in q [] (plain_sub s).body.list ++ subs_strangers (map plain_sub (drop (i + 1) subs)))
    (sym (f ∙ ap (λ (l : List (List Name)). get_or l i p) same ∙ params_at subs i p s h ∙ ap (λ (t : Sub). names t.params.items) (sym e)))

pub this_first : (a b : List Place) (r : Option Place) → is_some r ≡ true → r ≡ first a → r ≡ first (a ++ b)
this_first [] b r s e = absurd (let z : is_some r ≡ false = ap is_some e in grind arith)
this_first (q ∷ qs) b r s e = e

pub next_first : (a b : List Place) (r : Option Place) → is_some r ≡ false → r ≡ first a → first b ≡ first (a ++ b)
next_first [] b r s e = refl
next_first (q ∷ qs) b r s e = absurd (let z : is_some r ≡ true = ap is_some e in grind arith)
