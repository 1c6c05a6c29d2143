-- A table of names met with one name more.
use Rattle.std.proofs.Common.{◌≡◌, ℕ, zero, suc, ◌<◌, ◌≤◌, Bool, true, false, ◌&&◌, ◌||◌, not, nat_eq, if◌then◌else◌, List, [], ◌∷◌, ◌++◌, length, get_or, refl, sym, ap, ◌∙◌, arith}
use Rattle.pb_core_file_rules.specs.declared.visits.Met.{Met}
use Rattle.pb_core_file_rules.specs.declared.visits.NameKind.{NameKind}
use Rattle.pb_core_language.specs.Names.{Name, same}
use Rattle.pb_core_language.specs.Meaning.{position_of}
use Rattle.pb_core_file_rules.specs.Visiting.{met_names, is_met, is_other_row, is_wrong_row, with_met, kind_no}
use Rattle.pb_core_file_rules.proofs.Positions.{within}

pub as_many : (rows : List Met) → length (met_names rows) ≡ length rows
as_many [] = refl
as_many (r ∷ rs) = ap suc (as_many rs)

pub names_last : (rows : List Met) (r : Met) → met_names (rows ++ r ∷ []) ≡ met_names rows ++ r.spot.name ∷ []
names_last [] r = refl
names_last (q ∷ rs) r = ap (λ xs. q.spot.name ∷ xs) (names_last rs r)

pub is_there : (x : Name) (rows : List Met) → position_of x (met_names rows) < length rows → is_met x rows ≡ true
is_there x [] h = absurd (omega arith)
is_there x (r ∷ rs) h = at (same x r.spot.name) (is_there x rs) h
  where
    at : (b : Bool) → (position_of x (met_names rs) < length rs → is_met x rs ≡ true) → (if b then 0 else suc (position_of x (met_names rs))) < suc (length rs) → (b || is_met x rs) ≡ true
    at true rest h = refl
    at false rest h = rest (omega (arith, h))

pub is_lacking : (x : Name) (rows : List Met) → length rows ≤ position_of x (met_names rows) → is_met x rows ≡ false
is_lacking x [] h = refl
is_lacking x (r ∷ rs) h = at (same x r.spot.name) (is_lacking x rs) h
  where
    at : (b : Bool) → (length rs ≤ position_of x (met_names rs) → is_met x rs ≡ false) → suc (length rs) ≤ (if b then 0 else suc (position_of x (met_names rs))) → (b || is_met x rs) ≡ false
    at true rest h = absurd (omega arith)
    at false rest h = rest (omega (arith, h))

pub no_row : (x : Name) (k : NameKind) (rows : List Met) → is_met x rows ≡ false → is_other_row x k rows ≡ false
no_row x k [] h = refl
no_row x k (r ∷ rs) h = at (same x r.spot.name) (no_row x k rs) h
  where
    at : (b : Bool) → (is_met x rs ≡ false → is_other_row x k rs ≡ false) → (b || is_met x rs) ≡ false → (if b then not (nat_eq (kind_no k) (kind_no r.kind)) else is_other_row x k rs) ≡ false
    at true rest h = absurd (grind arith)
    at false rest h = rest h

pub row_kind : (x : Name) (k : NameKind) (rows : List Met) (n : ℕ) (d : Met) → n ≡ position_of x (met_names rows) → n < length rows →
    is_other_row x k rows ≡ not (nat_eq (kind_no k) (kind_no (get_or rows n d).kind))
row_kind x k [] n d e h = absurd (omega arith)
row_kind x k (r ∷ rs) n d e h = at (same x r.spot.name) n (λ j. row_kind x k rs j d) e h
  where
    at : (b : Bool) (n : ℕ) → ((j : ℕ) → j ≡ position_of x (met_names rs) → j < length rs → is_other_row x k rs ≡ not (nat_eq (kind_no k) (kind_no (get_or rs j d).kind))) →
        n ≡ (if b then 0 else suc (position_of x (met_names rs))) → n < suc (length rs) →
        (if b then not (nat_eq (kind_no k) (kind_no r.kind)) else is_other_row x k rs) ≡ not (nat_eq (kind_no k) (kind_no (get_or (r ∷ rs) n d).kind))
    at true zero rest e h = refl
    at true (suc n) rest e h = absurd (omega arith)
    at false zero rest e h = absurd (omega arith)
    at false (suc n) rest e h = rest n (omega arith) (omega arith)

pub stays : (rows : List Met) (m : Met) (k : ℕ) → k ≡ position_of m.spot.name (met_names rows) → k < length rows → with_met rows m ≡ rows
stays rows m k e h = ap (λ b. if b then rows else rows ++ m ∷ []) (is_there m.spot.name rows (omega (arith, e, h)))

pub goes_last : (rows : List Met) (m : Met) (k : ℕ) → k ≡ position_of m.spot.name (met_names rows) → length rows ≤ k → with_met rows m ≡ rows ++ (m ∷ [])
goes_last rows m k e h = ap (λ b. if b then rows else rows ++ m ∷ []) (is_lacking m.spot.name rows (omega (arith, e, h)))

pub just_behind : (rows : List Met) (x : Name) (k : ℕ) → k ≡ position_of x (met_names rows) → length rows ≤ k → length rows ≡ position_of x (met_names rows)
just_behind rows x k e h = let w = within x (met_names rows) in let n = as_many rows in omega (arith, e, h, w, n)

new_by : (other met d a : Bool) → other ≡ false → met ≡ false → not a ≡ not (other || ((d && met) || a))
new_by false false true a e h = refl
new_by false false false a e h = refl
new_by false true d a e h = absurd (grind arith)
new_by true met d a e h = absurd (grind arith)

pub new_right : (rows : List Met) (m : Met) (k : ℕ) → k ≡ position_of m.spot.name (met_names rows) → length rows ≤ k → not m.is_astray ≡ not (is_wrong_row rows m)
new_right rows m k e h =
    let none = is_lacking m.spot.name rows (omega (arith, e, h)) in
    new_by (is_other_row m.spot.name m.kind rows) (is_met m.spot.name rows) m.declares m.is_astray (no_row m.spot.name m.kind rows none) none

old_by : (same_kind other met d a : Bool) → other ≡ not same_kind → met ≡ true → (same_kind && not (d || a)) ≡ not (other || ((d && met) || a))
old_by true true met d a e h = absurd (grind arith)
old_by true false true true a e h = refl
old_by true false true false a e h = refl
old_by true false false d a e h = absurd (grind arith)
old_by false true met d a e h = refl
old_by false false met d a e h = absurd (grind arith)

pub old_right : (rows : List Met) (m : Met) (k : ℕ) (r : Met) → k ≡ position_of m.spot.name (met_names rows) → k < length rows → r ≡ get_or rows k r →
    (nat_eq (kind_no m.kind) (kind_no r.kind) && not (m.declares || m.is_astray)) ≡ not (is_wrong_row rows m)
old_right rows m k r e h is =
    old_by (nat_eq (kind_no m.kind) (kind_no r.kind)) (is_other_row m.spot.name m.kind rows) (is_met m.spot.name rows) m.declares m.is_astray
    (row_kind m.spot.name m.kind rows k r e h ∙ ap (λ q. not (nat_eq (kind_no m.kind) (kind_no q.kind))) (sym is))
    (is_there m.spot.name rows (omega (arith, e, h)))
