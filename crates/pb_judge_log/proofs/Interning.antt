-- A table of distinct names, built name by name.
use Rattle.std.proofs.Common.{◌≡◌, ℕ, ◌+◌, ◌-◌, ◌<◌, ◌≤◌, ◌^◌, Bool, true, false, cond, List, [], ◌∷◌, ◌++◌, length, take, get_or, map, Option, Some, None, MatchOption, refl, sym, ap, ◌∙◌, subst, arith, lt-ltb}
use Rattle.std.specs.Prelude.{nat_eq, nat_lt}
use Rattle.std.specs.List.{position_or_len}
use Rattle.std.specs.Cmp.Lexicographic.{pointwise}
use Rattle.std.proofs.lemmas.Bool.{ltb-true}
use Rattle.std.proofs.lemmas.List.{take_more, get_or-take, get_or-map, length-take, length-take-le, length-map}
use Rattle.std.proofs.lemmas.List.Sums.{position_or_len_is, passes_at_first}
use Rattle.std.proofs.lemmas.Slice.Eq.{bytes_eq-Decides}
use Rattle.pb_text.specs.Tables.{AreDistinct, IsInterned, position_of}

same_name : (x y : List ℕ) → x ≡ y → pointwise nat_eq x y ≡ true
same_name x y e = (bytes_eq-Decides x y).1 e

other_name : (x y : List ℕ) → (x ≡ y → ⊥) → pointwise nat_eq x y ≡ false
other_name x y ne = by_test (pointwise nat_eq x y) refl where
  by_test : (b : Bool) → pointwise nat_eq x y ≡ b → b ≡ false
  by_test true e = absurd (ne ((bytes_eq-Decides x y).0 e))
  by_test false e = refl

-- the first name that is the same, or the end
placed : (name : List ℕ) (xs : List (List ℕ)) (k : ℕ) → k ≤ length xs → ((i : ℕ) → i < k → name ≡ get_or xs i [] → ⊥) → (k < length xs → name ≡ get_or xs k []) → position_or_len (pointwise nat_eq name) xs ≡ k
placed name xs k le before at =
    position_or_len_is (pointwise nat_eq name) xs k [] le (λ i lt. other_name name (get_or xs i []) (before i lt)) (λ lt. same_name name (get_or xs k []) (at lt))

-- a name of a table stands where it stands
pub found : (names : List (List ℕ)) (k : ℕ) → AreDistinct names → k < length names → position_of (get_or names k []) names ≡ Some k
found names k distinct lt =
    let at : position_or_len (pointwise nat_eq (get_or names k [])) names ≡ k = placed (get_or names k []) names k (omega (arith, lt)) (λ i less same. distinct i k less lt (sym same)) (λ l. refl) in
    rw (at, lt-ltb k (length names) lt) refl

pub record IsPlaced (names : List (List ℕ)) (name : List ℕ) (k : ℕ) : Type 0 where
  pub there : k < length names
  pub same : name ≡ get_or names k []

some_same : {A : Type 0} {a b : A} → ◌≡◌ {A = Option A} (Some a) (Some b) → a ≡ b
some_same {A} {a} {b} e = cc

-- and what is found stands there
pub found_sound : (names : List (List ℕ)) (name : List ℕ) (k : ℕ) → position_of name names ≡ Some k → IsPlaced names name k
found_sound names name k h = by_test (nat_lt (position_or_len (pointwise nat_eq name) names) (length names)) refl h where
  by_test : (b : Bool) → nat_lt (position_or_len (pointwise nat_eq name) names) (length names) ≡ b → cond b (Some (position_or_len (pointwise nat_eq name) names)) None ≡ Some k → IsPlaced names name k
  by_test true e g =
      let lt = ltb-true _ _ e in
      subst (IsPlaced names name) (some_same g) (record { there = lt; same = (bytes_eq-Decides name _).0 (passes_at_first (pointwise nat_eq name) names [] lt) })
  by_test false e g = absurd cc

absent : (names : List (List ℕ)) (k : ℕ) → AreDistinct names → k < length names → position_of (get_or names k []) (take k names) ≡ None
absent names k distinct lt =
    let name = get_or names k [] in
    let long : length (take k names) ≡ k = length-take-le k names (omega (arith, lt)) in
    let at : position_or_len (pointwise nat_eq name) (take k names) ≡ length (take k names) =
    placed name (take k names) (length (take k names)) (omega arith) (λ i less same. distinct i k (omega (arith, less, long)) lt (sym (same ∙ get_or-take k names i [] (omega (arith, less, long))))) (λ l. absurd (omega (arith, l))) in
    rw at (by_test (nat_lt (length (take k names)) (length (take k names))) refl) where
      by_test : (b : Bool) → nat_lt (length (take k names)) (length (take k names)) ≡ b → cond b (Some (length (take k names))) None ≡ None
      by_test false e = refl
      by_test true e = absurd (omega (arith, ltb-true _ _ e))

-- one name more of a table
interned_next : (names old new : List (List ℕ)) (k id : ℕ) (name : List ℕ) → AreDistinct names → k < length names → name ≡ get_or names k [] → old ≡ take k names → IsInterned old name id new → new ≡ take (k + 1) names
interned_next names old new k id name distinct lt is before put =
    let none : position_of name old ≡ None = ap (λ x. position_of x old) is ∙ ap (λ xs. position_of (get_or names k []) xs) before ∙ absent names k distinct lt in
    let added : (id ≡ length old) × (new ≡ old ++ name ∷ []) = subst (λ p. MatchOption p ((id ≡ length old) × (new ≡ old ++ name ∷ [])) (λ place. (id ≡ place) × (new ≡ old))) none put in
    added.1 ∙ ap (λ xs. xs ++ name ∷ []) before ∙ ap (λ x. take k names ++ x ∷ []) is ∙ sym (take_more names k [] lt)

pub row_next : {A : Type 0} (f : A → List ℕ) (rows : List A) (row : A) (old new : List (List ℕ)) (k id : ℕ) → AreDistinct (map f rows) → k < length rows → row ≡ get_or rows k row → old ≡ take k (map f rows)
    → IsInterned old (f row) id new → new ≡ take (k + 1) (map f rows)
row_next f rows row old new k id distinct lt is before put =
    interned_next (map f rows) old new k id (f row) distinct (omega (arith, lt, length-map rows f)) (ap f is ∙ sym (get_or-map f rows k row [] lt)) before put

pub few_rows : {A : Type 0} (f : A → List ℕ) (rows : List A) (names : List (List ℕ)) (k : ℕ) → names ≡ take k (map f rows) → length rows ≤ 4000 → length names < 2 ^ 32 - 1
few_rows f rows names k is few = omega (arith, ap length is, length-take k (map f rows), length-map rows f, few)
