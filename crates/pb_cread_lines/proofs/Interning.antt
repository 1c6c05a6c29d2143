-- Distinct names are known by their positions.
use Rattle.std.proofs.Common.{◌≡◌, ℕ, zero, suc, ◌+◌, ◌<◌, ◌≤◌, Bool, true, false, cond, List, [], ◌∷◌, ◌++◌, length, take, get_or, map, inl, inr, Option, Some, None, MatchOption, refl, sym, ap, ◌∙◌, subst, arith, nat_eq, nat_lt, lt-ltb}
use Rattle.std.specs.List.{position_or_len}
use Rattle.std.specs.Cmp.Lexicographic.{pointwise}
use Rattle.std.specs.Prelude.{◌⊎◌, IsSome, ◌^◌, ◌-◌}
use Rattle.std.proofs.lemmas.Bool.{ltb-true, ltb-false}
use Rattle.std.proofs.lemmas.List.{take_more, get_or-take, get_or-map, length-take, length-take-le, length-map}
use Rattle.std.proofs.lemmas.Slice.Eq.{bytes_eq-Decides}
use Rattle.pb_syntax.specs.declared.tree.Payload.{Payload}
use Rattle.pb_syntax.specs.declared.tree.Payload.TheVariants.{Unit as NoWords}
use Rattle.pb_syntax.specs.declared.core_label.CoreLabel.{CoreLabel}
use Rattle.pb_cread_lines.specs.Head.{holding, payload_in, FindsFirst}
use Rattle.pb_cread_lines.specs.declared.payloads.Payloads.{Payloads}
use Rattle.pb_text.specs.Tables.{AreDistinct, IsInterned, position_of}

same_name : (x y : List ℕ) → x ≡ y → pointwise nat_eq x y ≡ true
same_name x y e = (bytes_eq-Decides x y).1 e

other_name : (x y : List ℕ) → (x ≡ y → ⊥) → pointwise nat_eq x y ≡ false
other_name x y ne = by_test (pointwise nat_eq x y) refl where
  by_test : (b : Bool) → pointwise nat_eq x y ≡ b → b ≡ false
  by_test true e = absurd (ne ((bytes_eq-Decides x y).0 e))
  by_test false e = refl

-- the first name that is the same, or the end
placed : (name : List ℕ) (xs : List (List ℕ)) (k : ℕ) → k ≤ length xs → ((i : ℕ) → i < k → name ≡ get_or xs i [] → ⊥) → (k < length xs → name ≡ get_or xs k []) → position_or_len (pointwise nat_eq name) xs ≡ k
placed name [] k le before at = omega (arith, le)
placed name (x ∷ xs) zero le before at = rw (same_name name x (at (omega arith))) refl
placed name (x ∷ xs) (suc k) le before at =
    let rest : position_or_len (pointwise nat_eq name) xs ≡ k = placed name xs k (omega (arith, le)) (λ i lt e. before (suc i) (omega (arith, lt)) e) (λ lt. at (omega (arith, lt))) in
    rw (other_name name x (before 0 (omega arith))) (omega (arith, rest))

-- a name of a table stands where it stands
pub found : (names : List (List ℕ)) (k : ℕ) → AreDistinct names → k < length names → position_of (get_or names k []) names ≡ Some k
found names k distinct lt =
    let at : position_or_len (pointwise nat_eq (get_or names k [])) names ≡ k = placed (get_or names k []) names k (omega (arith, lt)) (λ i less same. distinct i k less lt (sym same)) (λ l. refl) in
    rw (at, lt-ltb k (length names) lt) refl

absent : (names : List (List ℕ)) (k : ℕ) → AreDistinct names → k < length names → position_of (get_or names k []) (take k names) ≡ None
absent names k distinct lt =
    let name = get_or names k [] in
    let long : length (take k names) ≡ k = length-take-le k names (omega (arith, lt)) in
    let at : position_or_len (pointwise nat_eq name) (take k names) ≡ length (take k names) =
    placed name (take k names) (length (take k names)) (omega arith) (λ i less same. distinct i k (omega (arith, less, long)) lt (sym (same ∙ get_or-take k names i [] (omega (arith, less, long))))) (λ l. absurd (omega (arith, l))) in
    rw at (by_test (nat_lt (length (take k names)) (length (take k names))) refl) where
      by_test : (b : Bool) → nat_lt (length (take k names)) (length (take k names)) ≡ b → cond b (Some (length (take k names))) None ≡ None
      by_test false e = refl
      by_test true e = absurd (omega (arith, ltb-true _ _ e))

-- one name more of a table
pub interned_next : (names old new : List (List ℕ)) (k id : ℕ) (name : List ℕ) → AreDistinct names → k < length names → name ≡ get_or names k [] → old ≡ take k names → IsInterned old name id new → new ≡ take (k + 1) names
interned_next names old new k id name distinct lt is before put =
    let none : position_of name old ≡ None = ap (λ x. position_of x old) is ∙ ap (λ xs. position_of (get_or names k []) xs) before ∙ absent names k distinct lt in
    let added : (id ≡ length old) × (new ≡ old ++ name ∷ []) = subst (λ p. MatchOption p ((id ≡ length old) × (new ≡ old ++ name ∷ [])) (λ place. (id ≡ place) × (new ≡ old))) none put in
    added.1 ∙ ap (λ xs. xs ++ name ∷ []) before ∙ ap (λ x. take k names ++ x ∷ []) is ∙ sym (take_more names k [] lt)

pub row_next : {A : Type 0} (f : A → List ℕ) (rows : List A) (row : A) (old new : List (List ℕ)) (k id : ℕ) → AreDistinct (map f rows) → k < length rows → row ≡ get_or rows k row → old ≡ take k (map f rows)
    → IsInterned old (f row) id new → new ≡ take (k + 1) (map f rows)
row_next f rows row old new k id distinct lt is before put =
    interned_next (map f rows) old new k id (f row) distinct (omega (arith, lt, length-map rows f)) (ap f is ∙ sym (get_or-map f rows k row [] lt)) before put

pub few_rows : {A : Type 0} (f : A → List ℕ) (rows : List A) (names : List (List ℕ)) (k : ℕ) → names ≡ take k (map f rows) → length rows ≤ 4000 → length names < 2 ^ 32 - 1
few_rows f rows names k is few = omega (arith, ap length is, length-take k (map f rows), length-map rows f, few)

-- a label more
next_found : (old new : Payloads) (labels : List CoreLabel) (k : ℕ) → FindsFirst old labels k → holding new (payload_in labels k) ≡ Some k
    → ((q : Payload) → (holding new q ≡ holding old q) ⊎ ((q ≡ payload_in labels k) × (holding new q ≡ Some k))) → FindsFirst new labels (k + 1)
next_found old new labels k finds here others = record { sound = sound; whole = whole } where
  sound : (q : Payload) (j : ℕ) → holding new q ≡ Some j → payload_in labels j ≡ q
  sound q j at = elim (others q) as (λ o. payload_in labels j ≡ q) [ inl same ↦ finds.sound q j (sym same ∙ at) | inr this ↦ (let e : k ≡ j = cc in ap (payload_in labels) (sym e) ∙ sym this.0) ]

  some : (o : Option ℕ) (n : ℕ) → o ≡ Some n → IsSome o
  some (Some m) n e = refl
  some None n e = absurd cc

  whole : (j : ℕ) → j < k + 1 → IsSome (holding new (payload_in labels j))
  whole j lt = elim (others (payload_in labels j)) as (λ o. IsSome (holding new (payload_in labels j))) [ inl same ↦ by_place (nat_lt j k) refl same | inr this ↦ some _ k this.1 ] where
    by_place : (b : Bool) → nat_lt j k ≡ b → holding new (payload_in labels j) ≡ holding old (payload_in labels j) → IsSome (holding new (payload_in labels j))
    by_place true e same = subst IsSome (sym same) (finds.whole j (ltb-true j k e))
    by_place false e same = let last : j ≡ k = omega (arith, ltb-false j k e, lt) in subst (λ i. IsSome (holding new (payload_in labels i))) (sym last) (some _ k here)

pub finds_next : (old new : Payloads) (labels : List CoreLabel) (k : ℕ) (row : CoreLabel) → k < length labels → FindsFirst old labels k → holding new (get_or labels k row).payload ≡ Some k
    → ((q : Payload) → (holding new q ≡ holding old q) ⊎ ((q ≡ (get_or labels k row).payload) × (holding new q ≡ Some k))) → FindsFirst new labels (k + 1)
finds_next old new labels k row lt finds here others =
    let payload = λ (l : CoreLabel). l.payload in
    let same : (get_or labels k row).payload ≡ payload_in labels k = sym (get_or-map payload labels k row NoWords lt) ∙ get_or-map payload labels k (record { name = []; payload = NoWords }) NoWords lt in
    next_found old new labels k finds (ap (holding new) (sym same) ∙ here) (λ q. subst (λ r. (holding new q ≡ holding old q) ⊎ ((q ≡ r) × (holding new q ≡ Some k))) same (others q))
