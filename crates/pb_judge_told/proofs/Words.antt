-- Words of 32 bits stay such in channels and collectives.
use Rattle.std.proofs.Common.{◌≡◌, ℕ, zero, suc, ◌+◌, ◌^◌, ◌<◌, ◌≤◌, ◌==◌, cond, nat_lt, ℤ, Bool, true, false, if◌then◌else◌, List, [], ◌∷◌, ◌++◌, slice_get, Some, refl, subst, arith}
use Rattle.std.specs.List.{AllByRecursion}
use Rattle.std.proofs.lemmas.Bool.{eq-eqb}
use Rattle.std.proofs.lemmas.Bool.Decides.{nat_tests}
use Rattle.std.proofs.lemmas.Nat.{mod_below}
use Rattle.pb_syntax.specs.declared.tree.Payload.{Payload}
use Rattle.pb_world.specs.Actions.{Operation, Max, Min, Sum, Collective, Barrier, Broadcast, Reduce, Allreduce}
use Rattle.pb_world.specs.World.{Message, Takes, first, later}
use Rattle.pb_local.specs.Collectives.{is_at_most, combine, word_by_word, combined, combined_of, needs, combination, outcome}
use Rattle.pb_local.specs.Ranks.{total}
use Rattle.pb_local.specs.Tables.{label_at}
use Rattle.pb_local.specs.Tree.{Program}
use Rattle.pb_judge_told.specs.Told.{AreWords}

-- ---- lists

pub all_append : {A : Type 0} (P : A → Type 0) (xs ys : List A) → AllByRecursion P xs → AllByRecursion P ys → AllByRecursion P (xs ++ ys)
all_append P [] ys h g = g
all_append P (x ∷ xs) ys h g = (h.0, all_append P xs ys h.1 g)

pub all_front : {A : Type 0} (P : A → Type 0) (xs ys : List A) → AllByRecursion P (xs ++ ys) → AllByRecursion P xs
all_front P [] ys h = tt
all_front P (x ∷ xs) ys h = (h.0, all_front P xs ys h.1)

pub all_back : {A : Type 0} (P : A → Type 0) (xs ys : List A) → AllByRecursion P (xs ++ ys) → AllByRecursion P ys
all_back P [] ys h = h
all_back P (x ∷ xs) ys h = all_back P xs ys h.1

pub all_get : {A : Type 0} (P : A → Type 0) (xs : List A) (k : ℕ) (x : A) → slice_get xs k ≡ Some x → AllByRecursion P xs → P x
all_get P [] k x e h = absurd cc
all_get P (y ∷ xs) zero x e h = let same : y ≡ x = cc in subst P same h.0
all_get P (y ∷ xs) (suc k) x e h = all_get P xs k x e h.1

-- ---- channels

abbrev pub IsSmallMessage : Message → Type 0
IsSmallMessage m = AreWords m.words

pub taken_small : {label : ℕ} {ms rest : List Message} {m : Message} → Takes label ms m rest → AllByRecursion IsSmallMessage ms → IsSmallMessage m × AllByRecursion IsSmallMessage rest
taken_small (first e) h = h
taken_small (later e takes) h = let more = taken_small takes h.1 in (more.0, (h.0, more.1))

-- ---- collectives

word_small : ℕ → Type 0
word_small word = word < 2 ^ 32

combine_small : (payload : Payload) (operation : Operation) (x y : ℕ) → x < 2 ^ 32 → y < 2 ^ 32 → combine payload operation x y < 2 ^ 32
combine_small payload Min x y a b = by (is_at_most payload x y) where
  by : (t : Bool) → (if t then x else y) < 2 ^ 32
  by true = a
  by false = b
combine_small payload Max x y a b = by (is_at_most payload x y) where
  by : (t : Bool) → (if t then y else x) < 2 ^ 32
  by true = b
  by false = a
combine_small payload Sum x y a b = mod_below (x + y) (2 ^ 32) (omega arith)

module _ (f : ℕ → ℕ → ℕ) (small : (x y : ℕ) → x < 2 ^ 32 → y < 2 ^ 32 → f x y < 2 ^ 32) where
  by_word_small : (xs ys : List ℕ) → AreWords xs → AreWords ys → AreWords (word_by_word f xs ys)
  by_word_small [] ys a b = tt
  by_word_small (x ∷ xs) [] a b = tt
  by_word_small (x ∷ xs) (y ∷ ys) a b = (small x y a.0 b.0, by_word_small xs ys a.1 b.1)

  combined_small : (r : ℕ) (words : ℕ → List ℕ) → ((q : ℕ) → q ≤ r → AreWords (words q)) → AreWords (combined f r words)
  combined_small zero words each = each 0 (omega arith)
  combined_small (suc r) words each = by_word_small (combined f r words) (words (suc r)) (combined_small r words (λ q le. each q (omega (arith, le)))) (each (suc r) (omega arith))

  combined_of_small : (t : ℕ) (words : ℕ → List ℕ) → ((q : ℕ) → q < t → AreWords (words q)) → AreWords (combined_of f t words)
  combined_of_small zero words each = tt
  combined_of_small (suc r) words each = combined_small r words (λ q le. each q (omega (arith, le)))

module _ (p : Program) (n : ℤ) (words : ℕ → List ℕ) where
  combination_small : (label : ℕ) (operation : Operation) → ((q : ℕ) → q < total p.roles n → AreWords (words q)) → AreWords (combination p n label operation words)
  combination_small label operation each = combined_of_small (combine (label_at p label).payload operation) (combine_small (label_at p label).payload operation) (total p.roles n) words each

  pub outcome_small : (j : Collective) (r : ℕ) → ((q : ℕ) → q < total p.roles n → needs j r q ≡ true → AreWords (words q)) → AreWords (outcome p n j r words)
  outcome_small Barrier r each = tt
  outcome_small (Broadcast label root) r each = by (nat_lt root (total p.roles n)) refl where
    by : (b : Bool) → nat_lt root (total p.roles n) ≡ b → AreWords (cond b (words root) [])
    by true e = each root (grind (arith, nat_tests, e)) (eq-eqb root root refl)
    by false e = tt
  outcome_small (Reduce label operation root) r each = by (r == root) refl where
    by : (b : Bool) → (r == root) ≡ b → AreWords (cond b (combination p n label operation words) [])
    by true e = combination_small label operation (λ q lt. each q lt e)
    by false e = tt
  outcome_small (Allreduce label operation) r each = combination_small label operation (λ q lt. each q lt refl)
