-- Tables given as lists.
use Rattle.std.proofs.Common.{◌≡◌, ◌≢◌, ℕ, zero, suc, ◌<◌, ◌≤◌, ◌==◌, cond, Bool, true, false, List, [], ◌∷◌, length, map, slice_index_or, refl, sym, ap, ◌∙◌, arith, inl, inr}
use Rattle.std.proofs.Math.ListN.{set}
use Rattle.std.proofs.lemmas.List.{map-set, length-map}
use Rattle.std.proofs.lemmas.Bool.{eq-eqb, eqb-true}
use Rattle.pb_world.proofs.Lists.{eqb_cases, not_eqb}
use Rattle.pb_world.specs.Actions.{Answers, AnswerTable}
use Rattle.pb_world.specs.Sequencer.{behind_first}
use Rattle.pb_plain_run.specs.declared.answers.Left.{Left}
use Rattle.pb_plain_run.specs.Used.{table, branch_used, words_used}
use Rattle.pb_plain_run.specs.View.{left_of, left_table}

pub same_table : (A B : AnswerTable) → ((r : ℕ) → A r ≡ B r) → A ≡ B
same_table A B h = λ i r. h r i

abbrev none : Answers
none = record { branches = []; words = [] }

eqb_suc : (i r : ℕ) → (suc i == suc r) ≡ (i == r)
eqb_suc i r = elim (eqb_cases i r) [
  | inl h ↦ eq-eqb (suc i) (suc r) (ap suc h.0) ∙ sym h.1
  | inr h ↦ not_eqb (suc i) (suc r) (let ne = h.0 in omega arith) ∙ sym h.1
]

table_past : (xs : List Answers) (r : ℕ) → length xs ≤ r → table xs r ≡ none
table_past [] r h = refl
table_past (x ∷ xs) zero h = absurd (omega arith)
table_past (x ∷ xs) (suc r) h = table_past xs r (omega arith)

table_at : (xs : List Left) (r : ℕ) (d : Left) → r < length xs → left_table xs r ≡ left_of (slice_index_or xs r d)
table_at [] r d h = absurd (omega arith)
table_at (x ∷ xs) zero d h = refl
table_at (x ∷ xs) (suc r) d h = table_at xs r d (omega arith)

pub left_is : (xs : List Left) (r : ℕ) (d : Left) → r < length xs → left_of (slice_index_or xs r d) ≡ left_table xs r
left_is xs r d h = sym (table_at xs r d h)

pub left_past : (xs : List Left) (r : ℕ) → length xs ≤ r → left_table xs r ≡ none
left_past xs r h = table_past (map left_of xs) r (omega (arith, length-map xs left_of))

table_set : (xs : List Answers) (i : ℕ) (a : Answers) (r : ℕ) → i < length xs → table (set xs i a) r ≡ cond (i == r) a (table xs r)
table_set [] i a r h = absurd (omega arith)
table_set (x ∷ xs) zero a zero h = refl
table_set (x ∷ xs) zero a (suc r) h = let ne : 0 ≢ suc r = omega arith in ap (λ c. cond c a (table xs r)) (sym (not_eqb 0 (suc r) ne))
table_set (x ∷ xs) (suc i) a zero h = let ne : suc i ≢ 0 = omega arith in ap (λ c. cond c a x) (sym (not_eqb (suc i) 0 ne))
table_set (x ∷ xs) (suc i) a (suc r) h = table_set xs i a r (omega arith) ∙ ap (λ c. cond c a (table xs r)) (sym (eqb_suc i r))

-- what stands at i is replaced by what is left of it
set_is : (f : Answers → Answers) (xs : List Left) (i : ℕ) (y : Left) → i < length xs → left_of y ≡ f (left_table xs i) → (r : ℕ) → left_table (set xs i y) r ≡ cond (i == r) (f (left_table xs r)) (left_table xs r)
set_is f xs i y h e r =
    ap (λ l. table l r) (map-set left_of xs i y)
    ∙ table_set (map left_of xs) i (left_of y) r (omega (arith, length-map xs left_of))
    ∙ go (i == r) refl
  where
    go : (c : Bool) → (i == r) ≡ c → cond c (left_of y) (left_table xs r) ≡ cond c (f (left_table xs r)) (left_table xs r)
    go true is = e ∙ ap (λ k. f (left_table xs k)) (eqb-true i r is)
    go false is = refl

abbrev pub without_branch : Answers → Answers
without_branch a = record { branches = behind_first a.branches; words = a.words }

abbrev pub without_words : Answers → Answers
without_words a = record { branches = a.branches; words = behind_first a.words }

pub branch_set : (xs : List Left) (i : ℕ) (y : Left) → i < length xs → left_of y ≡ without_branch (left_table xs i) → left_table (set xs i y) ≡ branch_used i (left_table xs)
branch_set xs i y h e = same_table (left_table (set xs i y)) (branch_used i (left_table xs)) (set_is without_branch xs i y h e)

pub words_set : (xs : List Left) (i : ℕ) (y : Left) → i < length xs → left_of y ≡ without_words (left_table xs i) → left_table (set xs i y) ≡ words_used i (left_table xs)
words_set xs i y h e = same_table (left_table (set xs i y)) (words_used i (left_table xs)) (set_is without_words xs i y h e)

-- of a rank behind the list nothing is used up
unchanged : (f : Answers → Answers) → f none ≡ none → (xs : List Left) (i : ℕ) → length xs ≤ i → (r : ℕ) → left_table xs r ≡ cond (i == r) (f (left_table xs r)) (left_table xs r)
unchanged f n xs i h r = go (i == r) refl
  where
    nothing_there : (i ≡ r) → left_table xs r ≡ none
    nothing_there is = left_past xs r (omega arith)

    go : (c : Bool) → (i == r) ≡ c → left_table xs r ≡ cond c (f (left_table xs r)) (left_table xs r)
    go true is = let z = nothing_there (eqb-true i r is) in z ∙ sym n ∙ ap f (sym z)
    go false is = refl

pub branch_unused : (xs : List Left) (i : ℕ) → length xs ≤ i → left_table xs ≡ branch_used i (left_table xs)
branch_unused xs i h = same_table (left_table xs) (branch_used i (left_table xs)) (unchanged without_branch refl xs i h)

pub words_unused : (xs : List Left) (i : ℕ) → length xs ≤ i → left_table xs ≡ words_used i (left_table xs)
words_unused xs i h = same_table (left_table xs) (words_used i (left_table xs)) (unchanged without_words refl xs i h)
