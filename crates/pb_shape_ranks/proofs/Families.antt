-- The family of a text, and that of its protocol: the same ranks, answers and collectives.
use Rattle.std.proofs.Common.{◌≡◌, ℕ, zero, suc, ◌==◌, ℤ, cond, nat_lt, get_or, List, [], ◌∷◌, length, refl, sym, ap, ap₂, ◌∙◌}
use Rattle.std.proofs.Math.Path.{fun_ext}
use Rattle.pb_syntax.specs.declared.tree.Payload.{Payload}
use Rattle.pb_syntax.specs.declared.tree.Payload.TheVariants.{Unit as NoWords, Int32, Uint32}
use Rattle.pb_syntax.specs.declared.core_label.CoreLabel.{CoreLabel}
use Rattle.pb_world.specs.Actions.{Action, Choose, Run, Send, Recv, Enter, Leave, Operation, Max, Min, Sum, Collective, Barrier, Broadcast, Reduce, Allreduce}
use Rattle.pb_core_language.specs.Collectives as C
use Rattle.pb_core_language.specs.Collectives.{setting_of, payload_of}
use Rattle.pb_core_language.specs.Ranks as CR
use Rattle.pb_core_language.specs.Plain.{Protocol}
use Rattle.pb_core_language.specs.Run.{Setting}
use Rattle.pb_core_language.specs.Run as R
use Rattle.pb_local.specs.Collectives as L
use Rattle.pb_local.specs.Family as F
use Rattle.pb_local.specs.Tables.{label_at}
use Rattle.pb_local.specs.Tree.{Program}
use Rattle.pb_shape.specs.Shape.{HasShape}
use Rattle.pb_shape_follow.proofs.Starts.{total_same}

-- ---- words

word_by_word_same : (f : ℕ → ℕ → ℕ) (xs ys : List ℕ) → C.word_by_word f xs ys ≡ L.word_by_word f xs ys
word_by_word_same f [] ys = refl
word_by_word_same f (x ∷ xs) [] = refl
word_by_word_same f (x ∷ xs) (y ∷ ys) = ap (λ zs. f x y ∷ zs) (word_by_word_same f xs ys)

combined_same : (f : ℕ → ℕ → ℕ) (k : ℕ) (words : ℕ → List ℕ) → C.combined f k words ≡ L.combined f k words
combined_same f zero words = refl
combined_same f (suc k) words = ap (λ xs. C.word_by_word f xs (words (suc k))) (combined_same f k words) ∙ word_by_word_same f (L.combined f k words) (words (suc k))

combined_of_same : (f : ℕ → ℕ → ℕ) (k : ℕ) (words : ℕ → List ℕ) → C.combined_of f k words ≡ L.combined_of f k words
combined_of_same f zero words = refl
combined_of_same f (suc k) words = combined_same f k words

combine_same : (payload : Payload) (operation : Operation) (x y : ℕ) → C.combine payload operation x y ≡ L.combine payload operation x y
combine_same NoWords Max x y = refl
combine_same NoWords Min x y = refl
combine_same NoWords Sum x y = refl
combine_same (Int32 count) Max x y = refl
combine_same (Int32 count) Min x y = refl
combine_same (Int32 count) Sum x y = refl
combine_same (Uint32 count) Max x y = refl
combine_same (Uint32 count) Min x y = refl
combine_same (Uint32 count) Sum x y = refl

count_same : (payload : Payload) → C.word_count payload ≡ L.word_count payload
count_same NoWords = refl
count_same (Int32 count) = refl
count_same (Uint32 count) = refl

payload_same : (labels : List CoreLabel) (k : ℕ) → payload_of labels k ≡ (get_or {A = CoreLabel} labels k (record { name = []; payload = NoWords })).payload
payload_same [] k = refl
payload_same (x ∷ xs) zero = refl
payload_same (x ∷ xs) (suc k) = payload_same xs k

module _ (p : Protocol) (l : Program) (n : ℤ) (shape : HasShape p l) where
  label_same : (k : ℕ) → payload_of p.labels k ≡ (label_at l k).payload
  label_same k = payload_same p.labels k ∙ ap (λ labels. (get_or {A = CoreLabel} labels k (record { name = []; payload = NoWords })).payload) (sym shape.labels)

  words_same : (k : ℕ) → C.word_count (payload_of p.labels k) ≡ L.words_of l n k
  words_same k = count_same (payload_of p.labels k) ∙ ap L.word_count (label_same k)

  weight_same : (j : Collective) (r : ℕ) → (setting_of p n).weight j r ≡ L.weight l n j r
  weight_same Barrier r = refl
  weight_same (Broadcast label root) r = ap (λ w. cond (r == root) w 0) (words_same label)
  weight_same (Reduce label operation root) r = words_same label
  weight_same (Allreduce label operation) r = words_same label

  allowed_by : (r : ℕ) (a : Action) → R.is_allowed (setting_of p n) r a ≡ F.is_allowed l n r a
  allowed_by r (Choose k m b) = refl
  allowed_by r (Run k) = refl
  allowed_by r (Send to label words) = ap (λ w. length words == w) (words_same label)
  allowed_by r (Recv from label words) = refl
  allowed_by r (Enter joint words) = ap (λ w. length words == w) (weight_same joint r)
  allowed_by r (Leave joint words) = refl

  pub allowed_same : R.is_allowed (setting_of p n) ≡ F.is_allowed l n
  allowed_same = fun_ext (λ r. fun_ext (λ a. allowed_by r a))

  needs_by : (j : Collective) (r q : ℕ) → (setting_of p n).needs j r q ≡ L.needs j r q
  needs_by Barrier r q = refl
  needs_by (Broadcast label root) r q = refl
  needs_by (Reduce label operation root) r q = refl
  needs_by (Allreduce label operation) r q = refl

  pub needs_same : (setting_of p n).needs ≡ L.needs
  needs_same = fun_ext (λ j. fun_ext (λ r. fun_ext (λ q. needs_by j r q)))

  combination_same : (label : ℕ) (operation : Operation) (words : ℕ → List ℕ) → C.combined_of (C.combine (payload_of p.labels label) operation) (CR.total p.roles n) words ≡ L.combination l n label operation words
  combination_same label operation words =
      combined_of_same (C.combine (payload_of p.labels label) operation) (CR.total p.roles n) words
      ∙ ap₂ (λ f t. L.combined_of f t words) (fun_ext (λ x. fun_ext (λ y. combine_same (payload_of p.labels label) operation x y)) ∙ ap (λ payload. L.combine payload operation) (label_same label)) (total_same p l n shape)

  outcome_by : (j : Collective) (r : ℕ) (words : ℕ → List ℕ) → (setting_of p n).outcome j r words ≡ L.outcome l n j r words
  outcome_by Barrier r words = refl
  outcome_by (Broadcast label root) r words = ap (λ t. cond (nat_lt root t) (words root) []) (total_same p l n shape)
  outcome_by (Reduce label operation root) r words = ap (λ xs. cond (r == root) xs []) (combination_same label operation words)
  outcome_by (Allreduce label operation) r words = combination_same label operation words

  pub outcome_same : (setting_of p n).outcome ≡ L.outcome l n
  outcome_same = fun_ext (λ j. fun_ext (λ r. fun_ext (λ words. outcome_by j r words)))
