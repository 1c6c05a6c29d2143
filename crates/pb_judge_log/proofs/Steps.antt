-- What is read field by field, put together.
use Rattle.std.proofs.Common.{◌≡◌, ℕ, ◌^◌, List, ◌∷◌, Some, ap, ◌∙◌}
use Rattle.pb_syntax.specs.declared.core_label.KernelKind.TheVariants.{Choice}
use Rattle.pb_local.specs.Tree.{Program}
use Rattle.pb_text_read.specs.Fronts.{◌>>=◌}
use Rattle.pb_judge_log.specs.declared.actions.Deed.TheVariants as D
use Rattle.pb_judge_log.specs.Reading.{some_fields, whole_number, label_in, kernel_in, rank_in, answer_in, choose_in, labelled_in, message_in}
use Rattle.pb_judge_log.proofs.Prefixed.{some_list}

module _ (p : Program) (total : ℕ) where
  pub choose_is : (fs more gs : List (List ℕ)) (name field : List ℕ) (k a : ℕ) → some_fields fs ≡ Some (name ∷ more) → kernel_in p total Choice name ≡ Some k → some_fields more ≡ Some (field ∷ gs) → whole_number (2 ^ 32) field ≡ Some a
      → choose_in p total fs ≡ Some (D.Choose k a, gs)
  choose_is fs more gs name field k a e1 e2 e3 e4 =
      ap (choose_in p total) (some_list fs (name ∷ more) e1) ∙ ap (λ o. o >>= λ kernel. answer_in p total kernel more) e2
      ∙ ap (answer_in p total k) (some_list more (field ∷ gs) e3) ∙ ap (λ o. o >>= λ answer. Some (D.Choose k answer, gs)) e4

  pub message_is : (fs more gs : List (List ℕ)) (field name : List ℕ) (q l : ℕ) → some_fields fs ≡ Some (field ∷ more) → rank_in p total field ≡ Some q → some_fields more ≡ Some (name ∷ gs) → label_in p total name ≡ Some l
      → message_in p total fs ≡ Some ((q, l), gs)
  message_is fs more gs field name q l e1 e2 e3 e4 =
      ap (message_in p total) (some_list fs (field ∷ more) e1) ∙ ap (λ o. o >>= λ peer. labelled_in p total peer more) e2
      ∙ ap (labelled_in p total q) (some_list more (name ∷ gs) e3) ∙ ap (λ o. o >>= λ label. Some ((q, label), gs)) e4
