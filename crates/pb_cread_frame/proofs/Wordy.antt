-- The functions of the first label with words come next.
use Rattle.std.proofs.Common.{◌≡◌, ℕ, Bool, true, false, List, [], ◌∷◌, ◌++◌, Some, refl, sym, ap, ◌∙◌, drop}
use Rattle.std.specs.Prelude.{if◌then◌else◌}
use Rattle.pb_syntax.specs.declared.core_label.CoreLabel.{CoreLabel}
use Rattle.pb_ctree.specs.Functions.{has_words}
use Rattle.pb_cread_frame.specs.Reading.{Read, State, state, in_body, of_make, make_opening, to_words, first_wordy, words_state, of_prelude, of_take, ended, with_body, number_texts, brace_text}

pub words_are : (r : Read) (before : List (List ℕ)) (ls : List CoreLabel) → to_words r before ls ≡ words_state r before (first_wordy ls)
words_are r before [] = refl
words_are r before (l ∷ ls) = by_test (has_words l.payload) (words_are r before ls) where
  by_test : (b : Bool) → to_words r before ls ≡ words_state r before (first_wordy ls)
      → (if b then state r (before ++ make_opening l) (in_body (of_make l ls)) else to_words r before ls) ≡ words_state r before (if b then Some (l, ls) else first_wordy ls)
  by_test true e = refl
  by_test false e = e

-- the end of the prelude, and of a function that takes words
pub prelude_ends : (middle old : Read) (lines : List (List ℕ)) (new : State) → middle ≡ record old { prelude = old.text; text = [] } → lines ≡ number_texts middle.roles
    → new ≡ words_state middle lines (first_wordy (drop 0 middle.labels)) → new ≡ ended old of_prelude
prelude_ends middle old lines new a b c =
    let after = record old { prelude = old.text; text = [] } in
    c ∙ ap (λ l. words_state middle l (first_wordy middle.labels)) b ∙ ap (λ (m : Read). words_state m (number_texts m.roles) (first_wordy m.labels)) a ∙ sym (words_are after (number_texts old.roles) old.labels)

pub take_ends : (middle old : Read) (lines : List (List ℕ)) (behind : ℕ) (new : State) → middle ≡ with_body old → lines ≡ brace_text ∷ []
    → new ≡ words_state middle lines (first_wordy (drop behind middle.labels)) → new ≡ ended old (of_take (drop behind old.labels))
take_ends middle old lines behind new a b c =
    c ∙ ap (λ l. words_state middle l (first_wordy (drop behind middle.labels))) b ∙ ap (λ (m : Read). words_state m (brace_text ∷ []) (first_wordy (drop behind m.labels))) a
    ∙ sym (words_are (with_body old) (brace_text ∷ []) (drop behind old.labels))
