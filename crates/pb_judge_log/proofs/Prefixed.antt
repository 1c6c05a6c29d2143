-- Words that were read, before those that are to be read.
use Rattle.std.proofs.Common.{◌≡◌, ℕ, List, [], ◌∷◌, ◌++◌, Option, Some, None, refl, sym, ap, ◌∙◌, append-nil, append_assoc}
use Rattle.pb_syntax.specs.declared.tree.Payload.{Payload}
use Rattle.pb_text_read.specs.Fronts.{◌>>=◌}
use Rattle.pb_judge_log.specs.Reading.{words_in, word_in, with_word, fields_behind, some_fields}

abbrev pub prefixed : List ℕ → Option (List ℕ) → Option (List ℕ)
prefixed before None = None
prefixed before (Some words) = Some (before ++ words)

one_more : (before : List ℕ) (w : ℕ) (o : Option (List ℕ)) → prefixed (before ++ w ∷ []) o ≡ prefixed before (with_word w o)
one_more before w None = refl
one_more before w (Some ws) = ap (λ xs. Some xs) (append_assoc before (w ∷ []) ws)

pub some_list : (fs gs : List (List ℕ)) → some_fields fs ≡ Some gs → fs ≡ gs
some_list [] gs e = absurd cc
some_list (f ∷ fs) gs e = cc

no_list : (fs : List (List ℕ)) → some_fields fs ≡ None → fs ≡ []
no_list [] e = refl
no_list (f ∷ fs) e = absurd cc

module _ (payload : Payload) (before text rest : List ℕ) (h : prefixed before (words_in payload (fields_behind rest)) ≡ words_in payload (fields_behind text)) where
  -- a word more
  pub word_more : (field behind more : List ℕ) (w : ℕ) → some_fields (fields_behind rest) ≡ Some (field ∷ fields_behind behind) → word_in payload field ≡ Some w → more ≡ before ++ w ∷ [] → prefixed more (words_in payload (fields_behind behind)) ≡ words_in payload (fields_behind text)
  word_more field behind more w e r m =
      ap (λ xs. prefixed xs (words_in payload (fields_behind behind))) m ∙ one_more before w (words_in payload (fields_behind behind))
      ∙ ap (λ o. prefixed before (o >>= λ x. with_word x (words_in payload (fields_behind behind)))) (sym r)
      ∙ ap (λ fs. prefixed before (words_in payload fs)) (sym (some_list (fields_behind rest) (field ∷ fields_behind behind) e)) ∙ h

  -- no word
  pub no_word : (field behind : List ℕ) → some_fields (fields_behind rest) ≡ Some (field ∷ fields_behind behind) → word_in payload field ≡ None → None ≡ words_in payload (fields_behind text)
  no_word field behind e r =
      ap (λ o. prefixed before (o >>= λ x. with_word x (words_in payload (fields_behind behind)))) (sym r)
      ∙ ap (λ fs. prefixed before (words_in payload fs)) (sym (some_list (fields_behind rest) (field ∷ fields_behind behind) e)) ∙ h

  -- no field more
  pub all_words : some_fields (fields_behind rest) ≡ None → Some before ≡ words_in payload (fields_behind text)
  all_words e = ap (λ xs. Some xs) (sym (append-nil before)) ∙ ap (λ fs. prefixed before (words_in payload fs)) (sym (no_list (fields_behind rest) e)) ∙ h
