-- Lines that were taken, one after the other.
use Rattle.std.proofs.Common.{◌≡◌, ℕ, true, List, [], ◌∷◌, ◌++◌, length, map, refl, sym, ap, ◌∙◌, append_assoc, append-nil, arith, length-append}
use Rattle.std.proofs.lemmas.List.Elements.{All-push}
use Rattle.pb_text.specs.Places.{one_more}
use Rattle.pb_local.specs.Pieces.{joined}
use Rattle.pb_cread_frame.specs.Rows.{is_line, bare}
use Rattle.pb_cread.specs.Rows.{line_number, IsFirst}
use Rattle.pb_cread.specs.Reached.{Taken}

pub joined_push : (lines : List (List ℕ)) (line : List ℕ) → joined (lines ++ line ∷ []) ≡ joined lines ++ line
joined_push [] line = append-nil line
joined_push (l ∷ ls) line = ap (λ x. l ++ x) (joined_push ls line) ∙ sym (append_assoc l (joined ls) line)

pub bares_push : (lines : List (List ℕ)) (line : List ℕ) → map bare (lines ++ line ∷ []) ≡ map bare lines ++ bare line ∷ []
bares_push [] line = refl
bares_push (l ∷ ls) line = ap (λ x. bare l ∷ x) (bares_push ls line)

pub none_taken : (text : List ℕ) → Taken text [] text 1
none_taken text = record { begins = record { each = λ k d less. absurd (omega (arith, less)); whole = refl }; number = refl }

pub one_taken : (text rest : List ℕ) (n : ℕ) (lines : List (List ℕ)) (line more : List ℕ) → Taken text lines rest n → IsFirst rest line more → Taken text (lines ++ line ∷ []) more (one_more n)
one_taken text rest n lines line more t first = record {
  begins = record {
    each = All-push (λ l. is_line l ≡ true) lines line t.begins.each first.is;
    whole = t.begins.whole ∙ ap (λ x. joined lines ++ x) first.whole ∙ sym (append_assoc (joined lines) line more) ∙ ap (λ x. x ++ more) (sym (joined_push lines line));
  };
  number = ap one_more t.number ∙ (let e : one_more (line_number (length lines)) ≡ line_number (length (lines ++ line ∷ [])) = omega (arith, length-append lines (line ∷ [])) in e);
}
