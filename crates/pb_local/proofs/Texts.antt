-- Lines of several parts.
use Rattle.std.proofs.Common.{◌≡◌, ℕ, ◌+◌, ◌<◌, List, [], ◌∷◌, ◌++◌, length, drop, get_or, ap, sym, ◌∙◌, append_assoc, append-nil}
use Rattle.std.specs.Prelude.{codes}
use Rattle.pb_affine.specs.declared.guard.Guard.{Guard}
use Rattle.pb_local.specs.Layout.{guard_text, others_text}
use Rattle.pb_local.specs.Pieces.{joined}
use Rattle.pb_local.specs.Tree.{Program}
use Rattle.pb_local.proofs.Steps.{text_step}

-- the indentation, three pieces, one part more and the end of the line
pub four_parts : (out a b d now indent x y z w : List ℕ) → a ≡ out ++ indent → b ≡ a ++ joined (x ∷ y ∷ z ∷ []) → d ≡ b ++ w → now ≡ d ++ 10 ∷ []
    → now ≡ out ++ (indent ++ joined (x ∷ y ∷ z ∷ w ∷ []) ++ 10 ∷ [])
four_parts out a b d now indent x y z w is_a is_b is_d last =
    let all : now ≡ (((out ++ indent) ++ joined (x ∷ y ∷ z ∷ [])) ++ w) ++ 10 ∷ [] =
    last ∙ ap (λ k. k ++ 10 ∷ []) (is_d ∙ ap (λ k. k ++ w) (is_b ∙ ap (λ k. k ++ joined (x ∷ y ∷ z ∷ [])) is_a)) in
    all ∙ simp (append_assoc, append-nil)

-- one more guard that is joined by 'or'
pub others_step : (p : Program) (gs : List Guard) (i : ℕ) (g : Guard) (out mid new start : List ℕ) → i < length gs → g ≡ get_or gs i g → mid ≡ out ++ codes " or " → new ≡ mid ++ guard_text p g
    → out ++ others_text p (drop i gs) ≡ start → new ++ others_text p (drop (i + 1) gs) ≡ start
others_step p gs i g out mid new start lt is first second done =
    text_step (others_text p) (λ h. codes " or " ++ guard_text p h) gs i g out new start
    (λ h hs. ap (λ w. codes " or " ++ (guard_text p h ++ w)) (append-nil (others_text p hs)) ∙ sym (append_assoc (codes " or ") (guard_text p h) (others_text p hs)))
    lt is (second ∙ ap (λ w. w ++ guard_text p g) first ∙ append_assoc out (codes " or ") (guard_text p g)) done
