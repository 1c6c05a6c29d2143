-- The parts of a line, one after the other.
use Rattle.std.proofs.Common.{◌≡◌, ℕ, List, [], ◌++◌, ap, sym, ◌∙◌, append_assoc, append-nil}

pub four : (front a b c : List ℕ) → front ++ (a ++ (b ++ (c ++ []))) ≡ front ++ (a ++ b ++ c)
four front a b c = ap (λ (l : List ℕ). front ++ l) (ap (λ (l : List ℕ). a ++ (b ++ l)) (append-nil c) ∙ sym (append_assoc a b c))
