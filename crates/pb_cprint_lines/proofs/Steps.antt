-- Texts that are appended piece by piece.
use Rattle.std.proofs.Common.{◌≡◌, ℕ, List, [], ◌∷◌, ◌++◌, refl, ap, sym, ◌∙◌, append_assoc, append-nil}
use Rattle.pb_local.specs.Pieces.{joined, indent, line}

-- one appending after another
pub onto : (x y z a b : List ℕ) → y ≡ x ++ a → z ≡ y ++ b → z ≡ x ++ (a ++ b)
onto x y z a b p q = q ∙ ap (λ w. w ++ b) p ∙ append_assoc x a b

pub done : (z : List ℕ) → z ≡ z ++ joined []
done z = sym (append-nil z)

-- a piece before further pieces
pub step : (x y z t : List ℕ) (rest : List (List ℕ)) → y ≡ x ++ t → z ≡ y ++ joined rest → z ≡ x ++ joined (t ∷ rest)
step x y z t rest p q = onto x y z t (joined rest) p q

joined_two : (ps rest : List (List ℕ)) → joined (ps ++ rest) ≡ joined ps ++ joined rest
joined_two [] rest = refl
joined_two (p ∷ ps) rest = ap (λ w. p ++ w) (joined_two ps rest) ∙ sym (append_assoc p (joined ps) (joined rest))

-- pieces before further pieces
pub steps : (x y z : List ℕ) (ps rest : List (List ℕ)) → y ≡ x ++ joined ps → z ≡ y ++ joined rest → z ≡ x ++ joined (ps ++ rest)
steps x y z ps rest p q = onto x y z (joined ps) (joined rest) p q ∙ ap (λ w. x ++ w) (sym (joined_two ps rest))

-- an indented line of pieces
pub line_of : (d : ℕ) (ts : List (List ℕ)) (x y z now : List ℕ) → y ≡ x ++ indent d → z ≡ y ++ joined ts → now ≡ z ++ 10 ∷ [] → now ≡ x ++ line d (joined ts)
line_of d ts x y z now p q r = onto x z now (indent d ++ joined ts) (10 ∷ []) (onto x y z (indent d) (joined ts) p q) r

-- a line of pieces that isn't indented
pub flat_line : (ts : List (List ℕ)) (x z now : List ℕ) → z ≡ x ++ joined ts → now ≡ z ++ 10 ∷ [] → now ≡ x ++ line 0 (joined ts)
flat_line ts x z now p q = onto x z now (joined ts) (10 ∷ []) p q
