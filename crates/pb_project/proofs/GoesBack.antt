-- The numbers of loops, and where a continue goes back to.
use Rattle.std.proofs.Common.{◌≡◌, ℕ, zero, suc, List, [], ◌∷◌, get_or, refl}
use Rattle.pb_shape.specs.Loops.{number_at}

pub number_is : (xs : List ℕ) (i : ℕ) → get_or xs i 0 ≡ number_at xs i
number_is [] i = refl
number_is (x ∷ xs) zero = refl
number_is (x ∷ xs) (suc i) = number_is xs i
