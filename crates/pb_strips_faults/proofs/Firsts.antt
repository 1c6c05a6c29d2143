-- The first place of lists one behind the other.
use Rattle.std.proofs.Common.{◌≡◌, Some, None, List, [], ◌∷◌, ◌++◌, refl, sym, arith}
use Rattle.pb_text.specs.declared.place.Place.{Place}
use Rattle.pb_strips_faults.specs.Found.{first}

pub first_here : (a b : List Place) (p : Place) → Some p ≡ first a → first (a ++ b) ≡ Some p
first_here [] b p e = absurd (grind arith)
first_here (q ∷ qs) b p e = sym e

pub first_later : (a b : List Place) → None ≡ first a → first (a ++ b) ≡ first b
first_later [] b e = refl
first_later (q ∷ qs) b e = absurd (grind arith)
