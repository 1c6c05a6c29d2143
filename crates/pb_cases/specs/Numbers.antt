-- Lists of numbers.
use Rattle.std.specs.Prelude.{ℕ, ◌<◌, ℤ, pos, ◌<ℤ◌, List, length, get_or}
use Rattle.pb_affine.specs.Values.{IsNear}

-- the number at a place
abbrev pub nth : List ℤ → ℕ → ℤ
nth list i = get_or list i (pos 0)

-- each number is less than all after it
pub record IsAscending (list : List ℤ) : Type 0 where
  pub below : (i j : ℕ) → i < j → j < length list → nth list i <ℤ nth list j

pub record IsNearList (list : List ℤ) : Type 0 where
  pub near : (j : ℕ) → j < length list → IsNear (nth list j)
