-- Lines from a number on.
use Rattle.std.proofs.Common.{◌≡◌, ℤ, ◌+ℤ◌, ◌-ℤ◌, ◌*ℤ◌, Option, arith}
use Rattle.std.proofs.lemmas.Int.{ints}
use Rattle.pb_cost_pieces.specs.declared.stretch.Stretch.{Stretch}
use Rattle.pb_cost_pieces.specs.Lines.{value_at}
use Rattle.pb_cost_pieces.proofs.Lines.{along_is}
use Rattle.pb_cost_pieces.proofs.Products.{times_sum_is}
use Rattle.pb_cost.specs.Pieces.{line_of, piece_to}

back : (n from : ℤ) → n ≡ (n -ℤ from) +ℤ from
back n from = omega (arith, ints)

shift : (v s p q r : ℤ) → v ≡ s +ℤ p → q ≡ p +ℤ r → v ≡ q +ℤ (s -ℤ r)
shift v s p q r e f = omega (arith, ints, e, f)

-- a stretch and its piece are the same line
pub line_is : (s : Stretch) (to : Option ℤ) (n : ℤ) → value_at s n ≡ line_of (piece_to to s) n
line_is s to n = shift (value_at s n) s.start (s.slope *ℤ (n -ℤ s.from)) (s.slope *ℤ n) (s.slope *ℤ s.from) (along_is s.start s.slope s.from n) (times_sum_is s.slope (n -ℤ s.from) s.from n (back n s.from))
