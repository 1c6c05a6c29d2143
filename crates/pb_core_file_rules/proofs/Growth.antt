-- The growth of both ends of ranges, counted apart.
use Rattle.std.proofs.Common.{◌≡◌, ℕ, ◌+◌, ℤ, pos, ◌+ℤ◌, ◌-ℤ◌, int_le, nat_lt, arith}
use Rattle.std.proofs.lemmas.Int.{ints}
use Rattle.std.proofs.lemmas.Bool.Decides.{nat_tests}

pub one_more : (high low up down : ℕ) (here rest all : ℤ) → here ≡ pos up -ℤ pos down → pos high +ℤ (here +ℤ rest) ≡ pos low +ℤ all → pos (high + up) +ℤ rest ≡ pos (low + down) +ℤ all
one_more high low up down here rest all e h = omega (arith, ints, e, h)

pub is_more : (high low : ℕ) (all : ℤ) → pos high +ℤ pos 0 ≡ pos low +ℤ all → nat_lt low high ≡ int_le (pos 1) all
is_more high low all h = grind (arith, ints, nat_tests)
