-- The ranks of a protocol at one N, in order, and their numbers.
use Rattle.std.specs.Prelude.{ℕ, zero, suc, ℤ, pos, ◌+ℤ◌, ◌-ℤ◌, ◌*ℤ◌, Bool, ◌&&◌, nat_eq, if◌then◌else◌, List, [], ◌∷◌, ◌++◌, map, length}
use Rattle.std.specs.Ordering.{int_eq}
use Rattle.pb_affine.specs.declared.lin.Base.{Base}
use Rattle.pb_affine.specs.declared.lin.Base.TheVariants.{Fixed, Param, Var}
use Rattle.pb_affine.specs.Values.{value, range}
use Rattle.pb_core_language.specs.declared.protocol.CoreRole.{CoreRole}

-- a role's number and an index, whether or not the index is in the role's range
pub record Seat : Type 0 where
  pub role : ℕ
  pub index : ℤ

abbrev pub seat_eq : Seat → Seat → Bool
seat_eq a b = nat_eq a.role b.role && int_eq a.index b.index

-- the seats of the roles from number k on, at N = n: roles in declared order, indices ascending
abbrev pub seats_from : ℕ → List CoreRole → ℤ → List Seat
seats_from k [] n = []
seats_from k (r ∷ rs) n =
    map (λ x. record { role = k; index = x }) (range (value r.low n (pos 0)) (value r.high n (pos 0))) ++ seats_from (suc k) rs n

-- the rank list of N = n, and how many ranks there are
abbrev pub seats : List CoreRole → ℤ → List Seat
seats roles n = seats_from 0 roles n

abbrev pub total : List CoreRole → ℤ → ℕ
total roles n = length (seats roles n)

-- a rank's number is its position in the rank list; the list's length where it isn't there
abbrev pub number_in : Seat → List Seat → ℕ
number_in a [] = 0
number_in a (b ∷ bs) = if seat_eq a b then 0 else suc (number_in a bs)

-- the seat of the rank with a number; that of role 0 and index 0 where there is no such rank
abbrev pub seat_at : ℕ → List Seat → Seat
seat_at k [] = record { role = 0; index = pos 0 }
seat_at zero (a ∷ as_seats) = a
seat_at (suc k) (a ∷ as_seats) = seat_at k as_seats

-- ---- numbers of ranks as sums in N

-- the number a*N + b
pub record Formula : Type 0 where
  pub a : ℤ
  pub b : ℤ

abbrev pub at : Formula → ℤ → ℤ
at f n = f.a *ℤ n +ℤ f.b

abbrev pub factor : Base → ℤ
factor Fixed = pos 0
factor Param = pos 1
factor Var = pos 0

-- with high - low + 1 of this role added
abbrev pub with_role : Formula → CoreRole → Formula
with_role f r = record {
  a = f.a +ℤ factor r.high.base -ℤ factor r.low.base;
  b = f.b +ℤ r.high.off -ℤ r.low.off +ℤ pos 1;
}

-- high - low + 1, added over the roles
abbrev pub size_with : Formula → List CoreRole → Formula
size_with f [] = f
size_with f (r ∷ rs) = size_with (with_role f r) rs

abbrev pub size : List CoreRole → Formula
size roles = size_with (record { a = pos 0; b = pos 0 }) roles

-- with the low end of this role taken off
abbrev pub without_low : Formula → CoreRole → Formula
without_low f r = record { a = f.a -ℤ factor r.low.base; b = f.b -ℤ r.low.off }

-- what is added to an index of role k for the rank's number, where the first role's ranks begin at f
abbrev pub place_with : Formula → ℕ → List CoreRole → Formula
place_with f k [] = f
place_with f zero (r ∷ rs) = without_low f r
place_with f (suc k) (r ∷ rs) = place_with (with_role f r) k rs

abbrev pub place : ℕ → List CoreRole → Formula
place k roles = place_with (record { a = pos 0; b = pos 0 }) k roles
