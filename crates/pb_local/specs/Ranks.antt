-- The ranks of a program at one N, in order, and their numbers.
use Rattle.std.specs.Prelude.{ℕ, zero, suc, ℤ, pos, ◌+ℤ◌, ◌-ℤ◌, ◌*ℤ◌, Bool, ◌&&◌, nat_eq, if◌then◌else◌, List, [], ◌∷◌, ◌++◌, map, length}
use Rattle.std.specs.Ordering.{int_eq}
use Rattle.pb_affine.specs.declared.lin.Base.{Base}
use Rattle.pb_affine.specs.declared.lin.Base.TheVariants.{Fixed, Param, Var}
use Rattle.pb_affine.specs.Values.{value, range}
use Rattle.pb_local.specs.declared.tables.Role.{Role}

-- a role's number and an index, whether or not the index is in the role's range
pub record Seat : Type 0 where
  pub role : ℕ
  pub index : ℤ

abbrev pub seat_eq : Seat → Seat → Bool
seat_eq a b = nat_eq a.role b.role && int_eq a.index b.index

-- the seats of the roles from number k on, at N = n: roles in declared order, indices ascending
abbrev pub seats_from : ℕ → List Role → ℤ → List Seat
seats_from k [] n = []
seats_from k (r ∷ rs) n =
    map (λ x. record { role = k; index = x }) (range (value r.low n (pos 0)) (value r.high n (pos 0))) ++ seats_from (suc k) rs n

-- the rank list of N = n, and how many ranks there are
abbrev pub seats : List Role → ℤ → List Seat
seats roles n = seats_from 0 roles n

abbrev pub total : List Role → ℤ → ℕ
total roles n = length (seats roles n)

-- a rank's number is its position in the rank list; the list's length where it isn't there
abbrev pub number_in : Seat → List Seat → ℕ
number_in a [] = 0
number_in a (b ∷ bs) = if seat_eq a b then 0 else suc (number_in a bs)

-- the seat of the rank with a number; that of role 0 and index 0 where there is no such rank
abbrev pub seat_at : ℕ → List Seat → Seat
seat_at k [] = record { role = 0; index = pos 0 }
seat_at zero (a ∷ more) = a
seat_at (suc k) (a ∷ more) = seat_at k more

-- ---- numbers of ranks as sums in N

-- the number a * N + b
pub record Sum : Type 0 where
  pub a : ℤ
  pub b : ℤ

abbrev pub at : Sum → ℤ → ℤ
at f n = f.a *ℤ n +ℤ f.b

abbrev pub factor : Base → ℤ
factor Fixed = pos 0
factor Param = pos 1
factor Var = pos 0

abbrev pub no_ranks : Sum
no_ranks = record { a = pos 0; b = pos 0 }

-- with high - low + 1 of this role added
abbrev pub with_role : Sum → Role → Sum
with_role f r = record {
  a = f.a +ℤ factor r.high.base -ℤ factor r.low.base;
  b = f.b +ℤ r.high.off -ℤ r.low.off +ℤ pos 1;
}

-- with the low end of this role taken off
abbrev pub without_low : Sum → Role → Sum
without_low f r = record { a = f.a -ℤ factor r.low.base; b = f.b -ℤ r.low.off }

-- high - low + 1, added over the roles
abbrev pub size_with : Sum → List Role → Sum
size_with f [] = f
size_with f (r ∷ rs) = size_with (with_role f r) rs

abbrev pub ranks_of : List Role → Sum
ranks_of roles = size_with no_ranks roles

-- the number of each role's first rank, where those of the first begin at f
abbrev pub bases_with : Sum → List Role → List Sum
bases_with f [] = []
bases_with f (r ∷ rs) = f ∷ bases_with (with_role f r) rs

abbrev pub bases_of : List Role → List Sum
bases_of roles = bases_with no_ranks roles

-- what is added to an index of each role for the rank's number
abbrev pub places_with : Sum → List Role → List Sum
places_with f [] = []
places_with f (r ∷ rs) = without_low f r ∷ places_with (with_role f r) rs

abbrev pub places_of : List Role → List Sum
places_of roles = places_with no_ranks roles
