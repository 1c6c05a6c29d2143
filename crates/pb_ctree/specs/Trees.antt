-- Which C trees are well made, and what their numbers say of the ranks.
use Rattle.std.specs.Prelude.{◌≡◌, ℕ, ◌<◌, ℤ, pos, ◌-ℤ◌, ◌≤ℤ◌, ◌<ℤ◌, List, map, length, get_or}
use Rattle.pb_local.specs.Tree.{program_of}
use Rattle.pb_local.specs.WellMade.{IsWellMade}
use Rattle.pb_local.specs.Ranks.{Sum, at, ranks_of, bases_of, places_of, seats, total, seat_at}
use Rattle.pb_ctree.specs.declared.tree.Formula.{Formula}
use Rattle.pb_ctree.specs.declared.tree.CTree.{CTree}

abbrev pub sum_of : Formula → Sum
sum_of f = record { a = f.a; b = f.b }

-- the numbers are the sums over the roles
pub record IsTree (tree : CTree) : Type 0 where
  pub made : IsWellMade (program_of tree.local)
  pub size : sum_of tree.size ≡ ranks_of tree.local.roles.items
  pub bases : map sum_of tree.bases.items ≡ bases_of tree.local.roles.items
  pub places : map sum_of tree.places.items ≡ places_of tree.local.roles.items

-- the value of a formula
abbrev pub value_at : Formula → ℤ → ℤ
value_at f n = at (sum_of f) n

abbrev pub formula_at : List Formula → ℕ → Formula
formula_at fs k = get_or fs k (record { a = pos 0; b = pos 0 })

-- k is the last role whose base is at most r
pub record IsLastBase (bases : List Formula) (n r : ℤ) (k : ℕ) : Type 0 where
  pub there : k < length bases
  pub reached : value_at (formula_at bases k) n ≤ℤ r
  pub later : (j : ℕ) → k < j → j < length bases → r <ℤ value_at (formula_at bases j) n

-- the numbers give each rank of N = n its role and index, and the number of all ranks
pub record NumbersRanks (tree : CTree) (n : ℤ) : Type 0 where
  pub size : value_at tree.size n ≡ pos (total tree.local.roles.items n)
  pub role : (r : ℕ) → r < total tree.local.roles.items n → IsLastBase tree.bases.items n (pos r) (seat_at r (seats tree.local.roles.items n)).role
  pub index : (r : ℕ) → r < total tree.local.roles.items n →
      (seat_at r (seats tree.local.roles.items n)).index ≡ pos r -ℤ value_at (formula_at tree.places.items (seat_at r (seats tree.local.roles.items n)).role) n
