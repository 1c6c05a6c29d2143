-- The numbers of a well-made tree give each rank its role and index.
use Rattle.std.proofs.Common.{◌≡◌, ℕ, suc, ◌<◌, ℤ, pos, ◌+ℤ◌, ◌-ℤ◌, ◌<ℤ◌, List, [], ◌∷◌, map, length, ap, sym, ◌∙◌, arith, subst, zero-add}
use Rattle.std.specs.Prelude.{All, IfOk, Result, Ok, Err}
use Rattle.std.proofs.lemmas.Int.{ints}
use Rattle.std.proofs.lemmas.List.{length-map}
use Rattle.std.proofs.Math.ListN.{get_or-map}
use lib.IntN.{zero-*ℤ}
use Rattle.pb_affine.specs.declared.range.NRange.{NRange}
use Rattle.pb_local.specs.declared.tables.Role.{Role}
use Rattle.pb_local.specs.Ranks.{Sum, at, ranks_of, no_ranks, bases_of, places_of, seats, seat_at, total, Seat}
use Rattle.pb_local.specs.Tree.{Program, program_of}
use Rattle.pb_local.specs.WellMade.{IsRole, IsInRange, IsWellMade}
use Rattle.pb_ctree.specs.Sums.{HasSmallEnds}
use Rattle.pb_ctree.specs.declared.tree.Formula.{Formula}
use Rattle.pb_ctree.specs.declared.tree.CTree.{CTree}
use Rattle.pb_ctree.specs.Trees.{sum_of, value_at, formula_at, IsTree, IsLastBase, NumbersRanks}
use Rattle.pb_ctree.proofs.Numbers.{AllFine, sum_at, IsFound, size_is, found}

all_fine : (range : NRange) (rs : List Role) (n : ℕ) → All (IsRole range) rs → IsInRange range n → AllFine rs (pos n)
all_fine range [] n each within = tt
all_fine range (r ∷ rs) n each within =
    let first : IsRole range r = each 0 r (omega arith) in
    let others : All (IsRole range) rs = λ k d less. each (suc k) d (omega (arith, less)) in
    (record { some = first.some n within; low = first.low_fixed; high = first.high_fixed }, all_fine range rs n others within)

sums_at : (fs : List Formula) (k : ℕ) → sum_at (map sum_of fs) k ≡ sum_of (formula_at fs k)
sums_at fs k = get_or-map sum_of fs k (record { a = pos 0; b = pos 0 })

at_start : (n : ℤ) (r : ℕ) → at no_ranks n +ℤ pos r ≡ pos r
at_start n r = omega (arith, ints, zero-*ℤ n)

last_base : (fs : List Formula) (places : List Sum) (roles : List Role) (n : ℤ) (r : ℕ) (s : Seat) → map sum_of fs ≡ bases_of roles →
    IsFound 0 (bases_of roles) places n (at no_ranks n +ℤ pos r) s → IsLastBase fs n (pos r) s.role
last_base fs places roles n r s same f =
    let k_is : s.role ≡ f.k = f.role ∙ zero-add f.k in
    let many : length fs ≡ length (bases_of roles) = sym (length-map fs sum_of) ∙ ap length same in
    let P : ℕ → Type 0 = λ k. IsLastBase fs n (pos r) k in
    subst P (sym k_is) (record {
      there = omega (arith, many, f.there);
      reached = omega (arith, ints, f.reached, at_start n r, value_is f.k);
      later = later many;
    }) where
      value_is : (k : ℕ) → at (sum_at (bases_of roles) k) n ≡ value_at (formula_at fs k) n
      value_is k = ap (λ (xs : List Sum). at (sum_at xs k) n) (sym same) ∙ ap (λ x. at x n) (sums_at fs k)

      later : length fs ≡ length (bases_of roles) → (j : ℕ) → f.k < j → j < length fs → pos r <ℤ value_at (formula_at fs j) n
      later many j above within = omega (arith, ints, f.later j above (omega (arith, many, within)), at_start n r, value_is j)

index_is : (fs : List Formula) (bases : List Sum) (roles : List Role) (n : ℤ) (r : ℕ) (s : Seat) → map sum_of fs ≡ places_of roles →
    IsFound 0 bases (places_of roles) n (at no_ranks n +ℤ pos r) s → s.index ≡ pos r -ℤ value_at (formula_at fs s.role) n
index_is fs bases roles n r s same f =
    let k_is : s.role ≡ f.k = f.role ∙ zero-add f.k in
    let value_is : at (sum_at (places_of roles) f.k) n ≡ value_at (formula_at fs s.role) n =
    ap (λ (xs : List Sum). at (sum_at xs f.k) n) (sym same) ∙ ap (λ x. at x n) (sums_at fs f.k) ∙ ap (λ k. value_at (formula_at fs k) n) (sym k_is) in
    omega (arith, ints, f.index, at_start n r, value_is)

pub numbers_ranks : (tree : CTree) (n : ℕ) → IsTree tree → IsInRange tree.local.range n → NumbersRanks tree (pos n)
numbers_ranks tree n is within =
    let roles = tree.local.roles.items in
    let fine : AllFine roles (pos n) = all_fine tree.local.range roles n is.made.roles.each within in
    record {
      size = ap (λ x. at x (pos n)) is.size ∙ size_is roles 0 no_ranks (pos n) fine ∙ at_start (pos n) (total roles (pos n));
      role = λ r less. last_base tree.bases.items (places_of roles) roles (pos n) r (seat_at r (seats roles (pos n))) is.bases (found roles 0 no_ranks (pos n) r fine less);
      index = λ r less. index_is tree.places.items (bases_of roles) roles (pos n) r (seat_at r (seats roles (pos n))) is.places (found roles 0 no_ranks (pos n) r fine less);
    }

-- a well-made program's roles have small ends
pub small_ends : (p : Program) → IsWellMade p → All HasSmallEnds p.roles
small_ends p made k d less = record { low = (made.roles.each k d less).low; high = (made.roles.each k d less).high }

pub tree_made : (p : Program) (tree : CTree) → IsWellMade p → program_of tree.local ≡ p → sum_of tree.size ≡ ranks_of p.roles → map sum_of tree.bases.items ≡ bases_of p.roles → map sum_of tree.places.items ≡ places_of p.roles → IsTree tree
tree_made p tree made same size bases places =
    let roles_are : p.roles ≡ tree.local.roles.items = ap (λ (x : Program). x.roles) (sym same) in
    let P : Program → Type 0 = λ x. IsWellMade x in
    record {
      made = subst P (sym same) made;
      size = size ∙ ap ranks_of roles_are;
      bases = bases ∙ ap bases_of roles_are;
      places = places ∙ ap places_of roles_are;
    }

pub numbers_all : (p : Program) (tree : CTree) → program_of tree.local ≡ p → IsTree tree → (n : ℕ) → IsInRange p.range n → NumbersRanks tree (pos n)
numbers_all p tree same is n within =
    let range_is : p.range ≡ tree.local.range = ap (λ (x : Program). x.range) (sym same) in
    let P : NRange → Type 0 = λ x. IsInRange x n in
    numbers_ranks tree n is (subst P range_is within)

pub all_numbered : {E : Type 0} (p : Program) (r : Result CTree E) → IfOk r (λ tree. program_of tree.local ≡ p) → IfOk r IsTree → IfOk r (λ tree. (n : ℕ) → IsInRange p.range n → NumbersRanks tree (pos n))
all_numbered p (Ok tree) same is = numbers_all p tree same is
all_numbered p (Err e) same is = tt
