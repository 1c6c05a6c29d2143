-- Who takes part, one statement at a time.
use Rattle.std.proofs.Common.{◌≡◌, ℕ, ◌==◌, ℤ, Bool, true, false, ◌||◌, List, [], ◌∷◌, refl, ap, ◌∙◌}
use Rattle.std.specs.List.{list_any}
use Rattle.std.proofs.lemmas.Bool.{false≢true}
use Rattle.std.proofs.Math.Bool.{or-false, or_assoc}
use Rattle.pb_core_language.specs.declared.protocol.CoreRole.{CoreRole}
use Rattle.pb_core_language.specs.Tree.{Mark, StmtTree, message, foreach, loop, again, choice, run, barrier, broadcast, reduce, allreduce}
use Rattle.pb_core_language.specs.Flat.{Block, stop, takes_part, takes_part_among}
use Rattle.pb_core_language.specs.FlatOf.{for_each, rank_of, flat_stmt, flat_block, flat_branches}
use Rattle.pb_core_flat.specs.Laws.{TakesOneByOne, TakesInBlock, TakesFirst}
use Rattle.pb_core_flat.proofs.Adding.{Adds, is_single, stmt_adds, block_adds, first_adds}

pub or_first : (a c : Bool) → a || c ≡ (a || false) || c
or_first true c = refl
or_first false c = refl

or_second : (a b c : Bool) → a || (b || c) ≡ (a || (b || false)) || c
or_second true b c = refl
or_second false b c = or_first b c

abbrev TakesAdds : List Bool → ℕ → (Block → Block) → Type 0
TakesAdds held r f = Adds (takes_part held r) ◌||◌ (λ x. refl) or_assoc f

single_takes : (held : List Bool) (r : ℕ) (roles : List CoreRole) (n : ℤ) (opens : List ℕ) (i : ℤ) (m : Mark) (s : StmtTree) → is_single s ≡ true → TakesAdds held r (flat_stmt roles n opens i m s)
single_takes held r roles n opens i m (message l f t) h g = or_second (rank_of roles n f i == r) (rank_of roles n t i == r) (takes_part held r g)
single_takes held r roles n opens i m (foreach b k items) h g = absurd (false≢true h)
single_takes held r roles n opens i m (loop id k body) h g = or_first (takes_part (false ∷ held) r (flat_block roles n (id ∷ opens) i body stop)) (takes_part held r g)
single_takes held r roles n opens i m (again id) h g = absurd (false≢true h)
single_takes held r roles n opens i m (choice k at bs) h g = or_first ((rank_of roles n at i == r) || takes_part_among held r (flat_branches roles n opens i bs)) (takes_part held r g)
single_takes held r roles n opens i m (run k at) h g = or_first (rank_of roles n at i == r) (takes_part held r g)
single_takes held r roles n opens i m barrier h g = refl
single_takes held r roles n opens i m (broadcast l root) h g = refl
single_takes held r roles n opens i m (reduce l op root) h g = refl
single_takes held r roles n opens i m (allreduce l op) h g = refl

pub takes_one_by_one : TakesOneByOne
takes_one_by_one roles n i r held opens m s rest h =
    stmt_adds (takes_part held r) ◌||◌ (λ x. refl) or_assoc roles n (single_takes held r roles n) opens i m s h rest

pub takes_in_block : TakesInBlock
takes_in_block roles n i r held opens b rest h =
    block_adds (takes_part held r) ◌||◌ (λ x. refl) or_assoc roles n (single_takes held r roles n) opens i b h rest

pub takes_first : TakesFirst
takes_first rows varies ids roles n i r held opens m s b h =
    first_adds (takes_part held r) ◌||◌ (λ x. refl) or_assoc roles n (single_takes held r roles n) or-false rows varies ids opens i m s b h

-- for each number in turn: for some of them
pub takes_for_some : (held : List Bool) (r : ℕ) (f : ℤ → Block → Block) → ((x : ℤ) (g : Block) → takes_part held r (f x g) ≡ takes_part held r (f x stop) || takes_part held r g) →
    (xs : List ℤ) → takes_part held r (for_each xs f stop) ≡ list_any (λ x. takes_part held r (f x stop)) xs
takes_for_some held r f h [] = refl
takes_for_some held r f h (x ∷ xs) = h x (for_each xs f stop) ∙ ap (λ t. takes_part held r (f x stop) || t) (takes_for_some held r f h xs)
