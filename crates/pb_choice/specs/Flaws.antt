-- The places at which the rules 9 to 12 are broken in a part of a protocol, for every N of the range.
use Rattle.std.specs.Prelude.{◌≡◌, ℕ, ℤ, pos, ◌==◌, Bool, true, false, not, ◌&&◌, if◌then◌else◌, List, [], ◌∷◌, ◌++◌, Contains}
use Rattle.pb_affine.specs.declared.range.NRange.{NRange}
use Rattle.pb_core_language.specs.declared.protocol.CoreRole.{CoreRole}
use Rattle.pb_core_language.specs.declared.tree.CoreEnd.{CoreEnd}
use Rattle.pb_core_language.specs.Ranks.{total}
use Rattle.pb_core_language.specs.Tree.{Mark, StmtTree, BlockTree, BranchTrees, no_branch, branch}
use Rattle.pb_core_language.specs.Flat.{Block, stop, takes_part, takes_part_among}
use Rattle.pb_core_language.specs.FlatOf.{rank_of, flat_stmt, flat_block, flat_branches}
use Rattle.pb_core_language.specs.Run.{Env, at_rank}
use Rattle.pb_core_language.specs.Outcomes.{Outcome, firsts}
use Rattle.pb_core_language.specs.Lists.{some_below}
use Rattle.pb_core_language.specs.Rules.{holds_again, deserted, deserted_among, misfits, misfits_among, receives_only, keeps_source, keeps_labels, nobody, ranked}
use Rattle.pb_core_language.specs.Verdict.{IsIn, Broken}
use Rattle.pb_core_flat.specs.Seated.{rank, is_rank}
use Rattle.pb_choice.specs.declared.rule.ChoiceRule.{ChoiceRule}
use Rattle.pb_choice.specs.declared.rule.ChoiceRule.TheVariants.{OnlyReceives, OneSource, OwnLabels}

abbrev pub number_of : ChoiceRule → ℕ
number_of OnlyReceives = 10
number_of OneSource = 11
number_of OwnLabels = 12

abbrev pub fits_of : ChoiceRule → List Outcome → List Outcome → Bool
fits_of OnlyReceives before here = receives_only before here
fits_of OneSource before here = keeps_source before here
fits_of OwnLabels before here = keeps_labels before here

abbrev pub same_rule : ChoiceRule → ChoiceRule → Bool
same_rule OnlyReceives OnlyReceives = true
same_rule OneSource OneSource = true
same_rule OwnLabels OwnLabels = true
same_rule a b = false

-- the marks at which rule 9 is broken at each N, and those of the rules on choices for each rank by its role and index
pub record Flaws : Type 0 where
  pub lone : ℤ → List Mark
  pub told : ChoiceRule → ℤ → ℕ → ℤ → List Mark

-- one of these breaches, at an N of the range
pub data IsFlaw (range : NRange) (roles : List CoreRole) (flaws : Flaws) (c : Broken) : Type 0 where
  lonely : (m : Mark) → IsIn range c.n → c.breach ≡ nobody 9 m → Contains (flaws.lone c.n) m → IsFlaw range roles flaws c
  misled : (k : ChoiceRule) (m : Mark) (role : ℕ) (x : ℤ) → IsIn range c.n → is_rank roles c.n role x ≡ true →
      c.breach ≡ ranked (number_of k) (record { role = role; index = x }) m → Contains (flaws.told k c.n role x) m → IsFlaw range roles flaws c

abbrev pub no_flaws : Flaws
no_flaws = record { lone = λ n. []; told = λ k n role x. [] }

-- the one, and then the other
abbrev pub both : Flaws → Flaws → Flaws
both f g = record { lone = λ n. f.lone n ++ g.lone n; told = λ k n role x. f.told k n role x ++ g.told k n role x }

-- one rule is broken at one place, by the ranks of which the test is true
abbrev pub flaw_at : ChoiceRule → Mark → (ℤ → ℕ → ℤ → Bool) → Flaws
flaw_at k m bad = record { lone = λ n. []; told = λ j n role x. if same_rule j k && bad n role x then m ∷ [] else [] }

-- rule 9 is broken at one place, where the test is true
abbrev pub lone_at : Mark → (ℤ → Bool) → Flaws
lone_at m bad = record { lone = λ n. if bad n then m ∷ [] else []; told = λ j n role x. [] }

-- each of the rules at one place, by the ranks of which its test is true
abbrev pub of_rules : Mark → (ChoiceRule → ℤ → ℕ → ℤ → Bool) → Flaws
of_rules m miss = record { lone = λ n. []; told = λ k n role x. if miss k n role x then m ∷ [] else [] }

-- a rank that is told finds first in a branch what doesn't fit, beside what it found first in the branches before
abbrev pub misses : (ℤ → ℕ → ℤ → Bool) → (before here : List Outcome) → ChoiceRule → ℤ → ℕ → ℤ → Bool
misses told before here k n role x = told n role x && not (fits_of k before here)

-- The env says at each N who takes part in each loop around, the innermost first, and `opens` has the loops' ids.
module _ (roles : List CoreRole) (env : ℤ → Env) (opens : List ℕ) where
  -- what a rank finds first in a block
  abbrev pub found_in : BlockTree → ℤ → ℕ → ℤ → List Outcome
  found_in b n role x = firsts (at_rank (rank roles n role x) (env n)) (rank roles n role x) (flat_block roles n opens (pos 0) b stop)

  -- who takes part in the body of a loop, and in this and the loops around
  abbrev pub in_body : ℕ → BlockTree → ℤ → ℕ → Bool
  in_body id body n r = takes_part (false ∷ at_rank r (env n)) r (flat_block roles n (id ∷ opens) (pos 0) body stop)

  abbrev pub env_in : ℕ → BlockTree → ℤ → Env
  env_in id body n = (λ r. in_body id body n r) ∷ env n

  -- a loop comes round with nobody in it
  abbrev pub is_deserted : ℕ → BlockTree → ℤ → Bool
  is_deserted id body n = holds_again 0 (flat_block roles n (id ∷ opens) (pos 0) body stop) && not (some_below (total roles n) (λ r. in_body id body n r))

  abbrev pub of_flat : (ℤ → Block) → Flaws
  of_flat g = record {
    lone = λ n. deserted (total roles n) (env n) (g n);
    told = λ k n role x. misfits (fits_of k) (at_rank (rank roles n role x) (env n)) (rank roles n role x) (g n);
  }

  abbrev pub of_block : BlockTree → Flaws
  of_block b = of_flat (λ n. flat_block roles n opens (pos 0) b stop)

  abbrev pub of_stmt : Mark → StmtTree → Flaws
  of_stmt m s = of_flat (λ n. flat_stmt roles n opens (pos 0) m s stop)

  -- the rank is told of the choice by the chooser
  abbrev pub is_told : CoreEnd → BranchTrees → ℤ → ℕ → ℤ → Bool
  is_told at bs n role x =
      not (rank_of roles n at (pos 0) == rank roles n role x)
      && takes_part_among (at_rank (rank roles n role x) (env n)) (rank roles n role x) (flat_branches roles n opens (pos 0) bs)

  -- branches, behind others in which these were found first
  abbrev pub of_branches : (ℤ → ℕ → ℤ → Bool) → (ℤ → ℕ → ℤ → List Outcome) → BranchTrees → Flaws
  of_branches told before bs = record {
    lone = λ n. deserted_among (total roles n) (env n) (flat_branches roles n opens (pos 0) bs);
    told = λ k n role x. misfits_among (fits_of k) (at_rank (rank roles n role x) (env n)) (rank roles n role x) (told n role x) (before n role x)
        (flat_branches roles n opens (pos 0) bs);
  }

  -- the rules on choices at branches alone, behind others in which these were found first
  abbrev pub of_tellings : (ℤ → ℕ → ℤ → Bool) → (ℤ → ℕ → ℤ → List Outcome) → BranchTrees → Flaws
  of_tellings told before no_branch = no_flaws
  of_tellings told before (branch m b bs) =
      both (of_rules m (λ k n role x. misses told (before n role x) (found_in b n role x) k n role x))
      (of_tellings told (λ n role x. before n role x ++ found_in b n role x) bs)

  -- what is inside branches, without the rules at the branches themselves
  abbrev pub of_insides : BranchTrees → Flaws
  of_insides no_branch = no_flaws
  of_insides (branch m b bs) = both (of_block b) (of_insides bs)
