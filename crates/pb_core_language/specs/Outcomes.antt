-- What a rank finds first in a block. In docs/LANGUAGE.md: 'First outcomes'.
--
-- With `role W[0..N-1]`, and at N = 4, in the body
--     choice K at W[0] { A() from W[0] to W[1]; } or { }
--     B() from W[2] to W[1];
-- rank 1 finds first `receives 0 0` or `receives 2 1`: in the second branch it finds nothing, and B behind it. Ranks 0
-- and 2 find `other_first`, and rank 3, which takes no part, finds `nothing_first`.
--
-- r is a rank.
use Rattle.std.specs.Prelude.{ℕ, ◌==◌, cond, Bool, true, false, ◌&&◌, List, [], ◌∷◌, ◌++◌}
use Rattle.pb_core_language.specs.Lists.{nth}
use Rattle.pb_core_language.specs.Flat.{Block, stop, message, compute, together, choice, looped, again, Branches, no_branch, branch, takes_part, takes_part_among}

pub data Outcome : Type 0 where
  nothing_first : Outcome
  receives : (source label : ℕ) → Outcome
  other_first : Outcome
  again_first : Outcome

-- the outcomes, with those of the rest in place of nothing
abbrev pub or_then : List Outcome → List Outcome → List Outcome
or_then [] rest = []
or_then (nothing_first ∷ outcomes) rest = rest ++ or_then outcomes rest
or_then (receives source label ∷ outcomes) rest = receives source label ∷ or_then outcomes rest
or_then (other_first ∷ outcomes) rest = other_first ∷ or_then outcomes rest
or_then (again_first ∷ outcomes) rest = again_first ∷ or_then outcomes rest

-- The first outcomes of a rank, a set as the list of its members. Where it takes no part it finds nothing.
abbrev mutual
  pub firsts : List Bool → ℕ → Block → List Outcome
  firsts held r stop = nothing_first ∷ []
  firsts held r (message origin from to label rest) =
      cond (from == r) (other_first ∷ []) (cond (to == r) (receives from label ∷ []) (firsts held r rest))
  firsts held r (compute origin at kernel rest) = cond (at == r) (other_first ∷ []) (firsts held r rest)
  firsts held r (together origin joint rest) = other_first ∷ []
  firsts held r (choice origin at kernel branches rest) =
      cond (at == r) (other_first ∷ []) (cond (takes_part_among held r branches) (or_then (firsts_among held r branches) (firsts held r rest)) (firsts held r rest))
  firsts held r (looped origin body rest) =
      cond (takes_part (false ∷ held) r body) (or_then (firsts (takes_part (false ∷ held) r body ∷ held) r body) (firsts held r rest)) (firsts held r rest)
  firsts held r (again between) = cond (nth held between) (again_first ∷ []) (nothing_first ∷ [])

  pub firsts_among : List Bool → ℕ → Branches → List Outcome
  firsts_among held r no_branch = []
  firsts_among held r (branch mark first rest) = firsts held r first ++ firsts_among held r rest

-- ---- tests on outcomes

abbrev pub only_receives : List Outcome → Bool
only_receives [] = true
only_receives (receives source label ∷ outcomes) = only_receives outcomes
only_receives (nothing_first ∷ outcomes) = false
only_receives (other_first ∷ outcomes) = false
only_receives (again_first ∷ outcomes) = false

abbrev pub only_from : ℕ → List Outcome → Bool
only_from r [] = true
only_from r (receives source label ∷ outcomes) = (source == r) && only_from r outcomes
only_from r (nothing_first ∷ outcomes) = only_from r outcomes
only_from r (other_first ∷ outcomes) = only_from r outcomes
only_from r (again_first ∷ outcomes) = only_from r outcomes

-- the source of the first receive, 0 where there is none
abbrev pub source_of : List Outcome → ℕ
source_of [] = 0
source_of (receives source label ∷ outcomes) = source
source_of (nothing_first ∷ outcomes) = source_of outcomes
source_of (other_first ∷ outcomes) = source_of outcomes
source_of (again_first ∷ outcomes) = source_of outcomes

-- all receives are from one rank
abbrev pub comes_from_one : List Outcome → Bool
comes_from_one outcomes = only_from (source_of outcomes) outcomes

abbrev pub labels_of : List Outcome → List ℕ
labels_of [] = []
labels_of (receives source label ∷ outcomes) = label ∷ labels_of outcomes
labels_of (nothing_first ∷ outcomes) = labels_of outcomes
labels_of (other_first ∷ outcomes) = labels_of outcomes
labels_of (again_first ∷ outcomes) = labels_of outcomes
