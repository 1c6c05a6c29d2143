-- How much a flat protocol without loops sends at least, or at most, told by its statements: choices are free, so the least
-- of a block is the sum of the leasts of its statements, and that of a choice the least of its branches.
use Rattle.std.specs.Prelude.{ℕ, ◌+◌, ◌≤◌}
use Rattle.pb_core_language.specs.Flat.{Block, stop, message, compute, together, choice, looped, again, Branches, no_branch, branch, count}
use Rattle.pb_cost_laws.specs.Sent.{Counted, Messages, Words, Way, picked}

-- what one message with this label counts
abbrev pub of_label : Counted → (ℕ → ℕ) → ℕ → ℕ
of_label Messages size label = 1
of_label Words size label = size label

module _ (way : Way) (what : Counted) (size : ℕ → ℕ) where
  abbrev mutual
    pub extreme : Block → ℕ
    extreme stop = 0
    extreme (message origin from to label rest) = of_label what size label + extreme rest
    extreme (compute origin at kernel rest) = extreme rest
    extreme (together origin joint rest) = extreme rest
    extreme (choice origin at kernel branches rest) = extreme_among branches + extreme rest
    extreme (looped origin body rest) = extreme body + extreme rest
    extreme (again between) = 0

    pub extreme_among : Branches → ℕ
    extreme_among no_branch = 0
    extreme_among (branch mark first rest) = extreme_behind (extreme first) rest

    -- of a number and of these branches
    pub extreme_behind : ℕ → Branches → ℕ
    extreme_behind best no_branch = best
    extreme_behind best (branch mark first rest) = extreme_behind (picked way best (extreme first)) rest

-- it has no loop and no continue, and each choice in it has a branch
abbrev mutual
  pub IsStraight : Block → Type 0
  IsStraight stop = Unit {0}
  IsStraight (message origin from to label rest) = IsStraight rest
  IsStraight (compute origin at kernel rest) = IsStraight rest
  IsStraight (together origin joint rest) = IsStraight rest
  IsStraight (choice origin at kernel branches rest) = (1 ≤ count branches) × (AreStraight branches × IsStraight rest)
  IsStraight (looped origin body rest) = ⊥
  IsStraight (again between) = ⊥

  pub AreStraight : Branches → Type 0
  AreStraight no_branch = Unit {0}
  AreStraight (branch mark first rest) = IsStraight first × AreStraight rest
