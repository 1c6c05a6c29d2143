-- A flat protocol: N is put in, each foreach is its items, each end is a rank's number, and a continue names a loop
-- around it by how many stand between. Who takes part in it, and what of it can end. In docs/LANGUAGE.md: 'The flat
-- protocol', 'Who takes part' and 'What can end'.
--
-- With `role W[0..N-1]` the body
--     rec X { A() from W[0] to W[1]; choice K at W[1] { continue X; } or { } }
-- is, at every N from 2 on, and with `_` for where a statement or a branch comes from,
--     looped _ (message _ 0 1 0 (choice _ 1 0 (branch _ (again 0) (branch _ stop no_branch)) stop)) stop
-- Ranks 0 and 1 take part in it, and no other. It can end, since its second branch can.
--
-- r is a rank, and n the number of a branch.
use Rattle.std.specs.Prelude.{ℕ, zero, suc, ◌==◌, cond, Bool, true, false, ◌||◌, ◌&&◌, List, [], ◌∷◌, nat_lt}
use Rattle.pb_world.specs.Actions.{Collective}
use Rattle.pb_core_language.specs.Lists.{nth}
use Rattle.pb_core_language.specs.Ranks.{Seat}
use Rattle.pb_core_language.specs.Tree.{Mark}

-- An end as it stands in the file: the place of its role's name, and the seat that it asks for, in its role's range or
-- not. Ends are numbered by twice their statement's number, and one more for a receiver.
pub record Asked : Type 0 where
  pub mark : Mark
  pub seat : Seat

-- where a statement comes from: its number and place, and its ends in order
pub record Origin : Type 0 where
  pub mark : Mark
  pub ends : List Asked

-- a block: each statement with what is done after it; nothing is done after a continue
mutual
  pub data Block : Type 0 where
    stop : Block
    message : (origin : Origin) (from to label : ℕ) (rest : Block) → Block
    compute : (origin : Origin) (at kernel : ℕ) (rest : Block) → Block
    together : (origin : Origin) (joint : Collective) (rest : Block) → Block
    choice : (origin : Origin) (at kernel : ℕ) (branches : Branches) (rest : Block) → Block
    looped : (origin : Origin) (body rest : Block) → Block
    again : (between : ℕ) → Block

  pub data Branches : Type 0 where
    no_branch : Branches
    branch : (mark : Mark) (first : Block) (rest : Branches) → Branches

-- A rank takes part in a block. `held` says of each loop around, the innermost first, whether the rank takes part in
-- its body for a reason other than its continue.
abbrev mutual
  pub takes_part : List Bool → ℕ → Block → Bool
  takes_part held r stop = false
  takes_part held r (message origin from to label rest) = (from == r) || ((to == r) || takes_part held r rest)
  takes_part held r (compute origin at kernel rest) = (at == r) || takes_part held r rest
  takes_part held r (together origin joint rest) = true
  takes_part held r (choice origin at kernel branches rest) = ((at == r) || takes_part_among held r branches) || takes_part held r rest
  takes_part held r (looped origin body rest) = takes_part (false ∷ held) r body || takes_part held r rest
  takes_part held r (again between) = nth held between

  pub takes_part_among : List Bool → ℕ → Branches → Bool
  takes_part_among held r no_branch = false
  takes_part_among held r (branch mark first rest) = takes_part held r first || takes_part_among held r rest

-- it takes part in a choice with this chooser
abbrev pub in_choice : List Bool → ℕ → ℕ → Branches → Bool
in_choice held r at branches = (at == r) || takes_part_among held r branches

abbrev pub count : Branches → ℕ
count no_branch = 0
count (branch mark first rest) = suc (count rest)

abbrev pub branch_at : ℕ → Branches → Block
branch_at n no_branch = stop
branch_at zero (branch mark first rest) = first
branch_at (suc n) (branch mark first rest) = branch_at n rest

-- A block can end if all its statements can: a choice if some branch can, a loop if its body can, a continue never.
abbrev mutual
  pub can_end : Block → Bool
  can_end stop = true
  can_end (message origin from to label rest) = can_end rest
  can_end (compute origin at kernel rest) = can_end rest
  can_end (together origin joint rest) = can_end rest
  can_end (choice origin at kernel branches rest) = some_can_end branches && can_end rest
  can_end (looped origin body rest) = can_end body && can_end rest
  can_end (again between) = false

  pub some_can_end : Branches → Bool
  some_can_end no_branch = false
  some_can_end (branch mark first rest) = can_end first || some_can_end rest

-- the first branch that can end, or as many as there are
abbrev pub ending : Branches → ℕ
ending no_branch = 0
ending (branch mark first rest) = cond (can_end first) 0 (suc (ending rest))

-- the first branch that can end, or branch 0 where none can
abbrev pub first_ending : Branches → ℕ
first_ending branches = cond (nat_lt (ending branches) (count branches)) (ending branches) 0
