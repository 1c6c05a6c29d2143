-- Walking over a statement or a block, beside a log.
--
-- `meaning` puts the statement or the block before what is done after it. `opens` has the ids of the loops around, the
-- innermost first.
use Rattle.std.specs.Prelude.{ℕ, suc, List, ◌∷◌}
use Rattle.pb_core_language.specs.Flat.{Block}
use Rattle.pb_core_language.specs.FlatOf.{between}
use Rattle.pb_core_language.specs.Run.{Setting, Opener, Body, Frame, back, back_over}
use Rattle.pb_judge_follow.specs.Follow.{Left, Goes, Breaks, Circles}
use Rattle.pb_judge_walks.specs.declared.flow.Flow.{Flow}
use Rattle.pb_judge_walks.specs.declared.flow.Flow.TheVariants.{Passed, Back, Differs, Endless}

abbrev pub frame : Opener → Block → Frame
frame opener rest = record { opener = opener; rest = rest }

-- where it stands, what is done after it and in what both stand
abbrev pub Anywhere : (Opener → Block → List Frame → Type 0) → Type 0
Anywhere holds = (opener : Opener) (after : Block) (around : List Frame) → holds opener after around

module _ (s : Setting) (meaning : Block → Block) (opens : List ℕ) (old : Left) where
  -- from its start, the walk ends so, wherever it stands
  abbrev pub Walked : Flow → Left → Type 0
  Walked Passed new = Anywhere (λ opener after around. (n : ℕ) × Goes s n (frame opener (meaning after) ∷ around) old (frame opener after ∷ around) new)
  Walked (Back id) new = Anywhere (λ opener after around. (n : ℕ) × Goes s (suc n) (frame opener (meaning after) ∷ around) old (back_over opener (between id opens) around (back around)) new)
  Walked (Differs r line) new = Anywhere (λ opener after around. Breaks s (frame opener (meaning after) ∷ around) old r line)
  Walked Endless new = Anywhere (λ opener after around. Circles s (frame opener (meaning after) ∷ around) old new)

  -- it is a loop with this body, and a round of it begins
  abbrev pub AtRound : Block → Left → Type 0
  AtRound body new = Anywhere (λ opener after around. (n : ℕ) × Goes s n (frame opener (meaning after) ∷ around) old (frame (Body body) body ∷ frame opener after ∷ around) new)

-- what is behind it isn't done
abbrev pub IsStop : Flow → Type 0
IsStop Passed = ⊥
IsStop (Back id) = Unit {0}
IsStop (Differs r line) = Unit {0}
IsStop Endless = Unit {0}
