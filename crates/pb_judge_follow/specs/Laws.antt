-- What following the run tells of the ruling.
use Rattle.std.specs.Prelude.{◌≡◌, ℕ, true, false, List, []}
use Rattle.pb_text.specs.declared.action.Action.{Action}
use Rattle.pb_core_language.specs.Flat.{Block}
use Rattle.pb_core_language.specs.Run.{Setting}
use Rattle.pb_judge_ruling.specs.Ruling.{IsRuling}
use Rattle.pb_judge_ruling.specs.declared.ruling.Ruling.TheVariants.{Whole, Covered, Differs, Beyond}
use Rattle.pb_judge_follow.specs.Follow.{Left, all_of, first_stack, Goes, Breaks, Circles, IsLeastLeft, IsUsedUp}

-- the rulings that are left where nothing differs
pub record Rules (s : Setting) (protocol : Block) (log : List (ℕ × Action)) (left : Left) : Type 0 where
  pub beyond : (r line : ℕ) → IsLeastLeft left r line → IsRuling s protocol log (Beyond r line)
  pub covered : IsUsedUp left → left.owes ≡ true → IsRuling s protocol log Covered

-- an action that doesn't fit
abbrev pub BreaksRule : Type 0
BreaksRule = (s : Setting) (protocol : Block) (log : List (ℕ × Action)) (r line : ℕ) → Breaks s (first_stack protocol) (all_of log) r line → IsRuling s protocol log (Differs r line)

-- the run's end
abbrev pub EndRules : Type 0
EndRules =
    (s : Setting) (protocol : Block) (log : List (ℕ × Action)) (steps : ℕ) (left : Left) → Goes s steps (first_stack protocol) (all_of log) [] left →
    Rules s protocol log left × (IsUsedUp left → left.owes ≡ false → IsRuling s protocol log Whole)

-- a run that is endless
abbrev pub CircleRules : Type 0
CircleRules =
    (s : Setting) (protocol : Block) (log : List (ℕ × Action)) (left : Left) → Circles s (first_stack protocol) (all_of log) left →
    ((r line : ℕ) → IsLeastLeft left r line → IsRuling s protocol log (Beyond r line)) × (IsUsedUp left → IsRuling s protocol log Covered)
