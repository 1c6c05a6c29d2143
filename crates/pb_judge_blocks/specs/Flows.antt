-- How a walk ends.
use Rattle.std.specs.Prelude.{ℕ, Bool, true, false, nat_eq, Option, Some, None}
use Rattle.pb_judge_steps.specs.declared.meeting.Difference.{Difference}
use Rattle.pb_judge_walks.specs.declared.flow.Flow.{Flow}
use Rattle.pb_judge_walks.specs.declared.flow.Flow.TheVariants.{Passed, Back, Differs, Endless}

abbrev pub is_passed : Flow → Bool
is_passed Passed = true
is_passed (Back id) = false
is_passed (Differs r line) = false
is_passed Endless = false

abbrev pub is_back : Flow → ℕ → Bool
is_back Passed id = false
is_back (Back other) id = nat_eq other id
is_back (Differs r line) id = false
is_back Endless id = false

abbrev pub differing : Difference → Flow
differing d = Differs d.rank d.line

abbrev pub flow_of : Option Difference → Flow
flow_of None = Passed
flow_of (Some d) = differing d
