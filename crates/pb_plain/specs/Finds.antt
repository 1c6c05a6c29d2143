-- The outcome that a value of the program stands for.
use Rattle.pb_core_language.specs.Outcomes as O
use Rattle.pb_plain.specs.declared.outcomes.Outcome.{Outcome}
use Rattle.pb_plain.specs.declared.outcomes.Outcome.TheVariants.{Nothing, Receive, Other, Again}

abbrev pub outcome_of : Outcome → O.Outcome
outcome_of Nothing = O.nothing_first
outcome_of (Receive p l) = O.receives p l
outcome_of Other = O.other_first
outcome_of Again = O.again_first
