use Rattle.pb_project_choice.proofs.Hearing.{HeardSoFar}
use Rattle.pb_project_choice.proofs.relays.heard_from.Given as goal

abbrev pub invariant-loop-entry : goal.invariant-loop-entry
invariant-loop-entry l = HeardSoFar l.chooser l.source l.entries l.entry-index l.areas.items
