use Rattle.pb_project_choice.proofs.Hearing.{StrangersSoFar}
use Rattle.pb_project_choice.proofs.relays.strangers.Given as goal

abbrev pub invariant-loop-area : goal.invariant-loop-area
invariant-loop-area l = StrangersSoFar l.chooser l.source l.areas l.area-index l.list.items
