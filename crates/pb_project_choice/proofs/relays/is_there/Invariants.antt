use Rattle.std.proofs.Common.{◌≡◌, drop}
use Rattle.pb_project_choice.specs.Sources.{is_listed}
use Rattle.pb_project_choice.proofs.relays.is_there.Given as goal

abbrev pub invariant-loop-other : goal.invariant-loop-other
invariant-loop-other l = is_listed l.source l.list ≡ is_listed l.source (drop l.other-index l.list)
