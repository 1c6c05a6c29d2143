use Rattle.std.proofs.Common.{◌≡◌, ◌++◌, drop}
use Rattle.pb_part_takers.specs.Loops.{ids_of}
use Rattle.pb_choice.proofs.round.ids.Given as goal

abbrev pub invariant-loop-one : goal.invariant-loop-one
invariant-loop-one l = l.list.items ++ ids_of (drop l.one-index l.held) ≡ ids_of l.held
