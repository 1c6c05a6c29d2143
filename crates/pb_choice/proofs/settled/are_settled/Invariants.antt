use Rattle.std.proofs.Common.{map, drop}
use Rattle.pb_core_language.specs.Plain.{plain_block, branches_of}
use Rattle.pb_choice.specs.Settled.{AreSettled}
use Rattle.pb_choice.proofs.settled.are_settled.Given as goal

abbrev pub invariant-loop-i : goal.invariant-loop-i
invariant-loop-i l =
    AreSettled l.best (branches_of (map plain_block (drop l.i l.branches))) → AreSettled l.best (branches_of (map plain_block (drop l.from l.branches)))
