use Rattle.std.proofs.Common.{◌≡◌, ◌+◌, drop}
use Rattle.pb_core_language.specs.FlatOf.{between}
use Rattle.pb_choice.proofs.round.position.Given as goal

abbrev pub invariant-loop-i : goal.invariant-loop-i
invariant-loop-i l = between l.id l.opens ≡ l.i + between l.id (drop l.i l.opens)
