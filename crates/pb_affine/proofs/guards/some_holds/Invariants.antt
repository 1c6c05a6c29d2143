use Rattle.std.proofs.Common.{◌≡◌, drop}
use Rattle.pb_affine.specs.Values.{hold}
use Rattle.pb_affine.proofs.guards.some_holds.Given as goal

abbrev pub invariant-loop-guard : goal.invariant-loop-guard
invariant-loop-guard l = hold l.guards l.n l.i l.role l.index ≡ hold (drop l.guard-index l.guards) l.n l.i l.role l.index
