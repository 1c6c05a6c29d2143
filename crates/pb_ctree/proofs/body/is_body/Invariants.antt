use Rattle.std.proofs.Common.{◌≡◌, drop, true}
use Rattle.pb_ctree.specs.Bodies.{is_rest}
use Rattle.pb_ctree.proofs.body.is_body.Given as goal

abbrev pub invariant-loop-at : goal.invariant-loop-at
invariant-loop-at l = is_rest l.begins (drop l.at l.bytes) ≡ is_rest true l.bytes
