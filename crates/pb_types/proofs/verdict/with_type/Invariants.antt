use Rattle.std.proofs.Common.{◌≡◌, take}
use Rattle.pb_types.proofs.verdict.with_type.Given as goal

abbrev pub invariant-loop-token : goal.invariant-loop-token
invariant-loop-token l = l.tried.items ≡ take l.token-index l.front
