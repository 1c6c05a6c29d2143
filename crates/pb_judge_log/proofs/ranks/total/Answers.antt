use Rattle.std.proofs.Common.{◌≡◌, ◌+◌, drop, length, pos, w64, to_z, of_z, arith}
use Rattle.pb_affine.specs.Values.{value, range}
use Rattle.pb_core_language.specs.Ranks.{total}
use Rattle.pb_judge_log.proofs.Counts.{next_role}
use Rattle.pb_judge_log.proofs.ranks.total.Goals as goal

pub indices-count-requires-clause-low : goal.indices-count-requires-clause-low
indices-count-requires-clause-low c = (next_role c.args.roles.now c.loop-role.role-index c.role-item.result c.args.n c.loop-role-test.true c.role-item.is c.loop-role.invariant.roles).low

pub indices-count-requires-clause-high : goal.indices-count-requires-clause-high
indices-count-requires-clause-high c = (next_role c.args.roles.now c.loop-role.role-index c.role-item.result c.args.n c.loop-role-test.true c.role-item.is c.loop-role.invariant.roles).high

pub loop-role-preserved : goal.loop-role-preserved
loop-role-preserved c =
    let n = to_z w64 (of_z w64 c.args.n) in
    let role = c.role-item.result in
    let i = c.loop-role.role-index in
    let next = next_role c.args.roles.now i role n c.loop-role-test.true c.role-item.is c.loop-role.invariant.roles in
    let before : c.loop-role.count + total (drop i c.args.roles.now) n ≡ total c.args.roles.now n = c.loop-role.invariant.count in
    let here : c.indices-count.result ≡ length (range (value role.low n (pos 0)) (value role.high n (pos 0))) = c.indices-count.ensures in
    record { roles = next.others; count = omega (arith, before, here, next.total_is) }
