use Rattle.std.proofs.Common.{◌≡◌, ◌≤◌, ◌+◌, drop, length, pos, w64, to_z, of_z, arith}
use Rattle.pb_affine.specs.Values.{value, range}
use Rattle.pb_core_language.specs.Ranks.{total}
use Rattle.pb_judge_log.proofs.Counts.{next_role}
use Rattle.pb_judge_log.proofs.ranks.are_few.Goals as goal

pub loop-role-preserved : goal.loop-role-preserved
loop-role-preserved c =
    let n = to_z w64 (of_z w64 c.args.n) in
    let role = c.role-item.result in
    let i = c.loop-role.role-index in
    let next = next_role c.args.roles.now i role n c.loop-role-test.true c.role-item.is c.loop-role.invariant.roles in
    let before : 1024 + total (drop i c.args.roles.now) n ≡ total c.args.roles.now n + c.loop-role.room = c.loop-role.invariant.count in
    let here : c.indices-more.result ≡ length (range (value role.low n (pos 0)) (value role.high n (pos 0))) = c.indices-more.ensures in
    let few : c.loop-role.room ≤ 1024 = c.loop-role.invariant.few in
    let less : c.indices-more.result ≤ c.loop-role.room = c.if-more-room.false in
    record { roles = next.others; few = omega (arith, few, less); count = omega (arith, before, here, less, next.total_is) }
