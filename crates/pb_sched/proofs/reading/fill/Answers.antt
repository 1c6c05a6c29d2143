use Rattle.std.proofs.Common.{◌≡◌, ◌<◌, length, arith, rules}
use Rattle.pb_sched.proofs.Finding.{front_more}
use Rattle.pb_sched.proofs.reading.fill.Goals as goal

pub loop-format-preserved : goal.loop-format-preserved
loop-format-preserved c =
    let count : c.len.result ≡ length c.loop-format.turns.items = search rules in
    let room : length c.loop-format.turns.items < 1000000 = omega arith in
    front_more c.args.format c.args.text.now c.loop-format.turns.items c.push.new.self.items c.in-Some.next c.loop-format.rest.now c.in-Some.after.now c.loop-format.invariant room c.in_ok-push-in-Some.ensures.items c.in-Some.ensures
