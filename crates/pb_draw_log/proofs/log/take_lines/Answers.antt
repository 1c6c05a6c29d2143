use Rattle.std.proofs.Common.{arith}
use Rattle.pb_draw_log.proofs.Shorter.{line_shorter}
use Rattle.pb_draw_log.proofs.Taken.{one_more}
use Rattle.pb_draw_log.proofs.log.take_lines.Goals as goal

pub loop-line-preserved : goal.loop-line-preserved
loop-line-preserved c =
    let shorter = line_shorter c.loop-line.rest.now c.in-Some.line c.in-Some.tail.now c.in-Some.behind.now c.in-Some.ensures in
    one_more c.args.bytes.now c.loop-line.rest.now c.in-Some.tail.now c.in-Some.behind.now c.loop-line.table c.push.new.table c.loop-line.log c.push.new.log c.in-Some.line _
    c.loop-line.invariant c.in-Some.ensures c.in_ok-push.ensures (omega (arith, shorter.tail_within, c.loop-line.invariant.room))
