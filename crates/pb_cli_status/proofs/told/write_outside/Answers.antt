use Rattle.std.proofs.Common.{arith}
use Rattle.pb_cli_status.proofs.Fronts.{front_then, whole_then}
use Rattle.pb_cli_status.proofs.told.write_outside.Goals as goal

pub returns-clause-whole : goal.returns-clause-whole
returns-clause-whole g c = whole_then c.write_high.result (g.O.Sink.taken c.args.out.now) (g.O.Sink.taken c.write_low.new.out) (g.O.Sink.taken c.write_high.new.out) _ _ c.in_ok-write_low.ensures.whole c.write_high.ensures.whole

pub returns-clause-front : goal.returns-clause-front
returns-clause-front g c = front_then c.write_high.result (g.O.Sink.taken c.args.out.now) (g.O.Sink.taken c.write_low.new.out) (g.O.Sink.taken c.write_high.new.out) _ _ c.in_ok-write_low.ensures.whole c.write_high.ensures.front

pub returns-clause-later : goal.returns-clause-later
returns-clause-later g c = omega (arith, c.write_low.ensures.later, c.write_high.ensures.later)
