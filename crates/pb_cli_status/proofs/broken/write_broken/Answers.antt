use Rattle.std.proofs.Common.{arith}
use Rattle.pb_cli_status.proofs.Fronts.{front_then, whole_then}
use Rattle.pb_cli_status.proofs.broken.write_broken.Goals as goal

pub returns-clause-whole : goal.returns-clause-whole
returns-clause-whole g c = whole_then c.write_told.result (g.O.Sink.taken c.args.out.now) (g.O.Sink.taken c.write_rule.new.out) (g.O.Sink.taken c.write_told.new.out) _ _ c.in_ok-write_rule.ensures.whole c.write_told.ensures.whole

pub returns-clause-front : goal.returns-clause-front
returns-clause-front g c = front_then c.write_told.result (g.O.Sink.taken c.args.out.now) (g.O.Sink.taken c.write_rule.new.out) (g.O.Sink.taken c.write_told.new.out) _ _ c.in_ok-write_rule.ensures.whole c.write_told.ensures.front

pub returns-clause-later : goal.returns-clause-later
returns-clause-later g c = omega (arith, c.write_rule.ensures.later, c.write_told.ensures.later)
