use Rattle.std.proofs.Common.{sym, ◌∙◌}
use Rattle.pb_cread.proofs.Ended.{end_early, end_stops}
use Rattle.pb_cread.proofs.ending.expect.Goals as goal

pub returns-in-None-clause-fault : goal.returns-in-None-clause-fault
returns-in-None-clause-fault c = λ bytes r p done last left i.
    end_early bytes c.args.lines.now.rest.now c.args.lines.now.line r p done last left c.args.text.now c.place-place.result i c.in-None.ensures.line c.place-place.ensures.line c.place-place.ensures.col

pub returns-else-eq-clause-fault : goal.returns-else-eq-clause-fault
returns-else-eq-clause-fault c = λ bytes r p done last left i.
    end_stops bytes c.args.lines.now.rest.now c.args.lines.now.line r p done last left c.args.text.now c.in-Some.line.now c.take.new.self.rest.now c.place-place.result i c.in-Some.ensures.line
    (sym c.eq.ensures ∙ c.if-eq.false) c.place-place.ensures.line c.place-place.ensures.col
