use Rattle.std.proofs.Common.{sym, ◌∙◌}
use Rattle.pb_cread.specs.Reached.{last_texts}
use Rattle.pb_cread.proofs.Ended.{end_exceeded, end_whole}
use Rattle.pb_cread.proofs.Passing.{nothing_is, something_is}
use Rattle.pb_cread.proofs.ending.end.Goals as goal

pub returns-then-is_empty-clause-read : goal.returns-then-is_empty-clause-read
returns-then-is_empty-clause-read c = λ bytes r p done i. end_whole bytes c.args.lines.now.rest.now c.args.lines.now.line r p done last_texts i (nothing_is c.args.lines.now.rest.now (sym c.is_empty.ensures ∙ c.if-is_empty.true))

pub returns-else-is_empty-clause-fault : goal.returns-else-is_empty-clause-fault
returns-else-is_empty-clause-fault c = λ bytes r p done i.
    end_exceeded bytes c.args.lines.now.rest.now c.args.lines.now.line r p done last_texts c.place.result i (something_is c.args.lines.now.rest.now (sym c.is_empty.ensures ∙ c.if-is_empty.false)) c.place.ensures.line c.place.ensures.col
