use Rattle.std.proofs.Common.{sym, ◌∙◌}
use Rattle.pb_local.specs.Tree.{program_of}
use Rattle.pb_cread_statements.specs.Views.{state_of}
use Rattle.pb_cread.proofs.Ended.{main_early}
use Rattle.pb_cread.proofs.statements.read_lines.Goals as goal

pub returns-in-Err-clause-fault : goal.returns-in-Err-clause-fault
returns-in-Err-clause-fault c = λ text r m.
    c.in-Err.ensures.fault text c.loop-line.lines.rest.now c.take.new.self.rest.now c.loop-line.lines.line r (c.loop-line.invariant.main text r m) c.in-Some.ensures.line (sym c.is_finalize.ensures ∙ c.if-is_finalize.false) c.loop-line.invariant.line c.loop-line.invariant.col

pub returns-clause-fault : goal.returns-clause-fault
returns-clause-fault c = λ text r m.
    main_early text c.loop-line.lines.rest.now c.loop-line.lines.line r (program_of c.args.local.now) (state_of c.loop-line.reader) c.loop-line.place (c.loop-line.invariant.main text r m) c.in_default.ensures.line c.loop-line.invariant.line c.loop-line.invariant.col
