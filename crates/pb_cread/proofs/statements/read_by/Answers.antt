use Rattle.std.proofs.Common.{sym, subst}
use Rattle.pb_local.specs.Tree.{program_of}
use Rattle.pb_cread_statements.specs.Reading.{State, nothing_read}
use Rattle.pb_cread_statements.specs.Views.{state_of}
use Rattle.pb_cread.specs.Reached.{InMain}
use Rattle.pb_cread.proofs.Passing.{finish_ok, finish_err}
use Rattle.pb_cread.proofs.statements.read_by.Goals as goal

pub returns-in-Ok-clause-read : goal.returns-in-Ok-clause-read
returns-in-Ok-clause-read c =
    finish_ok c.finished.result (state_of c.read_lines.new.reader) c.in-Ok.place c.read_lines.new.lines.rest.now c.read_lines.new.lines.line (program_of c.args.local.now) (λ text r. InMain text c.args.lines.now.rest.now c.args.lines.now.line r (program_of c.args.local.now) nothing_read) c.finished.ensures.read
    (λ text r m. c.in-Ok.ensures.read text r (subst (λ (s : State). InMain text c.args.lines.now.rest.now c.args.lines.now.line r (program_of c.args.local.now) s) (sym c.new-reader.ensures) m))

pub returns-in-Ok-clause-fault : goal.returns-in-Ok-clause-fault
returns-in-Ok-clause-fault c =
    finish_err c.finished.result (state_of c.read_lines.new.reader) c.in-Ok.place c.read_lines.new.lines.rest.now c.read_lines.new.lines.line (program_of c.args.local.now) (λ text r. InMain text c.args.lines.now.rest.now c.args.lines.now.line r (program_of c.args.local.now) nothing_read) c.finished.ensures.fault
    (λ text r m. c.in-Ok.ensures.read text r (subst (λ (s : State). InMain text c.args.lines.now.rest.now c.args.lines.now.line r (program_of c.args.local.now) s) (sym c.new-reader.ensures) m))

pub returns-clause-fault : goal.returns-clause-fault
returns-clause-fault c = λ text r m. c.in-Err.ensures.fault text r (subst (λ (s : State). InMain text c.args.lines.now.rest.now c.args.lines.now.line r (program_of c.args.local.now) s) (sym c.new-reader.ensures) m)
