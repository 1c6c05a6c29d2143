use Rattle.std.proofs.Common.{sym, ◌∙◌}
use Rattle.pb_local.specs.Tree.{program_of}
use Rattle.pb_cread_lines.proofs.Whole.{no_line, not_line, only_line}
use Rattle.pb_cread_lines.proofs.read.read_line.Goals as goal

pub returns-else-branch-clause-read : goal.returns-else-branch-clause-read
returns-else-branch-clause-read c =
    not_line c.args.tables.now (program_of c.args.local.now) c.args.line.now c.in-Ok.read c.requires c.in-Ok.ensures (sym c.in_ok-is_spelled-in-Ok.ensures ∙ c.if-branch.false)

pub returns-in-Err-Unread-clause-read : goal.returns-in-Err-Unread-clause-read
returns-in-Err-Unread-clause-read c = no_line c.args.tables.now (program_of c.args.local.now) c.args.line.now c.requires (rw c.in-Err-Unread.field-0-is at c.in-Err-Unread.ensures)

pub returns-then-branch-clause-only : goal.returns-then-branch-clause-only
returns-then-branch-clause-only c = only_line c.args.tables.now (program_of c.args.local.now) c.args.line.now c.in-Ok.read c.requires c.in-Ok.ensures
