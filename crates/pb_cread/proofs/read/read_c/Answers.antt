use Rattle.std.proofs.Common.{map, sym, subst}
use Rattle.pb_local.specs.Tree.{codes_of, plain, program_of}
use Rattle.pb_cread_frame.specs.Views.{read_of, state_of}
use Rattle.pb_cread_statements.specs.Reading.{nothing_read}
use Rattle.pb_cread.specs.Limits.{KeepsLimits}
use Rattle.pb_cread.specs.Reached.{with_body}
use Rattle.pb_cread.proofs.Faulted.{head_of}
use Rattle.pb_cread.proofs.Passing.{begin, spelled}
use Rattle.pb_cread.proofs.read.read_c.Goals as goal

pub read_body-requires : goal.read_body-requires
read_body-requires c = record { head = head_of c.args.bytes.now c.read_frame.new.lines.rest.now c.read_frame.new.lines.line (read_of c.in-Ok.frame) (program_of c.without_statements-local.result.0) nothing_read (begin c.args.bytes.now c.of-lines.result.rest.now c.read_frame.new.lines.rest.now c.read_frame.new.lines.line (state_of c.in-Ok.frame) (program_of c.without_statements-local.result.0) c.of-lines.ensures.rest c.in-Ok.ensures.read c.in-Ok.ensures.done c.without_statements-local.ensures.tables) }

pub returns-in-Err-read_body-clause-fault : goal.returns-in-Err-read_body-clause-fault
returns-in-Err-read_body-clause-fault c = c.in-Err-read_body.ensures.fault c.args.bytes.now (read_of c.in-Ok.frame) (begin c.args.bytes.now c.of-lines.result.rest.now c.read_frame.new.lines.rest.now c.read_frame.new.lines.line (state_of c.in-Ok.frame) (program_of c.without_statements-local.result.0) c.of-lines.ensures.rest c.in-Ok.ensures.read c.in-Ok.ensures.done c.without_statements-local.ensures.tables)

pub emit-requires : goal.emit-requires
emit-requires c = let w = (c.in-Ok-read_body.ensures.read c.args.bytes.now (read_of c.in-Ok.frame) (begin c.args.bytes.now c.of-lines.result.rest.now c.read_frame.new.lines.rest.now c.read_frame.new.lines.line (state_of c.in-Ok.frame) (program_of c.without_statements-local.result.0) c.of-lines.ensures.rest c.in-Ok.ensures.read c.in-Ok.ensures.done c.without_statements-local.ensures.tables)) in w.made

pub returns-clause-spells : goal.returns-clause-spells
returns-clause-spells c = spelled c.in_ok-tree.tree _ c.args.bytes.now (read_of c.in-Ok.frame) (with_body (program_of c.without_statements-local.result.0) (codes_of (map plain c.in-Ok-read_body.body.items))) c.in_ok-tree.ensures.made c.in_ok-tree.ensures.same c.without_statements-local.ensures.prelude c.without_statements-local.ensures.list (c.in-Ok-read_body.ensures.read c.args.bytes.now (read_of c.in-Ok.frame) (begin c.args.bytes.now c.of-lines.result.rest.now c.read_frame.new.lines.rest.now c.read_frame.new.lines.line (state_of c.in-Ok.frame) (program_of c.without_statements-local.result.0) c.of-lines.ensures.rest c.in-Ok.ensures.read c.in-Ok.ensures.done c.without_statements-local.ensures.tables))

pub returns-clause-limits : goal.returns-clause-limits
returns-clause-limits c = let w = (c.in-Ok-read_body.ensures.read c.args.bytes.now (read_of c.in-Ok.frame) (begin c.args.bytes.now c.of-lines.result.rest.now c.read_frame.new.lines.rest.now c.read_frame.new.lines.line (state_of c.in-Ok.frame) (program_of c.without_statements-local.result.0) c.of-lines.ensures.rest c.in-Ok.ensures.read c.in-Ok.ensures.done c.without_statements-local.ensures.tables)) in subst KeepsLimits (sym c.in_ok-tree.ensures.same) w.limits
