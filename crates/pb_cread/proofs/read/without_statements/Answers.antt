use Rattle.std.proofs.Common.{sym}
use Rattle.pb_cread_frame.specs.Views.{read_of}
use Rattle.pb_cread.proofs.Passing.{without_body}
use Rattle.pb_cread.proofs.read.without_statements.Goals as goal

pub returns-clause-tables : goal.returns-clause-tables
returns-clause-tables c = sym (without_body (read_of c.args.frame) c.new.result.items c.new.ensures.items)
