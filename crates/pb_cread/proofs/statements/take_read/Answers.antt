use Rattle.pb_local.specs.Tree.{program_of}
use Rattle.pb_cread_lines.specs.Items.{item_of}
use Rattle.pb_cread_statements.specs.Views.{state_of}
use Rattle.pb_cread.proofs.Deciding.{judged_if}
use Rattle.pb_cread.proofs.statements.take_read.Goals as goal

pub returns : goal.returns
returns c = judged_if (program_of c.args.local.now) (state_of c.args.reader.now) (state_of c.take.new.self) c.take.result c.args.read.depth (item_of c.relabelled-item.result) (item_of c.args.read.item) c.relabelled-item.ensures c.take.ensures
