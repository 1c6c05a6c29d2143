use Rattle.pb_ctree.specs.Trees.{sum_of}
use Rattle.pb_cread_frame.specs.Views.{texts_of}
use Rattle.pb_cread_frame.proofs.Texts.{sizes_are}
use Rattle.pb_cread_frame.proofs.lines.push_size.Goals as goal

pub returns : goal.returns
returns c = sizes_are (texts_of c.args.lines.now.items) (texts_of c.push_n.new.lines.items) (texts_of c.push_zeros.new.lines.items) (texts_of c.push_test.new.lines.items) (texts_of c.push_abort.new.lines.items) c.args.range (sum_of c.args.size)
    c.in_ok-push_n.ensures c.in_ok-push_zeros.ensures c.in_ok-push_test.ensures c.in_ok-push_abort.ensures
