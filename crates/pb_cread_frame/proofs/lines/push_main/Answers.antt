use Rattle.std.proofs.Common.{map}
use Rattle.pb_ctree.specs.Trees.{sum_of}
use Rattle.pb_cread_frame.specs.Views.{texts_of}
use Rattle.pb_cread_frame.proofs.Texts.{main_are}
use Rattle.pb_cread_frame.proofs.lines.push_main.Goals as goal

pub returns : goal.returns
returns c = main_are (texts_of c.args.lines.now.items) (texts_of c.push_start.new.lines.items) (texts_of c.push_size.new.lines.items) (texts_of c.push_seats.new.lines.items) c.args.range (sum_of c.args.size) (map sum_of c.args.bases.now) (map sum_of c.args.places.now)
    c.in_ok-push_start.ensures c.in_ok-push_size.ensures c.in_ok-push_seats.ensures
