use Rattle.std.proofs.Common.{◌++◌, drop}
use Rattle.std.specs.Prelude.{codes}
use Rattle.pb_local.specs.Tree.{program_of}
use Rattle.pb_ctree.specs.Frame.{first_body, make_head}
use Rattle.pb_cprint.specs.Framed.{make_marker}
use Rattle.pb_typed.specs.Frame.{typed_make_head}
use Rattle.pb_typed_frame.proofs.Written.{headed_put}
use Rattle.pb_typed_frame.proofs.functions.push_make.Goals as goal

pub returns : goal.returns
unfolding make_marker
returns c =
    let l = c.args.label.now in
    headed_put (program_of c.args.local.now) (make_head l) (typed_make_head c.args.carried l) (codes "make_" ++ l.name) (first_body (drop c.args.at c.args.bodies.now)) c.args.out.now.items
    c.push_make_head.new.out.items c.push_brace.new.out.items c.push_make_marker.new.out.items c.push_body_at.new.out.items c.push_function_end.new.out.items
    c.in_ok-push_make_head.ensures c.in_ok-push_brace.ensures c.in_ok-push_make_marker.ensures c.in_ok-push_body_at.ensures c.in_ok-push_function_end.ensures
