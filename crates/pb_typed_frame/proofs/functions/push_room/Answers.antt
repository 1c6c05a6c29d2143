use Rattle.std.proofs.Common.{drop}
use Rattle.pb_local.specs.Tree.{program_of}
use Rattle.pb_ctree.specs.Frame.{first_body}
use Rattle.pb_typed_frame.proofs.Written.{room_put}
use Rattle.pb_typed_frame.proofs.functions.push_room.Goals as goal

pub returns : goal.returns
returns c =
    room_put (program_of c.args.local.now) c.args.element c.args.label.now (first_body (drop c.args.at c.args.bodies.now)) c.args.out.now.items
    c.push_room_head.new.out.items c.push_brace.new.out.items c.push_room_marker.new.out.items c.push_body_at.new.out.items c.push_function_end.new.out.items
    c.in_ok-push_room_head.ensures c.in_ok-push_brace.ensures c.in_ok-push_room_marker.ensures c.in_ok-push_body_at.ensures c.in_ok-push_function_end.ensures
