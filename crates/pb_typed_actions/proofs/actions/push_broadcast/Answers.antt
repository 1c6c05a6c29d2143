use Rattle.std.proofs.Common.{◌++◌, ◌∙◌, ap}
use Rattle.std.specs.Prelude.{Some, None}
use Rattle.pb_local.specs.Tree.{program_of}
use Rattle.pb_ctree.specs.Lines.{root_makes, takes, mpi_bcast}
use Rattle.pb_ctree.specs.Small.{outgoing}
use Rattle.pb_typed.specs.Carrying.{carried_at, shared}
use Rattle.pb_typed.specs.Calls.{root_make_text, take_text, bcast_text}
use Rattle.pb_typed.specs.Hooks.{enter_hook, leave_hook}
use Rattle.pb_typed.specs.Pieces.{instead, added, pieces_text}
use Rattle.pb_typed.specs.Statements.{shared_rooms}
use Rattle.pb_typed.proofs.Spelling.{joint_put}
use Rattle.pb_typed_actions.proofs.actions.push_broadcast.Goals as goal

pub returns : goal.returns
returns c =
    let p = program_of c.args.local.now in
    let t = c.args.types.now in
    let d = c.args.depth in
    let l = c.args.label in
    let k = carried_at t l in
    joint_put p (instead d (root_makes c.args.root l) (root_make_text p t l c.args.root None)) (added d (enter_hook p t l (Some c.args.root) outgoing)) (instead d (mpi_bcast l c.args.root) (bcast_text p t l c.args.root)) (added d (leave_hook p t l None outgoing)) (instead d (takes l outgoing) (take_text p t l (Some c.args.root) (shared k))) (shared_rooms k p d l c.args.root) c.args.out.now.items c.push_root_make.new.out.items c.push_shared_rooms.new.out.items c.push_enter.new.out.items c.push_mpi_bcast.new.out.items c.push_leave.new.out.items c.push_shared_take.new.out.items
    c.in_ok-push_root_make.ensures (c.in_ok-push_shared_rooms.ensures ∙ ap (λ x. c.push_root_make.new.out.items ++ pieces_text p (shared_rooms x p d l c.args.root)) c.carried_at.ensures) c.in_ok-push_enter.ensures c.in_ok-push_mpi_bcast.ensures c.in_ok-push_leave.ensures c.in_ok-push_shared_take.ensures
