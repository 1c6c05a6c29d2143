use Rattle.std.proofs.Common.{◌++◌, ◌∙◌, ap}
use Rattle.std.specs.Prelude.{None}
use Rattle.pb_local.specs.Tree.{program_of}
use Rattle.pb_ctree.specs.Lines.{makes, takes, mpi_allreduce}
use Rattle.pb_ctree.specs.Small.{outgoing, incoming}
use Rattle.pb_typed.specs.Carrying.{carried_at}
use Rattle.pb_typed.specs.Calls.{make_text, take_text, allreduce_text}
use Rattle.pb_typed.specs.Hooks.{enter_hook, leave_hook}
use Rattle.pb_typed.specs.Pieces.{instead, added, pieces_text}
use Rattle.pb_typed.specs.Statements.{all_rooms}
use Rattle.pb_typed.proofs.Spelling.{joint_put}
use Rattle.pb_typed_actions.proofs.actions.push_allreduce.Goals as goal

pub returns : goal.returns
returns c =
    let p = program_of c.args.local.now in
    let t = c.args.types.now in
    let d = c.args.depth in
    let l = c.args.label in
    let k = carried_at t l in
    joint_put p (instead d (makes l) (make_text p t l None)) (added d (enter_hook p t l None outgoing)) (instead d (mpi_allreduce l c.args.op) (allreduce_text p t l c.args.op)) (added d (leave_hook p t l None incoming)) (instead d (takes l incoming) (take_text p t l None incoming)) (all_rooms k p d l) c.args.out.now.items c.push_make.new.out.items c.push_all_rooms.new.out.items c.push_enter.new.out.items c.push_mpi_allreduce.new.out.items c.push_leave.new.out.items c.push_take.new.out.items
    c.in_ok-push_make.ensures (c.in_ok-push_all_rooms.ensures ∙ ap (λ x. c.push_make.new.out.items ++ pieces_text p (all_rooms x p d l)) c.carried_at.ensures) c.in_ok-push_enter.ensures c.in_ok-push_mpi_allreduce.ensures c.in_ok-push_leave.ensures c.in_ok-push_take.ensures
