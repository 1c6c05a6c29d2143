use Rattle.std.proofs.Common.{◌++◌, ◌∙◌, ap}
use Rattle.pb_local.specs.Tree.{program_of}
use Rattle.pb_ctree.specs.Lines.{mpi_recv}
use Rattle.pb_typed.specs.Carrying.{carried_at}
use Rattle.pb_typed.specs.Calls.{recv_text}
use Rattle.pb_typed.specs.Hooks.{recv_hook}
use Rattle.pb_typed.specs.Pieces.{instead, added, pieces_text}
use Rattle.pb_typed.specs.Statements.{taken_pieces, rooms, arrivals}
use Rattle.pb_typed.proofs.Spelling.{recv_put}
use Rattle.pb_typed_actions.proofs.actions.push_recv.Goals as goal

pub returns : goal.returns
returns c =
    let p = program_of c.args.local.now in
    let t = c.args.types.now in
    let d = c.args.depth in
    let l = c.args.label in
    let from = c.args.from in
    let k = carried_at t l in
    recv_put p (instead d (mpi_recv l from) (recv_text p t l from)) (added d (recv_hook p t l from)) (rooms k p d l from) (arrivals k p d l) (taken_pieces p t d l from) c.args.out.now.items c.push_rooms.new.out.items c.push_mpi_recv.new.out.items c.push_arrivals.new.out.items c.push_recv_hook.new.out.items c.push_taken.new.out.items
    (c.in_ok-push_rooms.ensures ∙ ap (λ x. c.args.out.now.items ++ pieces_text p (rooms x p d l from)) c.carried_at-carried.ensures) c.in_ok-push_mpi_recv.ensures (c.in_ok-push_arrivals.ensures ∙ ap (λ x. c.push_mpi_recv.new.out.items ++ pieces_text p (arrivals x p d l)) c.carried_at-carried.ensures) c.in_ok-push_recv_hook.ensures c.in_ok-push_taken.ensures
