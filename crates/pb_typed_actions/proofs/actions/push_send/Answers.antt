use Rattle.pb_local.specs.Tree.{program_of}
use Rattle.pb_ctree.specs.Lines.{mpi_send}
use Rattle.pb_typed.specs.Calls.{send_text}
use Rattle.pb_typed.specs.Hooks.{send_hook}
use Rattle.pb_typed.specs.Pieces.{instead, added}
use Rattle.pb_typed.specs.Statements.{made_pieces}
use Rattle.pb_typed.proofs.Spelling.{two_put}
use Rattle.pb_typed_actions.proofs.actions.push_send.Goals as goal

pub returns : goal.returns
returns c =
    let p = program_of c.args.local.now in
    let t = c.args.types.now in
    let d = c.args.depth in
    let l = c.args.label in
    two_put p (added d (send_hook p t l c.args.to)) (instead d (mpi_send l c.args.to) (send_text p t l c.args.to)) (made_pieces p t d l c.args.to) c.args.out.now.items c.push_made.new.out.items c.push_send_hook.new.out.items c.push_mpi_send.new.out.items
    c.in_ok-push_made.ensures c.in_ok-push_send_hook.ensures c.in_ok-push_mpi_send.ensures
