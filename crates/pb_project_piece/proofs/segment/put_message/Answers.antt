use Rattle.std.proofs.Common.{ap, ◌∙◌}
use Rattle.pb_local.specs.Tree.{plain, send, recv}
use Rattle.pb_local.specs.declared.stmt.Stmt.TheVariants.{Send, Recv}
use Rattle.pb_project_piece.proofs.Codes.{send_plain, recv_plain}
use Rattle.pb_project_piece.proofs.Segments.{message_codes}
use Rattle.pb_project_piece.proofs.segment.put_message.Goals as goal

pub returns : goal.returns
returns c =
    message_codes c.args.segment.role c.args.segment.off c.args.label c.args.from c.args.to (plain (Send c.args.label c.peer_of.result)) (plain (Recv c.args.label c.peer_of-2.result))
    c.args.out.now.items c.put_if.new.out.items c.put_if-2.new.out.items
    (send_plain c.args.label c.peer_of.result ∙ ap (send c.args.label) c.peer_of.ensures) (recv_plain c.args.label c.peer_of-2.result ∙ ap (recv c.args.label) c.peer_of-2.ensures)
    c.in_ok-put_if.ensures c.in_ok-put_if-2.ensures
