use Rattle.pb_local.specs.Tree.{plain}
use Rattle.std.proofs.Common.{ap, ◌∙◌}
use Rattle.pb_local.specs.declared.stmt.Stmt.TheVariants.{Send, Recv}
use Rattle.pb_local.specs.Tree.{send, recv}
use Rattle.pb_project_piece.proofs.Codes.{send_plain, recv_plain}
use Rattle.pb_project_piece.proofs.Items.{message_put}
use Rattle.pb_project_piece.proofs.item.put_message.Goals as goal

pub returns : goal.returns
returns c =
    message_put c.args.setting.now.range c.args.setting.now.roles c.args.setting.now.whole.now c.args.over c.args.fixed.now c.args.label c.args.from c.args.to (plain (Send c.args.label c.peer_of.result)) (plain (Recv c.args.label c.peer_of-2.result)) c.args.out.now.items c.put_at.new.out.items c.put_at-2.new.out.items
    (send_plain c.args.label c.peer_of.result ∙ ap (send c.args.label) c.peer_of.ensures) (recv_plain c.args.label c.peer_of-2.result ∙ ap (recv c.args.label) c.peer_of-2.ensures)
    c.in_ok-put_at.ensures c.in_ok-put_at-2.ensures
