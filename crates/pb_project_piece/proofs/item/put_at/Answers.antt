use Rattle.pb_local.specs.Tree.{plain}
use Rattle.pb_project_piece.proofs.Items.{put_there, put_gone}
use Rattle.pb_project_piece.proofs.item.put_at.Goals as goal

pub returns-in_ok-push : goal.returns-in_ok-push
returns-in_ok-push c =
    put_there c.args.setting.now.range c.args.setting.now.roles c.args.setting.now.whole.now c.args.over c.args.fixed.now c.args.end (plain c.args.stmt) c.in_ok-there.there c.args.out.now.items c.push.new.self.items c.in_ok-one.one
    c.in_ok-there.ensures c.if-there.true c.in_ok-one.ensures c.in_ok-push.ensures.items

pub returns-else-there : goal.returns-else-there
returns-else-there c =
    put_gone c.args.setting.now.range c.args.setting.now.roles c.args.setting.now.whole.now c.args.over c.args.fixed.now c.args.end (plain c.args.stmt) c.in_ok-there.there c.args.out.now.items
    c.in_ok-there.ensures c.if-there.false
