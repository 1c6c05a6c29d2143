use Rattle.pb_core_language.specs.Plain.{plain_block}
use Rattle.pb_project_piece.proofs.Segments.{roles_start, roles_step, roles_done}
use Rattle.pb_project_piece.proofs.segment.put_segments.Goals as goal

pub loop-role-init : goal.loop-role-init
loop-role-init c = roles_start c.args.setting.now.range c.args.setting.now.roles c.args.setting.now.whole.now c.args.over c.args.less.now (plain_block c.args.items.now).block c.args.out.now.items

pub loop-role-preserved : goal.loop-role-preserved
loop-role-preserved c =
    roles_step c.args.setting.now.range c.args.setting.now.roles c.args.setting.now.whole.now c.args.over c.args.less.now (plain_block c.args.items.now).block c.loop-role.role c.args.out.now.items c.loop-role.out.items c.put_role.new.out.items c.loop-role-test.true c.in_ok-put_role.ensures c.loop-role.invariant

pub returns : goal.returns
returns c = roles_done c.args.setting.now.range c.args.setting.now.roles c.args.setting.now.whole.now c.args.over c.args.less.now (plain_block c.args.items.now).block c.loop-role.role c.args.out.now.items c.loop-role.out.items c.loop-role-test.false c.loop-role.invariant
