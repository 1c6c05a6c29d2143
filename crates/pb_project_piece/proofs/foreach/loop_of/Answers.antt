use Rattle.pb_core_language.specs.Plain.{plain_block}
use Rattle.pb_local.specs.declared.stmt.Stmt.TheVariants.{For}
use Rattle.pb_local.proofs.Plains.{for_plain}
use Rattle.pb_project_piece.proofs.Loops.{loop_rounds}
use Rattle.pb_project_piece.proofs.foreach.loop_of.Goals as goal

pub returns : goal.returns
returns c =
    loop_rounds c.args.setting.now.range c.args.setting.now.roles c.args.setting.now.whole.now c.args.over c.args.fixed.now (plain_block c.args.items.now).block c.in_ok-body.body.items c.in_ok-one.one.items (For c.args.over.low c.args.over.high c.in_ok-body.body) c.in_ok-body.ensures (for_plain c.args.over.low c.args.over.high c.in_ok-body.body) c.in_ok-one.ensures
