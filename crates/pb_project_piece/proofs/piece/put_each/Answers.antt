use Rattle.pb_core_language.specs.Plain.{plain_block}
use Rattle.pb_project_piece.proofs.Straight.{each_piece}
use Rattle.pb_project_piece.proofs.piece.put_each.Goals as goal

pub returns : goal.returns
returns c = λ m. each_piece c.args.setting.now.range c.args.setting.now.roles c.args.setting.now.whole.now (record { low = c.args.low; high = c.args.high }) m (plain_block c.args.items.now).block c.args.out.now.items c.put_foreach.new.out.items c.in_ok-put_foreach.ensures
