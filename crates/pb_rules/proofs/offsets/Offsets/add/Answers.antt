use Rattle.pb_rules.proofs.CutSteps.{on_ok}
use Rattle.pb_rules.proofs.CutSets.{fixed_added, moving_added}
use Rattle.pb_rules.proofs.offsets.Offsets.add.Goals as goal

pub returns-in-Fixed : goal.returns-in-Fixed
returns-in-Fixed c =
    on_ok c.add_offset.result _ _ (λ h. fixed_added c.args.cut c.args.self.now.fixed.keys c.args.self.now.moving.keys c.add_offset.new.offsets.keys c.in-Fixed.is h) c.add_offset.ensures

pub returns-in-Param : goal.returns-in-Param
returns-in-Param c =
    on_ok c.add_offset-in-Param.result _ _ (λ h. moving_added c.args.cut c.args.self.now.fixed.keys c.args.self.now.moving.keys c.add_offset-in-Param.new.offsets.keys c.in-Param.is h) c.add_offset-in-Param.ensures
