use Rattle.pb_core_language.specs.Plain.{plain_stmt}
use Rattle.pb_project_piece.proofs.Straight.{joint_piece}
use Rattle.pb_project_piece.proofs.piece.put_joint.Goals as goal

pub returns : goal.returns
returns c = λ k. joint_piece c.args.setting.now.range c.args.setting.now.roles c.args.setting.now.whole.now (plain_stmt c.args.stmt.now).stmt c.args.out.now.items c.put_collective.new.out.items k c.in_ok-put_collective.ensures
