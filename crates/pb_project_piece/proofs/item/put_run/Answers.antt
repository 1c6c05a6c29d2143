use Rattle.pb_local.specs.Tree.{plain}
use Rattle.pb_local.specs.declared.stmt.Stmt.TheVariants.{Run}
use Rattle.pb_project_piece.proofs.Codes.{run_plain}
use Rattle.pb_project_piece.proofs.Items.{run_put}
use Rattle.pb_project_piece.proofs.item.put_run.Goals as goal

pub returns : goal.returns
returns c = run_put c.args.setting.now.range c.args.setting.now.roles c.args.setting.now.whole.now c.args.over c.args.fixed.now c.args.kernel c.args.at (plain (Run c.args.kernel)) c.args.out.now.items c.put_at.new.out.items (run_plain c.args.kernel) c.in_ok-put_at.ensures
