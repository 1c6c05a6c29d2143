use Rattle.pb_local.specs.Tree.{plain}
use Rattle.pb_local.specs.declared.stmt.Stmt.TheVariants.{Run}
use Rattle.pb_project_piece.proofs.Codes.{run_plain}
use Rattle.pb_project_piece.proofs.Segments.{run_codes}
use Rattle.pb_project_piece.proofs.segment.put_run.Goals as goal

pub returns : goal.returns
returns c =
    run_codes c.args.segment.role c.args.segment.off c.args.kernel c.args.at (plain (Run c.args.kernel)) c.args.out.now.items c.put_if.new.out.items (run_plain c.args.kernel) c.in_ok-put_if.ensures
