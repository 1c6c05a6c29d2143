use Rattle.std.proofs.Common.{ℕ, List, subst}
use Rattle.pb_io.specs.Unread.{IsUnread}
use Rattle.pb_core_language.specs.Plain.{plain}
use Rattle.pb_cli_judge.specs.Judge.{IsKeptLine}
use Rattle.pb_cli_judge.proofs.Told.{kept}
use Rattle.pb_cli_judge.proofs.answer.line_on.Goals as goal

pub returns-in-Ok-ruled-clause-done : goal.returns-in-Ok-ruled-clause-done
returns-in-Ok-ruled-clause-done g c =
    kept (IsUnread (g.F.Folder.steady c.args.folder.now) (g.F.Folder.holds c.args.folder.now) (g.F.Folder.faults c.args.folder.now) (g.F.Folder.faults c.bytes_in.new.folder)) (plain c.args.core.now) c.args.n c.args.log.now
    (g.F.Folder.holds c.args.folder.now) c.requires.runs c.in-Ok.bytes.items c.in-Ok.ensures.whole c.in-Ok.ensures.short c.in-Ok-ruled.line.now
    (subst (λ (b : List ℕ). IsKeptLine (plain c.args.core.now) c.args.n b c.in-Ok-ruled.line.now) c.deref.ensures.value c.in-Ok-ruled.ensures.kept)
