use Rattle.std.proofs.Common.{rules}
use Rattle.pb_cli_expand.specs.Expand.{IsUnexpanded}
use Rattle.pb_cli_expand.proofs.Told.{told}
use Rattle.pb_cli_expand.proofs.answer.answer_in.Goals as goal

pub returns-clause-reply : goal.returns-clause-reply
returns-clause-reply g c =
    let is : IsUnexpanded c.in-Ok.bytes.items c.in-Err-expanded.why = search rules in
    told c.args.file.now (g.F.Folder.holds c.args.folder.now) c.in-Ok.bytes.items c.in-Ok.ensures.whole c.in-Ok.ensures.short c.in-Err-expanded.why is
