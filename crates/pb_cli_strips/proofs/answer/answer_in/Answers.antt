use Rattle.std.proofs.Common.{rules}
use Rattle.pb_cli_strips.specs.Strips.{IsUnflattened}
use Rattle.pb_cli_strips.proofs.Told.{told}
use Rattle.pb_cli_strips.proofs.answer.answer_in.Goals as goal

pub returns-clause-reply : goal.returns-clause-reply
returns-clause-reply g c =
    let is : IsUnflattened c.in-Ok.bytes.items c.in-Err-flattened.why = search rules in
    told c.args.file.now (g.F.Folder.holds c.args.folder.now) c.in-Ok.bytes.items c.in-Ok.ensures.whole c.in-Ok.ensures.short c.in-Err-flattened.why is
