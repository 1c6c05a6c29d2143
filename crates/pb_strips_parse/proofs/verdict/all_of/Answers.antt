use Rattle.pb_strips_parse.proofs.Together.{file_within}
use Rattle.pb_strips_parse.proofs.verdict.all_of.Goals as goal

pub returns-in-Ok : goal.returns-in-Ok
returns-in-Ok c = (file_within c.args.tokens.now c.in-Ok.file c.whole.new.cursor.rest.now c.in-Ok.ensures, c.requires)
