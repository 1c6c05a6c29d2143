use Rattle.pb_strips_grammar.proofs.Final.{whole_tells}
use Rattle.pb_strips_grammar.proofs.whole_tells.Goals as goal

pub returns : goal.returns
returns c = whole_tells
