use Rattle.pb_text.specs.Lexemes.{is_blank}
use Rattle.pb_lex.proofs.Prefixes.{prefix_within}
use Rattle.pb_lex.proofs.gap.blanks.Goals as goal

pub returns-clause-within : goal.returns-clause-within
returns-clause-within c = rw c.blanks_len.ensures (prefix_within is_blank c.args.text.now)
