use Rattle.std.proofs.Common.{◌≡◌, ◌++◌, take, drop}
use Rattle.std.specs.Prelude.{map}
use Rattle.pb_strips_grammar.specs.Tokens.{token_here}
use Rattle.pb_strips_parse.proofs.keywords.as_read.Given as goal

abbrev pub invariant-loop-token : goal.invariant-loop-token
invariant-loop-token l = l.token-items ≡ map token_here (take l.token-index l.fn.tokens.items) ++ drop l.token-index l.fn.tokens.items
