use Rattle.std.proofs.Common.{◌<◌, length, rules}
use Rattle.std.proofs.lemmas.List.Edits.{map_over_more}
use Rattle.pb_strips_grammar.specs.Tokens.{token_here}
use Rattle.pb_strips_parse.proofs.keywords.as_read.Goals as goal

pub loop-token-preserved : goal.loop-token-preserved
loop-token-preserved c =
    let below : c.loop-token.token-index < length c.args.tokens.items = search rules in
    rw (c.kind_here-token.ensures, ← c.token-item.is) (map_over_more token_here c.args.tokens.items c.loop-token.token-items c.loop-token.token-index c.token-item.result below c.loop-token.invariant c.token-item.is)
