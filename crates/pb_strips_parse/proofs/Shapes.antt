-- What a block is, whatever stands around it.
use Rattle.std.proofs.Common.{◌≡◌, ℕ, suc, List, refl}
use Rattle.pb_text.specs.declared.token.Token.{Token}
use Rattle.pb_syntax.specs.Reading.{among}
use Rattle.pb_strips_grammar.specs.Readers.{braces_at, column_block_at, block_at}
use Rattle.pb_strips_parse.specs.declared.blocks.Around.{Around}
use Rattle.pb_strips_parse.specs.declared.blocks.Around.TheVariants.{Protocol, Columns}
use Rattle.pb_strips_parse.specs.Blocks.{block_within, keys_within, statement_within}

pub block_empty : (around : Around) (ts : List Token) → block_within around 0 ts ≡ column_block_at 0 ts
unfolding block_at column_block_at
block_empty Protocol ts = refl
block_empty Columns ts = refl

pub block_more : (around : Around) (n : ℕ) (ts : List Token) → block_within around (suc n) ts ≡ braces_at (among (keys_within around)) (statement_within around n) ts
unfolding block_at column_block_at
block_more Protocol n ts = refl
block_more Columns n ts = refl
