-- What is read in the protocol and what in the braces of columns.
use Rattle.std.specs.Prelude.{ℕ, List}
use Rattle.pb_syntax.specs.Reading.{Reader}
use Rattle.pb_syntax.specs.Readers.{statement_keys}
use Rattle.pb_strips_syntax.specs.Strips.{Strip, PlainStripBlock}
use Rattle.pb_strips_grammar.specs.Readers.{strip_keys, items_at, items_or_columns_at, statement_at, statement_or_columns_at, column_block_at, block_at}
use Rattle.pb_strips_parse.specs.declared.blocks.Around.{Around}
use Rattle.pb_strips_parse.specs.declared.blocks.Around.TheVariants.{Protocol, Columns}

-- the block of a foreach
abbrev pub items_within : Around → Reader PlainStripBlock
items_within Protocol = items_or_columns_at
items_within Columns = items_at

abbrev pub block_within : Around → ℕ → Reader PlainStripBlock
block_within Protocol n = block_at n
block_within Columns n = column_block_at n

-- the first tokens of statements
abbrev pub keys_within : Around → List ℕ
keys_within Protocol = strip_keys
keys_within Columns = statement_keys

-- a statement, in which braces stand at most n deep
abbrev pub statement_within : Around → ℕ → Reader Strip
statement_within Protocol n = statement_or_columns_at (column_block_at n) (block_at n)
statement_within Columns n = statement_at items_at (column_block_at n)
