-- The plain tree of a value of the program.
use Rattle.std.specs.Prelude.{map}
use Rattle.pb_strips_syntax.specs.declared.tree.StripBlock.{StripBlock, StripBlock-F, fold-StripBlock}
use Rattle.pb_strips_syntax.specs.declared.tree.StripStatement.{StripStatement, StripStatement-F, fold-StripStatement}
use Rattle.pb_strips_syntax.specs.declared.tree.StripStatement.TheOpen as Layer
use Rattle.pb_strips_syntax.specs.declared.tree.StripTree.{StripTree}
use Rattle.pb_strips_syntax.specs.Strips.{Strip, message, foreach, loop, again, choice, compute, barrier, broadcast, reduce, allreduce, columns, PlainStripBlock, strips_of, branches_of, PlainStripFile}

-- one layer of a value, with the plain trees of what it holds
abbrev pub block_layer : StripBlock-F Strip PlainStripBlock → PlainStripBlock
block_layer b = record { place = b.place; list = strips_of b.list.items }

abbrev pub statement_layer : StripStatement-F Strip PlainStripBlock → Strip
statement_layer (Layer.Message l p f t) = message l p f t
statement_layer (Layer.Foreach at v r items) = foreach at v r items.place items.list
statement_layer (Layer.Rec at n body) = loop at n body.place body.list
statement_layer (Layer.Continue at n) = again at n
statement_layer (Layer.Choice at k who bs) = choice at k who (branches_of bs.items)
statement_layer (Layer.Compute at k who) = compute at k who
statement_layer (Layer.Barrier at) = barrier at
statement_layer (Layer.Broadcast at l p f) = broadcast at l p f
statement_layer (Layer.Reduce at l p o t) = reduce at l p o t
statement_layer (Layer.Allreduce at l p o) = allreduce at l p o
statement_layer (Layer.Columns at v low high body) = columns at v low high body.place body.list

abbrev pub plain_block : StripBlock → PlainStripBlock
plain_block = fold-StripBlock Strip PlainStripBlock statement_layer block_layer

abbrev pub plain_statement : StripStatement → Strip
plain_statement = fold-StripStatement Strip PlainStripBlock statement_layer block_layer

abbrev pub plain_file : StripTree → PlainStripFile
plain_file f = record {
  constant = f.constant;
  low = f.low;
  low_place = f.low_place;
  high = f.high;
  high_place = f.high_place;
  protocol = f.protocol;
  roles = f.roles.items;
  body = plain_block f.body;
}
