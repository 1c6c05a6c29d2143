-- The plain tree of a value of the program.
use Rattle.std.specs.Prelude.{map}
use Rattle.pb_syntax.specs.Tree as tree
use Rattle.pb_do_syntax.specs.declared.tree.CallBlock.{CallBlock, CallBlock-F, fold-CallBlock}
use Rattle.pb_do_syntax.specs.declared.tree.CallStatement.{CallStatement, CallStatement-F, fold-CallStatement}
use Rattle.pb_do_syntax.specs.declared.tree.CallStatement.TheOpen as Layer
use Rattle.pb_do_syntax.specs.declared.tree.Sub.{Sub}
use Rattle.pb_do_syntax.specs.declared.tree.CallTree.{CallTree}
use Rattle.pb_do_syntax.specs.Calls.{Call, plain, foreach, loop, choice, call, PlainCallBlock, calls_of, branches_of, PlainSub, PlainCallFile}

-- one layer of a value, with the plain trees of what it holds
abbrev pub block_layer : CallBlock-F Call PlainCallBlock → PlainCallBlock
block_layer b = record { place = b.place; list = calls_of b.list.items }

abbrev pub statement_layer : CallStatement-F Call PlainCallBlock → Call
statement_layer (Layer.Message l p f t) = plain (tree.message l p f t)
statement_layer (Layer.Foreach at v r items) = foreach at v r items.place items.list
statement_layer (Layer.Rec at n body) = loop at n body.place body.list
statement_layer (Layer.Continue at n) = plain (tree.again at n)
statement_layer (Layer.Choice at k who bs) = choice at k who (branches_of bs.items)
statement_layer (Layer.Compute at k who) = plain (tree.compute at k who)
statement_layer (Layer.Barrier at) = plain (tree.barrier at)
statement_layer (Layer.Broadcast at l p f) = plain (tree.broadcast at l p f)
statement_layer (Layer.Reduce at l p o t) = plain (tree.reduce at l p o t)
statement_layer (Layer.Allreduce at l p o) = plain (tree.allreduce at l p o)
statement_layer (Layer.Do at f args) = call at f args.items

abbrev pub plain_block : CallBlock → PlainCallBlock
plain_block = fold-CallBlock Call PlainCallBlock statement_layer block_layer

abbrev pub plain_statement : CallStatement → Call
plain_statement = fold-CallStatement Call PlainCallBlock statement_layer block_layer

abbrev pub plain_sub : Sub → PlainSub
plain_sub s = record { name = s.name; params = s.params.items; body = plain_block s.body }

abbrev pub plain_file : CallTree → PlainCallFile
plain_file f = record {
  subs = map plain_sub f.subs.items;
  constant = f.constant;
  low = f.low;
  low_place = f.low_place;
  high = f.high;
  high_place = f.high_place;
  protocol = f.protocol;
  roles = f.roles.items;
  body = plain_block f.body;
}
