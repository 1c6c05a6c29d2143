-- The plain tree of a value of the program.
use Rattle.pb_syntax.specs.declared.tree.Block.{Block, Block-F, fold-Block}
use Rattle.pb_syntax.specs.declared.tree.Statement.{Statement, Statement-F, fold-Statement}
use Rattle.pb_syntax.specs.declared.tree.Statement.TheOpen as Layer
use Rattle.pb_syntax.specs.declared.tree.FileTree.{FileTree}
use Rattle.pb_syntax.specs.Tree.{PlainStatement, message, foreach, loop, again, choice, compute, barrier, broadcast, reduce, allreduce, PlainBlock, statements_of, branches_of, PlainFile}

-- one layer of a value, with the plain trees of what it holds
abbrev pub block_layer : Block-F PlainStatement PlainBlock → PlainBlock
block_layer b = record { place = b.place; list = statements_of b.list.items }

abbrev pub statement_layer : Statement-F PlainStatement PlainBlock → PlainStatement
statement_layer (Layer.Message l p f t) = message l p f t
statement_layer (Layer.Foreach at v r items) = foreach at v r items.place items.list
statement_layer (Layer.Rec at n body) = loop at n body.place body.list
statement_layer (Layer.Continue at n) = again at n
statement_layer (Layer.Choice at k who bs) = choice at k who (branches_of bs.items)
statement_layer (Layer.Compute at k who) = compute at k who
statement_layer (Layer.Barrier at) = barrier at
statement_layer (Layer.Broadcast at l p f) = broadcast at l p f
statement_layer (Layer.Reduce at l p o t) = reduce at l p o t
statement_layer (Layer.Allreduce at l p o) = allreduce at l p o

abbrev pub plain_block : Block → PlainBlock
plain_block = fold-Block PlainStatement PlainBlock statement_layer block_layer

abbrev pub plain_statement : Statement → PlainStatement
plain_statement = fold-Statement PlainStatement PlainBlock statement_layer block_layer

abbrev pub plain_file : FileTree → PlainFile
plain_file f = record { constant = f.constant; low = f.low; low_place = f.low_place; high = f.high; high_place = f.high_place; protocol = f.protocol; roles = f.roles.items; body = plain_block f.body }
