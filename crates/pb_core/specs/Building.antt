-- What a core is built of: the tables and the loops around as the program holds them, and the trees of statements and blocks.
use Rattle.std.specs.Prelude.{ℕ, suc, if◌then◌else◌, List, [], ◌∷◌}
use Rattle.pb_text.specs.declared.place.Spot.{Spot}
use Rattle.pb_syntax.specs.declared.tree.End.{End}
use Rattle.pb_syntax.specs.Tree.{PlainStatement, PlainBlock}
use Rattle.pb_core.specs.declared.tables.Tables.{Tables}
use Rattle.pb_core.specs.declared.loops.Loops.{Loops, Loops-F, fold-Loops}
use Rattle.pb_core.specs.declared.loops.Loops.TheOpen as L
use Rattle.pb_core_language.specs.FileRules.{role_names, place_of}
use Rattle.pb_core_language.specs.Meaning.{Table, Open, mark, stmt_of, block_of, with_sender, message_of, binds}
use Rattle.pb_core_language.specs.Plain.{MarkedStmt, MarkedBlock}
use Rattle.pb_core_language.specs.Tree.{StmtTree, BlockTree, more, BranchTrees, branch}

abbrev pub table_of : Tables → Table
table_of t = record { constant = t.constant.now; roles = role_names t.roles.now; labels = t.labels.now.names; kernels = t.kernels.now.names }

abbrev pub open_layer : Loops-F (List Open) → List Open
open_layer L.Nothing = []
open_layer (L.Inside x id rest) = record { name = x; id = id } ∷ rest.now

abbrev pub open_of : Loops → List Open
open_of = fold-Loops (List Open) open_layer

-- the statement with number s, whose blocks have numbers from b on
abbrev pub stmt_with : Table → List Open → ℕ → ℕ → PlainStatement → MarkedStmt
stmt_with t opens s b x = record { mark = mark s (place_of x); stmt = stmt_of t opens s b x }

-- the block with number b, whose statements have numbers from s on
abbrev pub block_with : Table → List Open → ℕ → ℕ → PlainBlock → MarkedBlock
block_with t opens s b x = record { mark = mark b x.place; block = block_of t opens s (suc b) x.list }

-- statements, and those of a block behind them
abbrev pub before_block : List MarkedStmt → BlockTree → BlockTree
before_block [] rest = rest
before_block (s ∷ ss) rest = more s.mark s.stmt (before_block ss rest)

abbrev pub before_branches : List MarkedBlock → BranchTrees → BranchTrees
before_branches [] rest = rest
before_branches (b ∷ bs) rest = branch b.mark b.block (before_branches bs rest)

-- a message, or the foreach over it where an end binds a variable: its tree, and how many statements and blocks it is
abbrev pub message_tree : Table → ℕ → ℕ → Spot → End → End → StmtTree
message_tree t s b l f to = with_sender t s b l f to f.index (with_sender t s b l f to to.index (message_of t l f to))

abbrev pub message_stmts : End → End → ℕ
message_stmts f to = if binds f.index then 2 else (if binds to.index then 2 else 1)

abbrev pub message_blocks : End → End → ℕ
message_blocks f to = if binds f.index then 1 else (if binds to.index then 1 else 0)
