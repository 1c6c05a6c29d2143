-- How large the text of a file's core may be.
use Rattle.std.proofs.Common.{ℕ, suc, ◌+◌, ◌*◌, ◌≤◌, List, [], ◌∷◌, arith}
use Rattle.pb_text.specs.declared.place.Spot.{Spot}
use Rattle.pb_syntax.specs.declared.tree.IndexText.{IndexText}
use Rattle.pb_syntax.specs.declared.tree.IndexText.TheVariants.{Zero, At, Bind}
use Rattle.pb_syntax.specs.declared.tree.End.{End}
use Rattle.pb_syntax.specs.Tree.{PlainStatement, message, foreach, loop, again, choice, compute, barrier, broadcast, reduce, allreduce, PlainStatements, nothing, more, PlainBranches, no_branch, branch}
use Rattle.pb_core_language.specs.Tree.{StmtTree}
use Rattle.pb_core_language.specs.Meaning.{Table, Open, with_sender, message_of, bound_message, stmts_at, blocks_at, stmts_in, blocks_in, stmt_of, block_of, branches_of, table_of}
use Rattle.pb_shape.specs.Sizes.{room, room_all, room_among, room_each, depth, depth_all, depth_among}
use Rattle.pb_compile_laws.specs.Laws.{FileIsSmall}
use Rattle.pb_compile_laws.proofs.Measures.{texts_at, texts_in, texts_among, tall_at, tall_in, tall_among}
use Rattle.pb_parse.specs.Limits.{at_start}
use Rattle.pb_compile_laws.proofs.Header.{file_well}
use Rattle.pb_compile_laws.proofs.Words.{fine}

-- what holds of the foreach of one message, and of a message as it stands, holds of each message
by_index : (P : StmtTree → Type 0) (t : Table) (s b : ℕ) (l : Spot) (f to : End) (x : IndexText) (other : StmtTree) → ((over : _) → P (bound_message t s b l f to over)) → P other → P (with_sender t s b l f to x other)
by_index P t s b l f to Zero other h k = k
by_index P t s b l f to (At y) other h k = k
by_index P t s b l f to (Bind y over) other h k = h over

pub of_message : (P : StmtTree → Type 0) (t : Table) (s b : ℕ) (l : Spot) (f to : End) → ((over : _) → P (bound_message t s b l f to over)) → P (message_of t l f to) → P (with_sender t s b l f to f.index (with_sender t s b l f to to.index (message_of t l f to)))
of_message P t s b l f to h k = by_index P t s b l f to f.index _ h (by_index P t s b l f to to.index (message_of t l f to) h k)

module _ (t : Table) where
  -- an item of a foreach is a statement
  some_text : (x : PlainStatement) → 1 ≤ texts_at x
  some_text (message l p f to) = omega arith
  some_text (foreach at x over place items) = omega arith
  some_text (loop at x place body) = omega arith
  some_text (again at x) = omega arith
  some_text (choice at k who bs) = omega arith
  some_text (compute at k who) = omega arith
  some_text (barrier at) = omega arith
  some_text (broadcast at l p f) = omega arith
  some_text (reduce at l p o to) = omega arith
  some_text (allreduce at l p o) = omega arith

  room_items : (os : List Open) (s b : ℕ) (xs : PlainStatements) → room_each (block_of t os s b xs) ≤ 12 * texts_in xs
  room_items os s b nothing = omega arith
  room_items os s b (more x rest) = omega (arith, some_text x, room_items os (s + stmts_at x) (b + blocks_at x) rest)

  mutual
    room_at : (os : List Open) (s b : ℕ) (x : PlainStatement) → room (stmt_of t os s b x) ≤ 12 * texts_at x
    room_at os s b (message l p f to) = of_message (λ y. room y ≤ 12) t s b l f to (λ over. omega arith) (omega arith)
    room_at os s b (foreach at x over place items) = omega (arith, room_items os (suc s) (suc b) items)
    room_at os s b (loop at x place body) = omega (arith, room_in (record { name = x.name; id = s } ∷ os) (suc s) (suc b) body)
    room_at os s b (choice at k who bs) = omega (arith, room_in_branches os (suc s) b bs)
    room_at os s b (again at x) = omega arith
    room_at os s b (compute at k who) = omega arith
    room_at os s b (barrier at) = omega arith
    room_at os s b (broadcast at l p f) = omega arith
    room_at os s b (reduce at l p o to) = omega arith
    room_at os s b (allreduce at l p o) = omega arith

    room_in : (os : List Open) (s b : ℕ) (xs : PlainStatements) → room_all (block_of t os s b xs) ≤ 12 * texts_in xs
    room_in os s b nothing = omega arith
    room_in os s b (more x rest) = omega (arith, room_at os s b x, room_in os (s + stmts_at x) (b + blocks_at x) rest)

    room_in_branches : (os : List Open) (s b : ℕ) (bs : PlainBranches) → room_among (branches_of t os s b bs) ≤ 12 * texts_among bs
    room_in_branches os s b no_branch = omega arith
    room_in_branches os s b (branch at x rest) = omega (arith, room_in os s (suc b) x, room_in_branches os (s + stmts_in x) (suc (b + blocks_in x)) rest)

  -- a message that binds is a foreach, whose brace isn't in the file
  mutual
    depth_at : (os : List Open) (s b : ℕ) (x : PlainStatement) → depth (stmt_of t os s b x) ≤ 1 + tall_at x
    depth_at os s b (message l p f to) = of_message (λ y. depth y ≤ 1) t s b l f to (λ over. omega arith) (omega arith)
    depth_at os s b (foreach at x over place items) = omega arith
    depth_at os s b (loop at x place body) = omega (arith, depth_in (record { name = x.name; id = s } ∷ os) (suc s) (suc b) body)
    depth_at os s b (choice at k who bs) = omega (arith, depth_in_branches os (suc s) b bs)
    depth_at os s b (again at x) = omega arith
    depth_at os s b (compute at k who) = omega arith
    depth_at os s b (barrier at) = omega arith
    depth_at os s b (broadcast at l p f) = omega arith
    depth_at os s b (reduce at l p o to) = omega arith
    depth_at os s b (allreduce at l p o) = omega arith

    depth_in : (os : List Open) (s b : ℕ) (xs : PlainStatements) → depth_all (block_of t os s b xs) ≤ 1 + tall_in xs
    depth_in os s b nothing = omega arith
    depth_in os s b (more x rest) = omega (arith, depth_at os s b x, depth_in os (s + stmts_at x) (b + blocks_at x) rest)

    depth_in_branches : (os : List Open) (s b : ℕ) (bs : PlainBranches) → depth_among (branches_of t os s b bs) ≤ 1 + tall_among bs
    depth_in_branches os s b no_branch = omega arith
    depth_in_branches os s b (branch at x rest) = omega (arith, depth_in os s (suc b) x, depth_in_branches os (s + stmts_in x) (suc (b + blocks_in x)) rest)

pub file_is_small : FileIsSmall
file_is_small bytes f text =
    let w = file_well text.0 f text.2.0 (fine at_start text.1.1 text.2.1) in
    (omega (arith, room_in (table_of f) [] 0 1 f.body.list, w.1), omega (arith, depth_in (table_of f) [] 0 1 f.body.list, w.0.tall))
