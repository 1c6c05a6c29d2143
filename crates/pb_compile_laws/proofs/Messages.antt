-- How many messages are written in a file's core.
use Rattle.std.proofs.Common.{ℕ, suc, ◌+◌, ◌≤◌, List, [], ◌∷◌, arith}
use Rattle.pb_syntax.specs.Tree.{PlainStatement, message, foreach, loop, again, choice, compute, barrier, broadcast, reduce, allreduce, PlainStatements, nothing, more, PlainBranches, no_branch, branch}
use Rattle.pb_core_language.specs.Meaning.{Table, Open, stmts_at, blocks_at, stmts_in, blocks_in, stmt_of, block_of, branches_of, table_of}
use Rattle.pb_parse.specs.Limits.{at_start}
use Rattle.pb_compile_laws.specs.Laws.{FileHasFewMessages}
use Rattle.pb_compile_laws.specs.Messages.{messages_at, messages_in, messages_among}
use Rattle.pb_compile_laws.proofs.Header.{file_well}
use Rattle.pb_compile_laws.proofs.Measures.{texts_at, texts_in, texts_among}
use Rattle.pb_compile_laws.proofs.Small.{of_message}
use Rattle.pb_compile_laws.proofs.Words.{fine}

module _ (t : Table) where
  mutual
    few_at : (os : List Open) (s b : ℕ) (x : PlainStatement) → messages_at (stmt_of t os s b x) ≤ texts_at x
    few_at os s b (message l p f to) = of_message (λ y. messages_at y ≤ 1) t s b l f to (λ over. omega arith) (omega arith)
    few_at os s b (foreach at x over place items) = omega (arith, few_in os (suc s) (suc b) items)
    few_at os s b (loop at x place body) = omega (arith, few_in (record { name = x.name; id = s } ∷ os) (suc s) (suc b) body)
    few_at os s b (choice at k who bs) = omega (arith, few_among os (suc s) b bs)
    few_at os s b (again at x) = omega arith
    few_at os s b (compute at k who) = omega arith
    few_at os s b (barrier at) = omega arith
    few_at os s b (broadcast at l p f) = omega arith
    few_at os s b (reduce at l p o to) = omega arith
    few_at os s b (allreduce at l p o) = omega arith

    few_in : (os : List Open) (s b : ℕ) (xs : PlainStatements) → messages_in (block_of t os s b xs) ≤ texts_in xs
    few_in os s b nothing = omega arith
    few_in os s b (more x rest) = omega (arith, few_at os s b x, few_in os (s + stmts_at x) (b + blocks_at x) rest)

    few_among : (os : List Open) (s b : ℕ) (bs : PlainBranches) → messages_among (branches_of t os s b bs) ≤ texts_among bs
    few_among os s b no_branch = omega arith
    few_among os s b (branch at x rest) = omega (arith, few_in os s (suc b) x, few_among os (s + stmts_in x) (suc (b + blocks_in x)) rest)

pub file_has_few_messages : FileHasFewMessages
file_has_few_messages bytes f text =
    let w = file_well text.0 f text.2.0 (fine at_start text.1.1 text.2.1) in
    omega (arith, few_in (table_of f) [] 0 1 f.body.list, w.1)
