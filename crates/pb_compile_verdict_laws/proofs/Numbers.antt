-- The numbers of what a file means rise: statements, ends and branches are numbered in the order of the file.
use Rattle.std.proofs.Common.{◌≡◌, ℕ, suc, ◌+◌, ◌*◌, ◌≤◌, if◌then◌else◌, List, ◌∷◌, subst, arith}
use Rattle.pb_text.specs.declared.place.Place.{Place}
use Rattle.pb_text.specs.declared.place.Spot.{Spot}
use Rattle.pb_syntax.specs.declared.tree.End.{End}
use Rattle.pb_syntax.specs.declared.tree.IndexText.{IndexText}
use Rattle.pb_syntax.specs.declared.tree.IndexText.TheVariants.{Zero, At, Bind}
use Rattle.pb_syntax.specs.declared.tree.RangeText.{RangeText}
use Rattle.pb_syntax.specs.Tree as F
use Rattle.pb_syntax.specs.Tree.{PlainStatement, compute, PlainStatements, PlainBranches}
use Rattle.pb_core_language.specs.declared.tree.CoreEnd.{CoreEnd}
use Rattle.pb_core_language.specs.FileRules.{place_of}
use Rattle.pb_core_language.specs.Meaning.{Table, Open, binds, stmts_at, stmts_in, stmts_among, blocks_at, blocks_in, blocks_among, mark, message_of, end_of, with_sender, bound_message, stmt_of, block_of, branches_of}
use Rattle.pb_compile_verdict_laws.proofs.Rising.{Rises, rises_append}
use Rattle.pb_compile_verdict_laws.proofs.Marks.{Found, none, both, bare, with_one, with_two, of_branch, of_stmt, of_block, of_branches}

-- the numbers of statements rise from s up to t, those of their ends with them, and those of blocks from b up to c
abbrev pub RisesIn : ℕ → ℕ → ℕ → ℕ → Found → Type 0
RisesIn s b t c x = Rises s t x.owns × Rises (2 * s) (2 * t) x.ends × Rises b c x.branches

rise_none : (s b t c : ℕ) → s ≤ t → b ≤ c → RisesIn s b t c none
rise_none s b t c h k = (h, omega (arith, h), k)

rise_both : (s b t c u d : ℕ) (x y : Found) → RisesIn s b t c x → RisesIn t c u d y → RisesIn s b u d (both x y)
rise_both s b t c u d x y h k =
    (rises_append s t u x.owns y.owns h.0 k.0, rises_append (2 * s) (2 * t) (2 * u) x.ends y.ends h.1 k.1, rises_append b c d x.branches y.branches h.2 k.2)

rise_bare : (s b c : ℕ) (at : Place) → b ≤ c → RisesIn s b (suc s) c (bare (mark s at))
rise_bare s b c at h = ((omega arith, omega arith), omega arith, h)

rise_one : (s b : ℕ) (at : Place) (end : CoreEnd) → RisesIn s b (suc s) b (with_one (mark s at) end)
rise_one s b at end = ((omega arith, omega arith), (omega arith, omega arith), omega arith)

rise_two : (s b : ℕ) (at : Place) (from to : CoreEnd) → RisesIn s b (suc s) b (with_two (mark s at) from to)
rise_two s b at from to = ((omega arith, omega arith), (omega arith, (omega arith, omega arith)), omega arith)

rise_branch : (s b : ℕ) (at : Place) → RisesIn s b s (suc b) (of_branch (mark b at))
rise_branch s b at = (omega arith, omega arith, (omega arith, omega arith))

-- ends that come to the same number
rise_to : (s b t c u d : ℕ) (x : Found) → t ≡ u → c ≡ d → RisesIn s b t c x → RisesIn s b u d x
rise_to s b t c u d x e f h = subst (λ v. RisesIn s b v d x) e (subst (λ w. RisesIn s b t w x) f h)

-- a message that binds is a foreach, its block and a message in it
rise_bound : (t : Table) (s b : ℕ) (at : Place) (l : Spot) (from to : End) (over : RangeText) → RisesIn s b (s + 2) (b + 1) (of_stmt (mark s at) (bound_message t s b l from to over))
rise_bound t s b at l from to over =
    rise_both s b (suc s) (b + 1) (s + 2) (b + 1) (bare (mark s at)) (both (with_two (mark (suc s) l.place) (end_of t from) (end_of t to)) none) (rise_bare s b (b + 1) at (omega arith))
    (rise_both (suc s) (b + 1) (suc (suc s)) (b + 1) (s + 2) (b + 1) (with_two (mark (suc s) l.place) (end_of t from) (end_of t to)) none
    (rise_two (suc s) (b + 1) l.place (end_of t from) (end_of t to)) (rise_none (suc (suc s)) (b + 1) (s + 2) (b + 1) (omega arith) (omega arith)))

rise_message : (t : Table) (s b : ℕ) (at : Place) (l : Spot) (from to : End) (i j : IndexText)
    → RisesIn s b (s + (if binds i then 2 else (if binds j then 2 else 1))) (b + (if binds i then 1 else (if binds j then 1 else 0)))
    (of_stmt (mark s at) (with_sender t s b l from to i (with_sender t s b l from to j (message_of t l from to))))
rise_message t s b at l from to (Bind x over) j = rise_bound t s b at l from to over
rise_message t s b at l from to Zero (Bind x over) = rise_bound t s b at l from to over
rise_message t s b at l from to (At n) (Bind x over) = rise_bound t s b at l from to over
rise_message t s b at l from to Zero Zero = rise_to s b (suc s) b (s + 1) (b + 0) (with_two (mark s at) (end_of t from) (end_of t to)) (omega arith) (omega arith) (rise_two s b at (end_of t from) (end_of t to))
rise_message t s b at l from to Zero (At m) = rise_to s b (suc s) b (s + 1) (b + 0) (with_two (mark s at) (end_of t from) (end_of t to)) (omega arith) (omega arith) (rise_two s b at (end_of t from) (end_of t to))
rise_message t s b at l from to (At n) Zero = rise_to s b (suc s) b (s + 1) (b + 0) (with_two (mark s at) (end_of t from) (end_of t to)) (omega arith) (omega arith) (rise_two s b at (end_of t from) (end_of t to))
rise_message t s b at l from to (At n) (At m) = rise_to s b (suc s) b (s + 1) (b + 0) (with_two (mark s at) (end_of t from) (end_of t to)) (omega arith) (omega arith) (rise_two s b at (end_of t from) (end_of t to))

mutual
  rise_stmt : (t : Table) (open_loops : List Open) (s b : ℕ) (at : Place) (x : PlainStatement) → RisesIn s b (s + stmts_at x) (b + blocks_at x) (of_stmt (mark s at) (stmt_of t open_loops s b x))
  rise_stmt t open_loops s b at (F.message l p f to) = rise_message t s b at l f to f.index to.index
  rise_stmt t open_loops s b at (F.foreach w x over place items) =
      rise_both s b (suc s) (suc b) (s + (1 + stmts_in items)) (b + (1 + blocks_in items)) (bare (mark s at)) (of_block (block_of t open_loops (suc s) (suc b) items)) (rise_bare s b (suc b) at (omega arith))
      (rise_to (suc s) (suc b) (suc s + stmts_in items) (suc b + blocks_in items) (s + (1 + stmts_in items)) (b + (1 + blocks_in items)) (of_block (block_of t open_loops (suc s) (suc b) items)) (omega arith) (omega arith) (rise_block t open_loops (suc s) (suc b) items))
  rise_stmt t open_loops s b at (F.loop w x place body) =
      rise_both s b (suc s) (suc b) (s + (1 + stmts_in body)) (b + (1 + blocks_in body)) (bare (mark s at)) (of_block (block_of t (record { name = x.name; id = s } ∷ open_loops) (suc s) (suc b) body)) (rise_bare s b (suc b) at (omega arith))
      (rise_to (suc s) (suc b) (suc s + stmts_in body) (suc b + blocks_in body) (s + (1 + stmts_in body)) (b + (1 + blocks_in body)) (of_block (block_of t (record { name = x.name; id = s } ∷ open_loops) (suc s) (suc b) body)) (omega arith) (omega arith) (rise_block t (record { name = x.name; id = s } ∷ open_loops) (suc s) (suc b) body))
  rise_stmt t open_loops s b at (F.again w x) = rise_to s b (suc s) b (s + 1) (b + 0) (bare (mark s at)) (omega arith) (omega arith) (rise_bare s b b at (omega arith))
  rise_stmt t open_loops s b at (F.choice w k who bs) =
      rise_both s b (suc s) b (s + (1 + stmts_among bs)) (b + blocks_among bs) (with_one (mark s at) (end_of t who)) (of_branches (branches_of t open_loops (suc s) b bs)) (rise_one s b at (end_of t who))
      (rise_to (suc s) b (suc s + stmts_among bs) (b + blocks_among bs) (s + (1 + stmts_among bs)) (b + blocks_among bs) (of_branches (branches_of t open_loops (suc s) b bs)) (omega arith) (omega arith) (rise_branches t open_loops (suc s) b bs))
  rise_stmt t open_loops s b at (compute w k who) = rise_to s b (suc s) b (s + 1) (b + 0) (with_one (mark s at) (end_of t who)) (omega arith) (omega arith) (rise_one s b at (end_of t who))
  rise_stmt t open_loops s b at (F.barrier w) = rise_to s b (suc s) b (s + 1) (b + 0) (bare (mark s at)) (omega arith) (omega arith) (rise_bare s b b at (omega arith))
  rise_stmt t open_loops s b at (F.broadcast w l p f) = rise_to s b (suc s) b (s + 1) (b + 0) (with_one (mark s at) (end_of t f)) (omega arith) (omega arith) (rise_one s b at (end_of t f))
  rise_stmt t open_loops s b at (F.reduce w l p o to) = rise_to s b (suc s) b (s + 1) (b + 0) (with_one (mark s at) (end_of t to)) (omega arith) (omega arith) (rise_one s b at (end_of t to))
  rise_stmt t open_loops s b at (F.allreduce w l p o) = rise_to s b (suc s) b (s + 1) (b + 0) (bare (mark s at)) (omega arith) (omega arith) (rise_bare s b b at (omega arith))

  pub rise_block : (t : Table) (open_loops : List Open) (s b : ℕ) (x : PlainStatements) → RisesIn s b (s + stmts_in x) (b + blocks_in x) (of_block (block_of t open_loops s b x))
  rise_block t open_loops s b F.nothing = rise_none s b (s + 0) (b + 0) (omega arith) (omega arith)
  rise_block t open_loops s b (F.more x rest) =
      rise_both s b (s + stmts_at x) (b + blocks_at x) (s + (stmts_at x + stmts_in rest)) (b + (blocks_at x + blocks_in rest)) (of_stmt (mark s (place_of x)) (stmt_of t open_loops s b x)) (of_block (block_of t open_loops (s + stmts_at x) (b + blocks_at x) rest)) (rise_stmt t open_loops s b (place_of x) x)
      (rise_to (s + stmts_at x) (b + blocks_at x) (s + stmts_at x + stmts_in rest) (b + blocks_at x + blocks_in rest) (s + (stmts_at x + stmts_in rest)) (b + (blocks_at x + blocks_in rest)) (of_block (block_of t open_loops (s + stmts_at x) (b + blocks_at x) rest)) (omega arith) (omega arith) (rise_block t open_loops (s + stmts_at x) (b + blocks_at x) rest))

  rise_branches : (t : Table) (open_loops : List Open) (s b : ℕ) (x : PlainBranches) → RisesIn s b (s + stmts_among x) (b + blocks_among x) (of_branches (branches_of t open_loops s b x))
  rise_branches t open_loops s b F.no_branch = rise_none s b (s + 0) (b + 0) (omega arith) (omega arith)
  rise_branches t open_loops s b (F.branch at x rest) =
      rise_both s b s (suc b) (s + (stmts_in x + stmts_among rest)) (b + ((1 + blocks_in x) + blocks_among rest)) (of_branch (mark b at)) (both (of_block (block_of t open_loops s (suc b) x)) (of_branches (branches_of t open_loops (s + stmts_in x) (suc (b + blocks_in x)) rest))) (rise_branch s b at)
      (rise_both s (suc b) (s + stmts_in x) (suc (b + blocks_in x)) (s + (stmts_in x + stmts_among rest)) (b + ((1 + blocks_in x) + blocks_among rest)) (of_block (block_of t open_loops s (suc b) x)) (of_branches (branches_of t open_loops (s + stmts_in x) (suc (b + blocks_in x)) rest))
      (rise_to s (suc b) (s + stmts_in x) (suc b + blocks_in x) (s + stmts_in x) (suc (b + blocks_in x)) (of_block (block_of t open_loops s (suc b) x)) (omega arith) (omega arith) (rise_block t open_loops s (suc b) x))
      (rise_to (s + stmts_in x) (suc (b + blocks_in x)) (s + stmts_in x + stmts_among rest) (suc (b + blocks_in x) + blocks_among rest) (s + (stmts_in x + stmts_among rest)) (b + ((1 + blocks_in x) + blocks_among rest)) (of_branches (branches_of t open_loops (s + stmts_in x) (suc (b + blocks_in x)) rest)) (omega arith) (omega arith) (rise_branches t open_loops (s + stmts_in x) (suc (b + blocks_in x)) rest)))
