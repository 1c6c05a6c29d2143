-- What goes with the labels and kernels of a file's statements in its core.
use Rattle.std.proofs.Common.{◌≡◌, ℕ, suc, ◌+◌, ◌<◌, Bool, true, false, nat_lt, List, [], ◌∷◌, length, refl, sym, ap, subst, ◌∙◌, arith}
use Rattle.std.proofs.lemmas.Bool.Decides.{nat_tests}
use Rattle.std.proofs.lemmas.Bool.{and_parts}
use Rattle.pb_syntax.specs.declared.core_label.KernelKind.{KernelKind}
use Rattle.pb_syntax.specs.declared.core_label.KernelKind.TheVariants as K
use Rattle.pb_syntax.specs.declared.tree.Op.{Op}
use Rattle.pb_syntax.specs.declared.tree.Op.TheVariants.{Min, Max, Sum}
use Rattle.pb_syntax.specs.declared.tree.Payload.{Payload}
use Rattle.pb_syntax.specs.declared.tree.Payload.TheVariants.{Unit as NoWords, Int32, Uint32}
use Rattle.pb_syntax.specs.Tree.{PlainStatement, message, foreach, loop, again, choice, compute, barrier, broadcast, reduce, allreduce, PlainStatements, nothing, more, PlainBranches, no_branch, branch}
use Rattle.pb_core_language.specs.Names.{Name, Kind, same_kind, a_compute_kernel, a_choice_kernel, Scope, with_loop, with_variable, Visit, range_visits, end_visits, stmt_visits, block_visits, branches_visits}
use Rattle.pb_core_language.specs.FileRules.{has_words, goes_with, labels_at, labels_in, labels_among, has_other_kind}
use Rattle.pb_core_language.specs.Meaning.{Table, Open, position_of, label_names, kernel_names, lin_of, end_of, stmts_at, blocks_at, stmts_in, blocks_in, stmt_of, block_of, branches_of}
use Rattle.pb_core_language.specs.Plain.{Protocol}
use Rattle.pb_core_language.specs.Sound.{is_bound, Rows, is_end, has_branch, is_stmt, is_block, are_branches}
use Rattle.pb_local.specs.WellMade.{HasWords, GoesWith}
use Rattle.pb_shape.specs.Tabled.{label_at, kernel_at, count, Goes, GoAll, GoAmong}
use Rattle.pb_compile_laws.proofs.Measures.{branch_count, IsWell, AreWell, AreWellAmong}
use Rattle.pb_compile_laws.proofs.Small.{of_message}
use Rattle.pb_compile_laws.proofs.Payloads.{row_payload, at_position, AreRight, right_both}
use Rattle.pb_compile_laws.proofs.OneKind.{AreOfOneKind, one_both, kernel_kind, other_kernel, kind_at}

wordy : (q : Payload) → has_words q ≡ true → HasWords q
wordy NoWords h = absurd (grind arith)
wordy (Int32 n) h = tt
wordy (Uint32 n) h = tt

goes : (o : Op) (q : Payload) → goes_with o q ≡ true → GoesWith o q
goes Min q h = wordy q h
goes Max q h = wordy q h
goes Sum NoWords h = absurd (grind arith)
goes Sum (Int32 n) h = absurd (grind arith)
goes Sum (Uint32 n) h = tt

computes : (k : KernelKind) → same_kind a_compute_kernel (kernel_kind k) ≡ true → k ≡ K.Compute
computes K.Compute h = refl
computes K.Choice h = absurd (grind arith)

chooses : (k : KernelKind) → same_kind a_choice_kernel (kernel_kind k) ≡ true → k ≡ K.Choice
chooses K.Choice h = refl
chooses K.Compute h = absurd (grind arith)

below : (a b : ℕ) → nat_lt a b ≡ true → a < b
below a b h = grind (arith, nat_tests)

-- all visits of the file, of which the rows of kernels are some
module _ (p : Protocol) (c : Name) (roles : List Name) (all : List Visit) (rows_of : (x : Name) (k : Kind) → has_other_kind x k all ≡ false → other_kernel x k p.kernels ≡ false) where
  abbrev table : Table
  table = record { constant = c; roles = roles; labels = label_names p.labels; kernels = kernel_names p.kernels }

  abbrev rows : Rows
  rows = record { roles = length p.roles; labels = length p.labels; kernels = length p.kernels }

  payload_is : (x : Name) (q : Payload) → ((d : Payload) → row_payload x d p.labels ≡ q) → (label_at p (position_of x (label_names p.labels))).payload ≡ q
  payload_is x q h = at_position x p.labels (record { name = []; payload = NoWords }) ∙ h NoWords

  kernel_is : (x : Name) (k : Kind) → nat_lt (position_of x (kernel_names p.kernels)) (length p.kernels) ≡ true → has_other_kind x k all ≡ false
      → same_kind k (kernel_kind (kernel_at p (position_of x (kernel_names p.kernels))).kind) ≡ true
  kernel_is x k few h = kind_at x k p.kernels (record { name = []; kind = K.Compute }) (below _ _ few) (rows_of x k h)

  counted : (os : List Open) (s b : ℕ) (bs : PlainBranches) → count (branches_of table os s b bs) ≡ branch_count bs
  counted os s b no_branch = refl
  counted os s b (branch at x rest) = ap (λ n. 1 + n) (counted os (s + stmts_in x) (suc (b + blocks_in x)) rest)

  mutual
    go_at : (varies : Bool) (opens : List ℕ) (scope : Scope) (os : List Open) (s b : ℕ) (x : PlainStatement) → IsWell x → AreRight p.labels (labels_at x) → AreOfOneKind all (stmt_visits c scope x)
        → is_stmt rows varies opens (stmt_of table os s b x) ≡ true → Goes p (stmt_of table os s b x)
    go_at varies opens scope os s b (message l q f to) well right kinds sound = of_message (λ y. Goes p y) table s b l f to (λ over. (tt, tt)) tt
    go_at varies opens scope os s b (foreach at x over place items) well right kinds sound =
        go_in true opens (with_variable x.name scope) os (suc s) (suc b) items well right (one_both all (range_visits c scope over) (block_visits c (with_variable x.name scope) items) kinds.1).1
        (and_parts (is_bound (lin_of c over.high)) _ (and_parts (is_bound (lin_of c over.low)) _ sound).1).1
    go_at varies opens scope os s b (loop at x place body) well right kinds sound =
        go_in false (s ∷ opens) (with_loop x.name scope) (record { name = x.name; id = s } ∷ os) (suc s) (suc b) body well right kinds.1 (and_parts (nat_lt (length opens) 64) _ sound).1
    go_at varies opens scope os s b (again at x) well right kinds sound = tt
    go_at varies opens scope os s b (choice at k who bs) well right kinds sound =
        let g = and_parts (nat_lt (position_of k.name (kernel_names p.kernels)) (length p.kernels)) _ sound in
        let h = and_parts (is_end rows false (end_of table who)) _ g.1 in
        let n = counted os (suc s) b bs in (
          chooses _ (kernel_is k.name a_choice_kernel g.0 kinds.0),
          omega (arith, n, well.1.0),
          omega (arith, n, well.1.1.0),
          go_among opens scope os (suc s) b bs well.1.1.1 right (one_both all (end_visits c scope scope who) (branches_visits c scope bs) kinds.1).1 (and_parts (has_branch (branches_of table os (suc s) b bs)) _ h.1).1,
        )
    go_at varies opens scope os s b (compute at k who) well right kinds sound =
        computes _ (kernel_is k.name a_compute_kernel (and_parts (nat_lt (position_of k.name (kernel_names p.kernels)) (length p.kernels)) _ sound).0 kinds.0)
    go_at varies opens scope os s b (barrier at) well right kinds sound = tt
    go_at varies opens scope os s b (broadcast at l q f) well right kinds sound = subst HasWords (sym (payload_is l.name q right.0.1)) (wordy q right.0.0)
    go_at varies opens scope os s b (reduce at l q o to) well right kinds sound = subst (GoesWith o) (sym (payload_is l.name q right.0.1)) (goes o q right.0.0)
    go_at varies opens scope os s b (allreduce at l q o) well right kinds sound = subst (GoesWith o) (sym (payload_is l.name q right.0.1)) (goes o q right.0.0)

    pub go_in : (varies : Bool) (opens : List ℕ) (scope : Scope) (os : List Open) (s b : ℕ) (xs : PlainStatements) → AreWell xs → AreRight p.labels (labels_in xs) → AreOfOneKind all (block_visits c scope xs)
        → is_block rows varies opens (block_of table os s b xs) ≡ true → GoAll p (block_of table os s b xs)
    go_in varies opens scope os s b nothing well right kinds sound = tt
    go_in varies opens scope os s b (more x rest) well right kinds sound =
        let r = right_both p.labels (labels_at x) (labels_in rest) right in
        let k = one_both all (stmt_visits c scope x) (block_visits c scope rest) kinds in
        let g = and_parts (is_stmt rows varies opens (stmt_of table os s b x)) _ (and_parts _ _ sound).1 in
        (go_at varies opens scope os s b x well.0 r.0 k.0 g.0, go_in varies opens scope os (s + stmts_at x) (b + blocks_at x) rest well.1 r.1 k.1 g.1)

    go_among : (opens : List ℕ) (scope : Scope) (os : List Open) (s b : ℕ) (bs : PlainBranches) → AreWellAmong bs → AreRight p.labels (labels_among bs) → AreOfOneKind all (branches_visits c scope bs)
        → are_branches rows opens (branches_of table os s b bs) ≡ true → GoAmong p (branches_of table os s b bs)
    go_among opens scope os s b no_branch well right kinds sound = tt
    go_among opens scope os s b (branch at x rest) well right kinds sound =
        let r = right_both p.labels (labels_in x) (labels_among rest) right in
        let k = one_both all (block_visits c scope x) (branches_visits c scope rest) kinds in
        let g = and_parts (is_block rows false opens (block_of table os s (suc b) x)) _ sound in
        (go_in false opens scope os s (suc b) x well.0 r.0 k.0 g.0, go_among opens scope os (s + stmts_in x) (suc (b + blocks_in x)) rest well.1 r.1 k.1 g.1)
