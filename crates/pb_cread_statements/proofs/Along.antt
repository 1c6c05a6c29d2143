-- Reading goes along the lines of any statements, as long as they keep their rules.
use Rattle.std.proofs.Common.{◌≡◌, ℕ, suc, ◌+◌, Bool, true, false, cond, List, [], ◌∷◌, ◌++◌, length, Some, None, refl, sym, ap, subst, ◌∙◌, append_assoc, append-nil, arith}
use Rattle.std.specs.Prelude.{nat_eq, nat_lt, ◌&&◌, if◌then◌else◌}
use Rattle.std.proofs.Math.Bool.{and-true}
use Rattle.std.proofs.lemmas.Bool.{and_from}
use Rattle.pb_affine.specs.declared.guard.Guard.{Guard}
use Rattle.pb_local.specs.declared.stmt.Peer.{Peer}
use Rattle.pb_local.specs.Tree.{Code, when, for_each, own, loop, again, choice, send, recv, run, barrier, broadcast, reduce, allreduce, Codes, nothing, more, Parts, no_part, part, codes_of, parts_of, Program, size, size_all, size_parts}
use Rattle.pb_local.specs.WellMade.{Scope, loops_at, loops_in, loops_among}
use Rattle.pb_ctree.specs.Lines.{close, else_open, if_open, for_open, own_is, loop_open, goto, makes, root_makes, takes, root_takes, mpi_send, mpi_recv, mpi_barrier, mpi_bcast, mpi_reduce, mpi_allreduce, calls, chooses, pick_open, else_pick_open, Line, line}
use Rattle.pb_ctree.specs.Rules.{is_guard, is_peer, is_label, is_wordy}
use Rattle.pb_ctree.specs.Small.{outgoing, incoming}
use Rattle.pb_ctree.specs.Spelling.{told_lines, spelled, spelled_all, spelled_other, spelled_parts}
use Rattle.pb_cread_statements.specs.Marks.{marks, marks_all, marks_other, marks_parts}
use Rattle.pb_cread_statements.specs.Reading.{Told, told, chosen_of, in_first, in_other, in_for, in_loop_of, in_branch, in_last, Frame, frame, statement, made, rooted, cast, reduced, allreduced, received, chosen, answered, state, depth_of, around, is_same_peer}
use Rattle.pb_cread_statements.proofs.Small.{left, right, eq_self, longer, peer_self}
use Rattle.pb_cread_statements.proofs.Follow.{Follows, follow_on, shift, along, quiet, told_on, told_marks}

abbrev pub list_of : Codes → List Code
list_of nothing = []
list_of (more c rest) = c ∷ list_of rest

abbrev pub lists_of : Parts → List (List Code)
lists_of no_part = []
lists_of (part b rest) = list_of b ∷ lists_of rest

pub codes_again : (cs : Codes) → codes_of (list_of cs) ≡ cs
codes_again nothing = refl
codes_again (more c rest) = ap (more c) (codes_again rest)

pub parts_again : (bs : Parts) → parts_of (lists_of bs) ≡ bs
parts_again no_part = refl
parts_again (part b rest) = ap (λ x. part x (parts_of (lists_of rest))) (codes_again b) ∙ ap (part b) (parts_again rest)

abbrev pub at : List Frame → ℕ → Scope
at stack n = record { loops = n; around = around stack }

-- what follows from one state of statements to another
abbrev From : Program → List Code → List Frame → ℕ → ℕ → List Line → List Bool → List Code → ℕ → ℕ → Type 0
From p done stack n k ls ms now m j = Follows p (state statement done stack n k) ls ms (state statement now stack m j)

both : (p : Program) (c : Code) (rest : Codes) (done : List Code) (stack : List Frame) (n k : ℕ)
    → From p done stack n k (spelled p (depth_of stack) (at stack n) c) (marks p c) (done ++ c ∷ []) (n + loops_at c) (k + size c)
    → From p (done ++ c ∷ []) stack (n + loops_at c) (k + size c) (spelled_all p (depth_of stack) (at stack (n + loops_at c)) rest) (marks_all p rest) ((done ++ c ∷ []) ++ list_of rest) ((n + loops_at c) + loops_in rest) ((k + size c) + size_all rest)
    → From p done stack n k (spelled_all p (depth_of stack) (at stack n) (more c rest)) (marks_all p (more c rest)) (done ++ list_of (more c rest)) (n + loops_in (more c rest)) (k + size_all (more c rest))
both p c rest done stack n k first others =
    let ls = spelled_all p (depth_of stack) (at stack (n + loops_at c)) rest in
    follow_on p (spelled p (depth_of stack) (at stack n) c) ls (marks p c) (marks_all p rest) _ _ _ first
    (shift p ls (marks_all p rest) _ statement _ _ stack _ _ _ _ others (append_assoc done (c ∷ []) (list_of rest)) (omega arith) (omega arith))

one_more : (n k : ℕ) (P : ℕ → ℕ → Type 0) → P n (k + 1) → P (n + 0) (k + 1)
one_more n k P h = let e : n ≡ n + 0 = omega arith in subst (λ x. P x (k + 1)) e h

-- the last line of a statement without loops
last_line : (p : Program) (done : List Code) (c : Code) (stack : List Frame) (n k m : ℕ) → n ≡ m → state statement (done ++ c ∷ []) stack n (k + 1) ≡ state statement (done ++ c ∷ []) stack m (k + 1)
last_line p done c stack n k m e = ap (λ x. state statement (done ++ c ∷ []) stack x (k + 1)) e

sends : (p : Program) (label : ℕ) (to : Peer) (done : List Code) (stack : List Frame) (n k : ℕ) (w : Bool) → is_wordy p label ≡ w
    → From p done stack n k ((if w then line (depth_of stack) (makes label) (is_label p label) ∷ [] else []) ++ line (depth_of stack) (mpi_send label to) (is_label p label && is_peer p to) ∷ []) (true ∷ (if w then false ∷ [] else [])) (done ++ send label to ∷ []) (n + 0) (k + 1)
sends p label to done stack n k true wordy =
    let d = depth_of stack in
    let s0 = state statement done stack n k in
    let s1 = state (made label) done stack n (k + 1) in
    let s2 = state statement (done ++ send label to ∷ []) stack n (k + 1) in
    λ a. (
      s1,
      along p s0 s1 d (makes label) refl a (ap (λ b. cond b (Some s1) None) wordy),
      refl,
      λ b. (s2, along p s1 s2 d (mpi_send label to) refl b (ap (λ x. cond x (Some s2) None) (eq_self label)), refl, last_line p done (send label to) stack n k (n + 0) (omega arith)),
    )
sends p label to done stack n k false wordy =
    let s0 = state statement done stack n k in
    let s2 = state statement (done ++ send label to ∷ []) stack n (k + 1) in
    λ a. (s2, along p s0 s2 (depth_of stack) (mpi_send label to) refl a (ap (λ b. cond b None (Some s2)) wordy), refl, last_line p done (send label to) stack n k (n + 0) (omega arith))

receives : (p : Program) (label : ℕ) (from : Peer) (done : List Code) (stack : List Frame) (n k : ℕ) (w : Bool) → is_wordy p label ≡ w
    → From p done stack n k (line (depth_of stack) (mpi_recv label from) (is_label p label && is_peer p from) ∷ (if w then line (depth_of stack) (takes label incoming) true ∷ [] else [])) (true ∷ (if w then false ∷ [] else [])) (done ++ recv label from ∷ []) (n + 0) (k + 1)
receives p label from done stack n k true wordy =
    let d = depth_of stack in
    let s0 = state statement done stack n k in
    let s1 = state (received label from) done stack n (k + 1) in
    let s2 = state statement (done ++ recv label from ∷ []) stack n (k + 1) in
    λ a. (
      s1,
      along p s0 s1 d (mpi_recv label from) refl a (ap (λ b. cond b (Some s1) (Some s2)) wordy),
      refl,
      λ b. (s2, along p s1 s2 d (takes label incoming) refl refl (ap (λ x. cond x (Some s2) None) (eq_self label)), refl, last_line p done (recv label from) stack n k (n + 0) (omega arith)),
    )
receives p label from done stack n k false wordy =
    let s0 = state statement done stack n k in
    let s1 = state (received label from) done stack n (k + 1) in
    let s2 = state statement (done ++ recv label from ∷ []) stack n (k + 1) in
    λ a. (s2, along p s0 s2 (depth_of stack) (mpi_recv label from) refl a (ap (λ b. cond b (Some s1) (Some s2)) wordy), refl, last_line p done (recv label from) stack n k (n + 0) (omega arith))

pub is_root : (label : ℕ) (root : Peer) → (nat_eq label label && is_same_peer root root) ≡ true
is_root label root = and_from (nat_eq label label) (is_same_peer root root) (eq_self label) (peer_self root)

-- branches from number k on, behind parts and the branch that is read
abbrev Branches : Program → Told → List (List Code) → List Code → List Code → List Frame → ℕ → ℕ → ℕ → Parts → Type 0
Branches p t parts done outer stack n k number no_part = Unit {0}
Branches p t parts done outer stack n k number (part b rest) =
    Follows p (state statement done (frame (in_branch t parts) outer ∷ stack) n k) (spelled_parts p (depth_of stack) (at stack n) number t.tests (part b rest)) (marks_parts p (part b rest))
    (state statement (outer ++ chosen_of t (parts ++ done ∷ lists_of (part b rest)) ∷ []) stack (n + loops_among (part b rest)) (k + size_parts (part b rest)))

mutual
  pub stmt : (p : Program) (c : Code) (done : List Code) (stack : List Frame) (n k : ℕ) → From p done stack n k (spelled p (depth_of stack) (at stack n) c) (marks p c) (done ++ c ∷ []) (n + loops_at c) (k + size c)
  stmt p (when guards a b) done stack n k =
      let f = frame (in_first guards) done in
      let s1 = state statement [] (f ∷ stack) n (k + 1) in
      let s2 = state statement (list_of a) (f ∷ stack) (n + loops_in a) ((k + 1) + size_all a) in
      let ls = spelled_other p (depth_of stack) (at stack (n + loops_in a)) b in
      λ e. (
        s1,
        along p (state statement done stack n k) s1 (depth_of stack) (if_open guards) refl e refl,
        refl,
        follow_on p (spelled_all p (depth_of stack + 1) (at stack n) a) ls (marks_all p a) (marks_other p b) s1 s2 _
            (all p a [] (f ∷ stack) n (k + 1))
            (shift p ls (marks_other p b) s2 statement _ _ stack _ _ _ _ (other p b guards a done stack (n + loops_in a) ((k + 1) + size_all a)) refl (omega arith) (omega arith)),
      )
  stmt p (for_each low high body) done stack n k =
      let f = frame (in_for low high) done in
      let s1 = state statement [] (f ∷ stack) n (k + 1) in
      let s2 = state statement (list_of body) (f ∷ stack) (n + loops_in body) ((k + 1) + size_all body) in
      let s3 = state statement (done ++ for_each low high (codes_of (list_of body)) ∷ []) stack (n + loops_in body) ((k + 1) + size_all body) in
      λ e. (
        s1,
        along p (state statement done stack n k) s1 (depth_of stack) (for_open low high) refl e refl,
        refl,
        follow_on p (spelled_all p (depth_of stack + 1) (at stack n) body) (line (depth_of stack) close true ∷ []) (marks_all p body) (false ∷ []) s1 s2 _
            (all p body [] (f ∷ stack) n (k + 1))
            (λ g. (s3, along p s2 s3 (depth_of stack) close refl refl refl, refl, shift p [] [] s3 statement _ _ stack _ _ _ _ refl (ap (λ b. done ++ for_each low high b ∷ []) (codes_again body)) refl (omega arith))),
      )
  stmt p (loop id body) done stack n k =
      let f = frame (in_loop_of id) done in
      let s1 = state statement [] (f ∷ stack) (n + 1) (k + 1) in
      let s2 = state statement (list_of body) (f ∷ stack) ((n + 1) + loops_in body) ((k + 1) + size_all body) in
      let s3 = state statement (done ++ loop id (codes_of (list_of body)) ∷ []) stack ((n + 1) + loops_in body) ((k + 1) + size_all body) in
      λ e. (
        s1,
        along p (state statement done stack n k) s1 (depth_of stack) (loop_open id) refl e refl,
        refl,
        follow_on p (spelled_all p (depth_of stack + 1) (at (f ∷ stack) (n + 1)) body) (line (depth_of stack) close true ∷ []) (marks_all p body) (false ∷ []) s1 s2 _
            (all p body [] (f ∷ stack) (n + 1) (k + 1))
            (λ g. (s3, along p s2 s3 (depth_of stack) close refl refl refl, refl, shift p [] [] s3 statement _ _ stack _ _ _ _ refl (ap (λ b. done ++ loop id b ∷ []) (codes_again body)) (omega arith) (omega arith))),
      )
  stmt p (choice who kernel relays from tests bs) done stack n k =
      let t = told who kernel relays from tests in
      let f = frame (in_first (who ∷ [])) done in
      let d = depth_of stack in
      let s0 = state statement done stack n k in
      let s1 = state statement [] (f ∷ stack) n (k + 1) in
      let s2 = state (chosen who kernel) done stack n (k + 1) in
      let s3 = state (answered t) done stack n (k + 1) in
      λ e. (
        s1,
        along p s0 s1 d (if_open (who ∷ [])) refl (and-true (is_guard p who) ∙ e) refl,
        refl,
        λ g. (
          s2,
          along p s1 s2 (d + 1) (chooses kernel) refl g refl,
          refl,
          follow_on p (told_lines p d who relays from tests) (spelled_parts p d (at stack n) 0 tests bs) (quiet (told_lines p 0 who relays from tests)) (marks_parts p bs) s2 s3 _
              (subst (λ m. Follows p s2 (told_lines p d who relays from tests) m s3) (told_marks p d 0 who relays from tests) (told_on p who kernel relays from tests done stack n (k + 1)))
              (shift p (spelled_parts p d (at stack n) 0 tests bs) (marks_parts p bs) s3 statement _ _ stack _ _ _ _ (parts p bs t done stack n (k + 1))
              (ap (λ b. done ++ choice who kernel relays from tests b ∷ []) (parts_again bs)) refl (omega arith)),
        ),
      )
  stmt p (own off) done stack n k =
      let s1 = state statement (done ++ own off ∷ []) stack n (k + 1) in
      λ a. (s1, along p (state statement done stack n k) s1 (depth_of stack) (own_is off) refl a refl, refl, last_line p done (own off) stack n k (n + 0) (omega arith))
  stmt p (again id) done stack n k =
      let s1 = state statement (done ++ again id ∷ []) stack n (k + 1) in
      λ a. (s1, along p (state statement done stack n k) s1 (depth_of stack) (goto id) refl a refl, refl, last_line p done (again id) stack n k (n + 0) (omega arith))
  stmt p (run kernel) done stack n k =
      let s1 = state statement (done ++ run kernel ∷ []) stack n (k + 1) in
      λ a. (s1, along p (state statement done stack n k) s1 (depth_of stack) (calls kernel) refl a refl, refl, last_line p done (run kernel) stack n k (n + 0) (omega arith))
  stmt p barrier done stack n k =
      let s1 = state statement (done ++ barrier ∷ []) stack n (k + 1) in
      λ a. (s1, along p (state statement done stack n k) s1 (depth_of stack) mpi_barrier refl refl refl, refl, last_line p done barrier stack n k (n + 0) (omega arith))
  stmt p (send label to) done stack n k = sends p label to done stack n k (is_wordy p label) refl
  stmt p (recv label from) done stack n k = receives p label from done stack n k (is_wordy p label) refl
  stmt p (broadcast label root) done stack n k =
      let d = depth_of stack in
      let s0 = state statement done stack n k in
      let s1 = state (rooted label root) done stack n (k + 1) in
      let s2 = state (cast label root) done stack n (k + 1) in
      let s3 = state statement (done ++ broadcast label root ∷ []) stack n (k + 1) in
      λ a. (
        s1,
        along p s0 s1 d (root_makes root label) refl a refl,
        refl,
        λ b. (
          s2,
          along p s1 s2 d (mpi_bcast label root) refl refl (ap (λ x. cond x (Some s2) None) (is_root label root)),
          refl,
          λ c. (s3, along p s2 s3 d (takes label outgoing) refl refl (ap (λ x. cond x (Some s3) None) (eq_self label)), refl, last_line p done (broadcast label root) stack n k (n + 0) (omega arith)),
        ),
      )
  stmt p (reduce label op root) done stack n k =
      let d = depth_of stack in
      let s0 = state statement done stack n k in
      let s1 = state (made label) done stack n (k + 1) in
      let s2 = state (reduced label op root) done stack n (k + 1) in
      let s3 = state statement (done ++ reduce label op root ∷ []) stack n (k + 1) in
      λ a. (
        s1,
        along p s0 s1 d (makes label) refl (left (is_label p label) (is_wordy p label) a) (ap (λ x. cond x (Some s1) None) (right (is_label p label) (is_wordy p label) a)),
        refl,
        λ b. (
          s2,
          along p s1 s2 d (mpi_reduce label op root) refl b (ap (λ x. cond x (Some s2) None) (eq_self label)),
          refl,
          λ c. (s3, along p s2 s3 d (root_takes root label) refl refl (ap (λ x. cond x (Some s3) None) (is_root label root)), refl, last_line p done (reduce label op root) stack n k (n + 0) (omega arith)),
        ),
      )
  stmt p (allreduce label op) done stack n k =
      let d = depth_of stack in
      let s0 = state statement done stack n k in
      let s1 = state (made label) done stack n (k + 1) in
      let s2 = state (allreduced label op) done stack n (k + 1) in
      let s3 = state statement (done ++ allreduce label op ∷ []) stack n (k + 1) in
      λ a. (
        s1,
        along p s0 s1 d (makes label) refl (left (is_label p label) (is_wordy p label) a) (ap (λ x. cond x (Some s1) None) (right (is_label p label) (is_wordy p label) a)),
        refl,
        λ b. (
          s2,
          along p s1 s2 d (mpi_allreduce label op) refl b (ap (λ x. cond x (Some s2) None) (eq_self label)),
          refl,
          λ c. (s3, along p s2 s3 d (takes label incoming) refl refl (ap (λ x. cond x (Some s3) None) (eq_self label)), refl, last_line p done (allreduce label op) stack n k (n + 0) (omega arith)),
        ),
      )

  pub all : (p : Program) (cs : Codes) (done : List Code) (stack : List Frame) (n k : ℕ) → From p done stack n k (spelled_all p (depth_of stack) (at stack n) cs) (marks_all p cs) (done ++ list_of cs) (n + loops_in cs) (k + size_all cs)
  all p nothing done stack n k = shift p [] [] _ statement done _ stack n _ k _ refl (sym (append-nil done)) (omega arith) (omega arith)
  all p (more c rest) done stack n k = both p c rest done stack n k (stmt p c done stack n k) (all p rest (done ++ c ∷ []) stack (n + loops_at c) (k + size c))

  pub other : (p : Program) (b : Codes) (guards : List Guard) (a : Codes) (outer : List Code) (stack : List Frame) (n k : ℕ)
      → Follows p (state statement (list_of a) (frame (in_first guards) outer ∷ stack) n k) (spelled_other p (depth_of stack) (at stack n) b) (marks_other p b) (state statement (outer ++ when guards a b ∷ []) stack (n + loops_in b) (k + size_all b))
  other p nothing guards a outer stack n k =
      let s0 = state statement (list_of a) (frame (in_first guards) outer ∷ stack) n k in
      let s1 = state statement (outer ++ when guards (codes_of (list_of a)) nothing ∷ []) stack n k in
      λ e. (s1, along p s0 s1 (depth_of stack) close refl refl refl, refl, shift p [] [] s1 statement _ _ stack n _ k _ refl (ap (λ x. outer ++ when guards x nothing ∷ []) (codes_again a)) (omega arith) (omega arith))
  other p (more c rest) guards a outer stack n k =
      let f = frame (in_other guards (list_of a)) outer in
      let s0 = state statement (list_of a) (frame (in_first guards) outer ∷ stack) n k in
      let s1 = state statement [] (f ∷ stack) n k in
      let s2 = state statement (c ∷ list_of rest) (f ∷ stack) (n + loops_in (more c rest)) (k + size_all (more c rest)) in
      let s3 = state statement (outer ++ when guards (codes_of (list_of a)) (codes_of (c ∷ list_of rest)) ∷ []) stack (n + loops_in (more c rest)) (k + size_all (more c rest)) in
      λ e. (
        s1,
        along p s0 s1 (depth_of stack) else_open refl refl refl,
        refl,
        follow_on p (spelled_all p (depth_of stack + 1) (at stack n) (more c rest)) (line (depth_of stack) close true ∷ []) (marks_all p (more c rest)) (false ∷ []) s1 s2 _
            (both p c rest [] (f ∷ stack) n k (stmt p c [] (f ∷ stack) n k) (all p rest (c ∷ []) (f ∷ stack) (n + loops_at c) (k + size c)))
            (λ g. (
              s3,
              along p s2 s3 (depth_of stack) close refl refl refl,
              refl,
              shift p [] [] s3 statement _ _ stack _ _ _ _ refl (ap (λ x. outer ++ when guards x (codes_of (c ∷ list_of rest)) ∷ []) (codes_again a) ∙ ap (λ x. outer ++ when guards a (more c x) ∷ []) (codes_again rest)) refl refl,
            )),
      )

  -- all branches of a choice
  pub parts : (p : Program) (bs : Parts) (t : Told) (done : List Code) (stack : List Frame) (n k : ℕ)
      → Follows p (state (answered t) done stack n k) (spelled_parts p (depth_of stack) (at stack n) 0 t.tests bs) (marks_parts p bs) (state statement (done ++ chosen_of t (lists_of bs) ∷ []) stack (n + loops_among bs) (k + size_parts bs))
  parts p no_part t done stack n k = λ e. absurd cc
  parts p (part b no_part) t done stack n k =
      let f = frame (in_branch t []) done in
      let s1 = state statement [] (f ∷ stack) n k in
      let s2 = state statement (list_of b) (f ∷ stack) (n + loops_in b) (k + size_all b) in
      λ e. (
        s1,
        along p (state (answered t) done stack n k) s1 (depth_of stack) (pick_open 0) refl refl refl,
        refl,
        follow_on p (spelled_all p (depth_of stack + 1) (at stack n) b) (line (depth_of stack) close false ∷ []) (marks_all p b) (false ∷ []) s1 s2 _ (all p b [] (f ∷ stack) n k) (λ g. absurd cc),
      )
  parts p (part b (part c rest)) t done stack n k =
      let f = frame (in_branch t []) done in
      let s1 = state statement [] (f ∷ stack) n k in
      let s2 = state statement (list_of b) (f ∷ stack) (n + loops_in b) (k + size_all b) in
      let ls = spelled_parts p (depth_of stack) (at stack (n + loops_in b)) 1 t.tests (part c rest) in
      λ e. (
        s1,
        along p (state (answered t) done stack n k) s1 (depth_of stack) (pick_open 0) refl refl refl,
        refl,
        follow_on p (spelled_all p (depth_of stack + 1) (at stack n) b) ls (marks_all p b) (marks_parts p (part c rest)) s1 s2 _ (all p b [] (f ∷ stack) n k)
            (shift p ls (marks_parts p (part c rest)) s2 statement _ _ stack _ _ _ _ (branches p (part c rest) t [] (list_of b) done stack (n + loops_in b) (k + size_all b)) refl (omega arith) (omega arith)),
      )

  -- the branches behind the first
  pub branches : (p : Program) (bs : Parts) (t : Told) (before : List (List Code)) (done outer : List Code) (stack : List Frame) (n k : ℕ) → Branches p t before done outer stack n k (suc (length before)) bs
  branches p no_part t before done outer stack n k = tt
  branches p (part b no_part) t before done outer stack n k =
      let d = depth_of stack in
      let f = frame (in_last t before done) outer in
      let s0 = state statement done (frame (in_branch t before) outer ∷ stack) n k in
      let s1 = state statement [] (f ∷ stack) n k in
      let s2 = state statement (list_of b) (f ∷ stack) (n + loops_in b) (k + size_all b) in
      let s3 = state statement (outer ++ chosen_of t ((before ++ done ∷ []) ++ list_of b ∷ []) ∷ []) stack (n + loops_in b) (k + size_all b) in
      λ e. (
        s1,
        along p s0 s1 d else_open refl e refl,
        refl,
        follow_on p (spelled_all p (d + 1) (at stack n) b) (line d close (nat_lt 1 (suc (length before) + 1)) ∷ []) (marks_all p b) (false ∷ []) s1 s2 _ (all p b [] (f ∷ stack) n k)
            (λ g. (s3, along p s2 s3 d close refl refl refl, refl, shift p [] [] s3 statement _ _ stack _ _ _ _ refl (ap (λ x. outer ++ chosen_of t x ∷ []) (append_assoc before (done ∷ []) (list_of b ∷ []))) (omega arith) (omega arith))),
      )
  branches p (part b (part c rest)) t before done outer stack n k =
      let d = depth_of stack in
      let f = frame (in_branch t (before ++ done ∷ [])) outer in
      let s0 = state statement done (frame (in_branch t before) outer ∷ stack) n k in
      let s1 = state statement [] (f ∷ stack) n k in
      let s2 = state statement (list_of b) (f ∷ stack) (n + loops_in b) (k + size_all b) in
      let number : suc (length (before ++ done ∷ [])) ≡ suc (length before) + 1 = omega (arith, longer before done) in
      let ls = spelled_parts p d (at stack (n + loops_in b)) (suc (length before) + 1) t.tests (part c rest) in
      let ends = state statement (outer ++ chosen_of t ((before ++ done ∷ []) ++ list_of b ∷ lists_of (part c rest)) ∷ []) stack ((n + loops_in b) + loops_among (part c rest)) ((k + size_all b) + size_parts (part c rest)) in
      λ e. (
        s1,
        along p s0 s1 d (else_pick_open (suc (length before))) refl e (ap (λ x. cond x (Some s1) None) (eq_self (suc (length before)))),
        refl,
        follow_on p (spelled_all p (d + 1) (at stack n) b) ls (marks_all p b) (marks_parts p (part c rest)) s1 s2 _ (all p b [] (f ∷ stack) n k)
            (shift p ls (marks_parts p (part c rest)) s2 statement _ _ stack _ _ _ _
            (subst (λ x. Follows p s2 (spelled_parts p d (at stack (n + loops_in b)) x t.tests (part c rest)) (marks_parts p (part c rest)) ends) number
            (branches p (part c rest) t (before ++ done ∷ []) (list_of b) outer stack (n + loops_in b) (k + size_all b)))
            (ap (λ x. outer ++ chosen_of t x ∷ []) (append_assoc before (done ∷ []) (list_of b ∷ lists_of (part c rest)))) (omega arith) (omega arith)),
      )
