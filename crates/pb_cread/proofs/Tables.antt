-- Lines say nothing of the statements that a program has, but of its tables alone.
use Rattle.std.proofs.Common.{◌≡◌, ℕ, ◌+◌, Bool, false, List, [], ◌∷◌, ◌++◌, map, refl, sym, ap, ◌∙◌}
use Rattle.std.specs.Prelude.{◌&&◌}
use Rattle.pb_affine.specs.declared.guard.Guard.{Guard}
use Rattle.pb_local.specs.declared.stmt.Peer.{Peer}
use Rattle.pb_local.specs.declared.stmt.Test.{Test}
use Rattle.pb_local.specs.declared.stmt.Relay.{Relay}
use Rattle.pb_local.specs.Pieces as P
use Rattle.pb_local.specs.Tree.{Code, when, for_each, own, loop, again, choice, send, recv, run, barrier, broadcast, reduce, allreduce, Codes, nothing, more, Parts, no_part, part, Program}
use Rattle.pb_local.specs.WellMade.{Scope, behind, in_loop, loops_at, loops_in}
use Rattle.pb_ctree.specs.Lines.{Item, raw, close, else_open, if_open, else_if_open, for_open, own_is, loop_open, goto, makes, root_makes, takes, root_takes, mpi_send, mpi_recv, mpi_barrier, mpi_bcast, mpi_reduce, mpi_allreduce, calls, chooses, probe, test_open, else_test_open, picks, aborts, pick_open, else_pick_open, item_text, Line, line}
use Rattle.pb_ctree.specs.Rules.{are_guards, is_label}
use Rattle.pb_ctree.specs.Spelling.{relay_lines, probe_lines, next_tests, test_lines, told_lines, spelled, spelled_all, spelled_other, spelled_parts}
use Rattle.pb_ctree.specs.Texts.{line_bytes, Starts}
use Rattle.pb_cread_statements.specs.Marks.{marks, marks_all, marks_other, marks_parts}
use Rattle.pb_cread.specs.Reached.{with_body}

text_same : (p : Program) (c : Codes) (i : Item) → item_text (with_body p c) i ≡ item_text p i
text_same p c (raw text) = refl
text_same p c close = refl
text_same p c else_open = refl
text_same p c (if_open guards) = refl
text_same p c (else_if_open guards) = refl
text_same p c (for_open low high) = refl
text_same p c (own_is off) = refl
text_same p c (loop_open id) = refl
text_same p c (goto id) = refl
text_same p c (makes label) = refl
text_same p c (root_makes root label) = refl
text_same p c (takes label side) = refl
text_same p c (root_takes root label) = refl
text_same p c (mpi_send label to) = refl
text_same p c (mpi_recv label from) = refl
text_same p c mpi_barrier = refl
text_same p c (mpi_bcast label root) = refl
text_same p c (mpi_reduce label op root) = refl
text_same p c (mpi_allreduce label op) = refl
text_same p c (calls kernel) = refl
text_same p c (chooses kernel) = refl
text_same p c (probe from) = refl
text_same p c (test_open label guards) = refl
text_same p c (else_test_open label guards) = refl
text_same p c (picks branch) = refl
text_same p c aborts = refl
text_same p c (pick_open branch) = refl
text_same p c (else_pick_open branch) = refl

pub bytes_same : (p : Program) (c : Codes) (l : Line) → line_bytes (with_body p c) l ≡ line_bytes p l
bytes_same p c l = ap (λ x. P.indent l.depth ++ x) (text_same p c l.item)

pub starts_same : (p : Program) (c : Codes) (bares : List (List ℕ)) (ls : List Line) → Starts (with_body p c) bares ls → Starts p bares ls
starts_same p c [] ls st = tt
starts_same p c (b ∷ bs) [] st = absurd st
starts_same p c (b ∷ bs) (l ∷ ls) st = (st.0 ∙ bytes_same p c l, st.1, starts_same p c bs ls st.2)

pub starts_with_body : (p : Program) (c : Codes) (bares : List (List ℕ)) (ls : List Line) → Starts p bares ls → Starts (with_body p c) bares ls
starts_with_body p c [] ls st = tt
starts_with_body p c (b ∷ bs) [] st = absurd st
starts_with_body p c (b ∷ bs) (l ∷ ls) st = (st.0 ∙ sym (bytes_same p c l), st.1, starts_with_body p c bs ls st.2)

-- ---- the lines of statements

guards_same : (p : Program) (c : Codes) (gs : List Guard) → are_guards (with_body p c) gs ≡ are_guards p gs
guards_same p c [] = refl
guards_same p c (g ∷ gs) = refl

both : {x y : Line} {xs ys : List Line} → x ≡ y → xs ≡ ys → x ∷ xs ≡ y ∷ ys
both {y = y} {xs = xs} e f = ap (λ z. z ∷ xs) e ∙ ap (λ zs. y ∷ zs) f

join : {xs ys us vs : List Line} → xs ≡ ys → us ≡ vs → xs ++ us ≡ ys ++ vs
join {ys = ys} {us = us} e f = ap (λ z. z ++ us) e ∙ ap (λ zs. ys ++ zs) f

guarded : (p : Program) (c : Codes) (d : ℕ) (i : Item) (gs : List Guard) → line d i (are_guards (with_body p c) gs) ≡ line d i (are_guards p gs)
guarded p c d i gs = ap (line d i) (guards_same p c gs)

relays_same : (p : Program) (c : Codes) (d : ℕ) (rs : List Relay) (from : Peer) → relay_lines (with_body p c) d rs from ≡ relay_lines p d rs from
relays_same p c d [] from = refl
relays_same p c d (r ∷ rs) from = both (guarded p c d (else_if_open r.guards) r.guards) (both refl (relays_same p c d rs from))

probes_same : (p : Program) (c : Codes) (d : ℕ) (rs : List Relay) (from : Peer) → probe_lines (with_body p c) d rs from ≡ probe_lines p d rs from
probes_same p c d [] from = refl
probes_same p c d (r ∷ rs) from = both (guarded p c d (if_open r.guards) r.guards) (both refl (relays_same p c d rs from))

tested : (p : Program) (c : Codes) (d : ℕ) (i : Item) (k : ℕ) (gs : List Guard) → line d i (is_label (with_body p c) k && are_guards (with_body p c) gs) ≡ line d i (is_label p k && are_guards p gs)
tested p c d i k gs = ap (λ b. line d i (is_label p k && b)) (guards_same p c gs)

next_same : (p : Program) (c : Codes) (d : ℕ) (before : Test) (ts : List Test) → next_tests (with_body p c) d before ts ≡ next_tests p d before ts
next_same p c d before [] = refl
next_same p c d before (t ∷ ts) = both (tested p c d (else_test_open t.label t.guards) t.label t.guards) (both refl (next_same p c d t ts))

tests_same : (p : Program) (c : Codes) (d : ℕ) (t : Test) (ts : List Test) → test_lines (with_body p c) d t ts ≡ test_lines p d t ts
tests_same p c d t ts = both (tested p c d (test_open t.label t.guards) t.label t.guards) (both refl (next_same p c d t ts))

told_same : (p : Program) (c : Codes) (d : ℕ) (who : Guard) (rs : List Relay) (from : Peer) (ts : List Test) → told_lines (with_body p c) d who rs from ts ≡ told_lines p d who rs from ts
told_same p c d who rs from [] = refl
told_same p c d who rs from (t ∷ ts) = both refl (join (join (join (probes_same p c (d + 1) rs from) (tests_same p c (d + 1) t ts)) refl) refl)

mutual
  one_same : (p : Program) (c : Codes) (d : ℕ) (s : Scope) (x : Code) → spelled (with_body p c) d s x ≡ spelled p d s x
  one_same p c d s (when guards first other) = both (guarded p c d (if_open guards) guards) (join (spelled_same p c (d + 1) s first) (other_same p c d (behind s (loops_in first)) other))
  one_same p c d s (for_each low high body) = both refl (join (spelled_same p c (d + 1) s body) refl)
  one_same p c d s (own off) = refl
  one_same p c d s (loop id body) = both refl (join (spelled_same p c (d + 1) (in_loop s id) body) refl)
  one_same p c d s (again id) = refl
  one_same p c d s (choice who kernel relays from tests branches) = both refl (both refl (join (told_same p c d who relays from tests) (parts_same p c d s 0 tests branches)))
  one_same p c d s (send label to) = refl
  one_same p c d s (recv label from) = refl
  one_same p c d s (run kernel) = refl
  one_same p c d s barrier = refl
  one_same p c d s (broadcast label root) = refl
  one_same p c d s (reduce label op root) = refl
  one_same p c d s (allreduce label op) = refl

  pub spelled_same : (p : Program) (c : Codes) (d : ℕ) (s : Scope) (xs : Codes) → spelled_all (with_body p c) d s xs ≡ spelled_all p d s xs
  spelled_same p c d s nothing = refl
  spelled_same p c d s (more x xs) = join (one_same p c d s x) (spelled_same p c d (behind s (loops_at x)) xs)

  other_same : (p : Program) (c : Codes) (d : ℕ) (s : Scope) (xs : Codes) → spelled_other (with_body p c) d s xs ≡ spelled_other p d s xs
  other_same p c d s nothing = refl
  other_same p c d s (more x xs) = both refl (join (join (one_same p c (d + 1) s x) (spelled_same p c (d + 1) (behind s (loops_at x)) xs)) refl)

  parts_same : (p : Program) (c : Codes) (d : ℕ) (s : Scope) (k : ℕ) (ts : List Test) (bs : Parts) → spelled_parts (with_body p c) d s k ts bs ≡ spelled_parts p d s k ts bs
  parts_same p c d s k ts no_part = refl
  parts_same p c d s k ts (part b rest) = both refl (join (spelled_same p c (d + 1) s b) (parts_same p c d (behind s (loops_in b)) (k + 1) ts rest))

-- ---- their marks

with_marks : {xs ys us vs : List Bool} → xs ≡ ys → us ≡ vs → xs ++ us ≡ ys ++ vs
with_marks {ys = ys} {us = us} e f = ap (λ z. z ++ us) e ∙ ap (λ zs. ys ++ zs) f

first_mark : {x : Bool} {xs ys : List Bool} → xs ≡ ys → x ∷ xs ≡ x ∷ ys
first_mark {x = x} e = ap (λ zs. x ∷ zs) e

mutual
  mark_same : (p : Program) (c : Codes) (x : Code) → marks (with_body p c) x ≡ marks p x
  mark_same p c (when guards first other) = first_mark (with_marks (marks_same p c first) (mark_other_same p c other))
  mark_same p c (for_each low high body) = first_mark (with_marks (marks_same p c body) refl)
  mark_same p c (own off) = refl
  mark_same p c (loop id body) = first_mark (with_marks (marks_same p c body) refl)
  mark_same p c (again id) = refl
  mark_same p c (choice who kernel relays from tests branches) = first_mark (first_mark (with_marks (ap (map (λ l. false)) (told_same p c 0 who relays from tests)) (mark_parts_same p c branches)))
  mark_same p c (send label to) = refl
  mark_same p c (recv label from) = refl
  mark_same p c (run kernel) = refl
  mark_same p c barrier = refl
  mark_same p c (broadcast label root) = refl
  mark_same p c (reduce label op root) = refl
  mark_same p c (allreduce label op) = refl

  pub marks_same : (p : Program) (c xs : Codes) → marks_all (with_body p c) xs ≡ marks_all p xs
  marks_same p c nothing = refl
  marks_same p c (more x xs) = with_marks (mark_same p c x) (marks_same p c xs)

  mark_other_same : (p : Program) (c xs : Codes) → marks_other (with_body p c) xs ≡ marks_other p xs
  mark_other_same p c nothing = refl
  mark_other_same p c (more x xs) = first_mark (with_marks (with_marks (mark_same p c x) (marks_same p c xs)) refl)

  mark_parts_same : (p : Program) (c : Codes) (bs : Parts) → marks_parts (with_body p c) bs ≡ marks_parts p bs
  mark_parts_same p c no_part = refl
  mark_parts_same p c (part b rest) = first_mark (with_marks (marks_same p c b) (mark_parts_same p c rest))
