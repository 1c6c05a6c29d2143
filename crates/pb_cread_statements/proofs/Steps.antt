-- Each step adds its line to the lines that were read.
use Rattle.std.proofs.Common.{◌≡◌, ℕ, ◌+◌, true, List, [], ◌∷◌, ◌++◌, Option, Some, None, refl, sym, ap, ◌∙◌, append_assoc, append-nil, arith, eqb-true}
use Rattle.std.specs.Prelude.{nat_eq, nat_lt, ◌^◌, ◌&&◌, if◌then◌else◌}
use Rattle.std.proofs.Math.Bool.{and-true}
use Rattle.std.proofs.lemmas.Bool.{and_from}
use Rattle.pb_affine.specs.declared.lin.Lin.{Lin}
use Rattle.pb_affine.specs.declared.guard.Guard.{Guard}
use Rattle.pb_syntax.specs.declared.tree.Op.{Op}
use Rattle.pb_local.specs.declared.stmt.Peer.{Peer}
use Rattle.pb_local.specs.declared.stmt.Test.{Test}
use Rattle.pb_local.specs.declared.stmt.Relay.{Relay}
use Rattle.pb_local.specs.Tree.{Code, own, again, send, recv, run, barrier, broadcast, reduce, allreduce, Program}
use Rattle.pb_ctree.specs.Lines.{Item, close, else_open, if_open, else_if_open, for_open, own_is, loop_open, goto, makes, root_makes, takes, root_takes, mpi_send, mpi_recv, mpi_barrier, mpi_bcast, mpi_reduce, mpi_allreduce, calls, chooses, probe, test_open, else_test_open, picks, aborts, pick_open, else_pick_open, Line, line}
use Rattle.pb_ctree.specs.Rules.{is_label, is_wordy, is_peer, are_guards, goes_with, is_peer_of, is_at, comes_after}
use Rattle.pb_ctree.specs.Small.{outgoing, incoming, payload_of}
use Rattle.pb_ctree.specs.Spelling.{probe_lines, test_lines}
use Rattle.pb_cread_statements.specs.Reading.{Told, told, with_test, in_first, in_for, in_loop_of, in_branch, Frame, Wanted, statement, made, rooted, cast, reduced, allreduced, received, chosen, asked, relaying, relayed, sourced, probed, untested, testing, tested, aborting, aborted, all_tested, answered, State, state, depth_of, place, is_same_peer, untold, step, rule, last_of}
use Rattle.pb_cread_statements.proofs.Small as Small
use Rattle.pb_cread_statements.proofs.Small.{eq_self, longer, lin_self, peer_same}
use Rattle.pb_cread_statements.proofs.Along.{at}
use Rattle.pb_cread_statements.proofs.Written.{start, head, relays_read, tests_read, relay_open, tested_open, asked_read, untested_read, tested_read, all_tested_read, partial, IsMore, IsGood, Adds, Every, by_test}
use Rattle.pb_cread_statements.proofs.Branched.{relays_append, relays_some, tests_some, relays_all, next_append}
use Rattle.pb_cread_statements.proofs.Grown.{advance, finishes, enters, closes, elses, picks_on, chooses_on}

abbrev pub Grows : Program → State → Item → Type 0
Grows p s i = Every (λ t. Adds p s t (line (place s i) i (rule p s i))) (step p s i)

free : (p : Program) (done : List Code) (stack : List Frame) (n k : ℕ) (i : Item) → IsGood p (state statement done stack n k) → Grows p (state statement done stack n k) i
free p done stack n k (if_open guards) h = enters p statement done stack n n k (k + 1) (in_first guards) _ h.loops refl
free p done stack n k (for_open low high) h = enters p statement done stack n n k (k + 1) (in_for low high) _ h.loops refl
free p done stack n k (loop_open id) h = enters p statement done stack n (n + 1) k (k + 1) (in_loop_of id) _ (omega (arith, h.loops)) (ap (λ x. line (depth_of stack) (loop_open id) (nat_eq id x) ∷ []) (sym h.loops))
free p done [] n k close h = tt
free p done (f ∷ fs) n k close h = closes p done f.kind f.outer fs n k h
free p done [] n k else_open h = tt
free p done (f ∷ fs) n k else_open h = elses p done f.kind f.outer fs n k h
free p done [] n k (else_pick_open branch) h = tt
free p done (f ∷ fs) n k (else_pick_open branch) h = picks_on p done f.kind f.outer fs n k branch h
free p done [] n k (chooses kernel) h = tt
free p done (f ∷ fs) n k (chooses kernel) h = chooses_on p done f.kind f.outer fs n k kernel h
free p done stack n k (own_is off) h = finishes p statement done stack n k (k + 1) (own off) _ h refl refl
free p done stack n k (goto id) h = finishes p statement done stack n k (k + 1) (again id) _ h refl refl
free p done stack n k mpi_barrier h = finishes p statement done stack n k (k + 1) barrier _ h refl refl
free p done stack n k (calls kernel) h = finishes p statement done stack n k (k + 1) (run kernel) _ h refl refl
free p done stack n k (makes label) h = by_test _ (is_wordy p label) _ None (λ e. advance p statement (made label) done stack n k (k + 1) _ h refl e) (λ e. tt)
free p done stack n k (root_makes root label) h = advance p statement (rooted label root) done stack n k (k + 1) _ h refl tt
free p done stack n k (mpi_send label to) h =
    let d = depth_of stack in
    let l = line d (mpi_send label to) (is_label p label && is_peer p to) in
    by_test _ (is_wordy p label) None _ (λ e. tt) (λ e. finishes p statement done stack n k (k + 1) (send label to) l h refl (ap (λ b. (if b then line d (makes label) (is_label p label) ∷ [] else []) ++ l ∷ []) e))
free p done stack n k (mpi_recv label from) h =
    let d = depth_of stack in
    let l = line d (mpi_recv label from) (is_label p label && is_peer p from) in
    by_test _ (is_wordy p label) _ _ (λ e. advance p statement (received label from) done stack n k (k + 1) l h refl e)
    (λ e. finishes p statement done stack n k (k + 1) (recv label from) l h refl (ap (λ b. l ∷ (if b then line d (takes label incoming) true ∷ [] else [])) e))
free p done stack n k other h = tt

-- ---- messages and collectives

makes_it : (p : Program) (d label same : ℕ) → label ≡ same → is_wordy p same ≡ true → line d (makes label) (is_label p label && is_wordy p label) ≡ line d (makes same) (is_label p same)
makes_it p d label same is wordy = ap (λ x. line d (makes x) (is_label p x && is_wordy p x)) is ∙ ap (λ b. line d (makes same) (is_label p same && b)) wordy ∙ ap (line d (makes same)) (and-true (is_label p same))

behind_make : (p : Program) (same : ℕ) (done : List Code) (stack : List Frame) (n k : ℕ) (i : Item) → IsGood p (state (made same) done stack n k) → Grows p (state (made same) done stack n k) i
behind_make p same done stack n k (mpi_send label to) h =
    let d = depth_of stack in
    let l = line d (mpi_send label to) (is_label p label && is_peer p to) in
    by_test _ (nat_eq label same) _ None (λ e. let is = eqb-true label same e in
    finishes p (made same) done stack n k k (send label to) l h refl
    (ap (λ b. (if b then line d (makes label) (is_label p label) ∷ [] else []) ++ l ∷ []) (ap (is_wordy p) is ∙ h.fits) ∙ ap (λ x. line d (makes x) (is_label p x) ∷ l ∷ []) is)) (λ e. tt)
behind_make p same done stack n k (mpi_reduce label op root) h =
    let d = depth_of stack in
    let l = line d (mpi_reduce label op root) (goes_with op (payload_of p label) && is_peer p root) in
    by_test _ (nat_eq label same) _ None (λ e. advance p (made same) (reduced label op root) done stack n k k l h (ap (λ x. x ∷ l ∷ []) (makes_it p d label same (eqb-true label same e) h.fits)) tt) (λ e. tt)
behind_make p same done stack n k (mpi_allreduce label op) h =
    let d = depth_of stack in
    let l = line d (mpi_allreduce label op) (goes_with op (payload_of p label)) in
    by_test _ (nat_eq label same) _ None (λ e. advance p (made same) (allreduced label op) done stack n k k l h (ap (λ x. x ∷ l ∷ []) (makes_it p d label same (eqb-true label same e) h.fits)) tt) (λ e. tt)
behind_make p same done stack n k other h = tt

same_label : (a b : ℕ) (x y : Peer) → (nat_eq a b && is_same_peer x y) ≡ true → a ≡ b
same_label a b x y e = eqb-true a b (Small.left (nat_eq a b) (is_same_peer x y) e)

same_root : (a b : ℕ) (x y : Peer) → (nat_eq a b && is_same_peer x y) ≡ true → x ≡ y
same_root a b x y e = peer_same x y (Small.right (nat_eq a b) (is_same_peer x y) e)

behind_root : (p : Program) (same : ℕ) (root : Peer) (done : List Code) (stack : List Frame) (n k : ℕ) (i : Item) → IsGood p (state (rooted same root) done stack n k) → Grows p (state (rooted same root) done stack n k) i
behind_root p same root done stack n k (mpi_bcast label at) h =
    let d = depth_of stack in
    let l = line d (mpi_bcast label at) true in
    by_test _ (nat_eq label same && is_same_peer at root) _ None (λ e. advance p (rooted same root) (cast label at) done stack n k k l h
    (ap (λ x. line d (root_makes at x) (is_label p x && is_wordy p x && is_peer p at) ∷ l ∷ []) (same_label label same at root e) ∙ ap (λ x. line d (root_makes x same) (is_label p same && is_wordy p same && is_peer p x) ∷ l ∷ []) (same_root label same at root e)) tt) (λ e. tt)
behind_root p same root done stack n k other h = tt

taken_out : (p : Program) (same : ℕ) (root : Peer) (done : List Code) (stack : List Frame) (n k : ℕ) (i : Item) → IsGood p (state (cast same root) done stack n k) → Grows p (state (cast same root) done stack n k) i
taken_out p same root done stack n k (takes label outgoing) h =
    by_test _ (nat_eq label same) _ None (λ e. finishes p (cast same root) done stack n k k (broadcast same root) _ h refl
    (ap (λ x. partial p (depth_of stack) (cast same root) ++ line (depth_of stack) (takes x outgoing) true ∷ []) (sym (eqb-true label same e)))) (λ e. tt)
taken_out p same root done stack n k other h = tt

taken_all : (p : Program) (same : ℕ) (op : Op) (done : List Code) (stack : List Frame) (n k : ℕ) (i : Item) → IsGood p (state (allreduced same op) done stack n k) → Grows p (state (allreduced same op) done stack n k) i
taken_all p same op done stack n k (takes label incoming) h =
    by_test _ (nat_eq label same) _ None (λ e. finishes p (allreduced same op) done stack n k k (allreduce same op) _ h refl
    (ap (λ x. partial p (depth_of stack) (allreduced same op) ++ line (depth_of stack) (takes x incoming) true ∷ []) (sym (eqb-true label same e)))) (λ e. tt)
taken_all p same op done stack n k other h = tt

taken_in : (p : Program) (same : ℕ) (from : Peer) (done : List Code) (stack : List Frame) (n k : ℕ) (i : Item) → IsGood p (state (received same from) done stack n k) → Grows p (state (received same from) done stack n k) i
taken_in p same from done stack n k (takes label incoming) h =
    let d = depth_of stack in
    let l = line d (mpi_recv same from) (is_label p same && is_peer p from) in
    by_test _ (nat_eq label same) _ None (λ e. finishes p (received same from) done stack n k k (recv same from) _ h refl
    (ap (λ b. l ∷ (if b then line d (takes same incoming) true ∷ [] else [])) h.fits ∙ ap (λ x. l ∷ line d (takes x incoming) true ∷ []) (sym (eqb-true label same e)))) (λ e. tt)
taken_in p same from done stack n k other h = tt

taken_root : (p : Program) (same : ℕ) (op : Op) (root : Peer) (done : List Code) (stack : List Frame) (n k : ℕ) (i : Item) → IsGood p (state (reduced same op root) done stack n k) → Grows p (state (reduced same op root) done stack n k) i
taken_root p same op root done stack n k (root_takes at label) h =
    let d = depth_of stack in
    let front = λ (x : ℕ) (y : Peer). line d (makes x) (is_label p x && is_wordy p x) ∷ line d (mpi_reduce x op y) (goes_with op (payload_of p x) && is_peer p y) ∷ [] in
    let l = line d (root_takes at label) true in
    by_test _ (nat_eq label same && is_same_peer at root) _ None (λ e. finishes p (reduced same op root) done stack n k k (reduce label op at) l h refl
    (ap (λ x. front x at ++ l ∷ []) (same_label label same at root e) ∙ ap (λ x. front same x ++ l ∷ []) (same_root label same at root e))) (λ e. tt)
taken_root p same op root done stack n k other h = tt

-- ---- how the branch is told

is_told_by : (who : Guard) (low : Lin) → who.low ≡ Some low → is_peer_of (record { role = who.role; at = low }) who ≡ true
is_told_by who low is = and_from (nat_eq who.role who.role) _ (eq_self who.role) (ap (λ x. is_at x low) is ∙ lin_self low)

untold_on : (p : Program) (who : Guard) (kernel : ℕ) (done : List Code) (stack : List Frame) (n k : ℕ) (low : Option Lin) → who.low ≡ low → IsGood p (state (chosen who kernel) done stack n k)
    → Every (λ t. Adds p (state (chosen who kernel) done stack n k) t (line (depth_of stack) close true)) (untold (state (chosen who kernel) done stack n k) who kernel low)
untold_on p who kernel done stack n k None is h = tt
untold_on p who kernel done stack n k (Some low) is h =
    advance p (chosen who kernel) (answered (told who kernel [] (record { role = who.role; at = low }) [])) done stack n k k _ h
    (ap (λ b. start p (depth_of stack) who kernel ++ line (depth_of stack) close b ∷ []) (is_told_by who low is)) tt

choice_on : (p : Program) (who : Guard) (kernel : ℕ) (done : List Code) (stack : List Frame) (n k : ℕ) (i : Item) → IsGood p (state (chosen who kernel) done stack n k) → Grows p (state (chosen who kernel) done stack n k) i
choice_on p who kernel done stack n k close h = untold_on p who kernel done stack n k who.low refl h
choice_on p who kernel done stack n k else_open h = advance p (chosen who kernel) (asked who kernel) done stack n k k _ h refl tt
choice_on p who kernel done stack n k other h = tt

asked_on : (p : Program) (who : Guard) (kernel : ℕ) (done : List Code) (stack : List Frame) (n k : ℕ) (i : Item) → IsGood p (state (asked who kernel) done stack n k) → Grows p (state (asked who kernel) done stack n k) i
asked_on p who kernel done stack n k (probe from) h = advance p (asked who kernel) (untested who kernel [] from) done stack n k k _ h refl tt
asked_on p who kernel done stack n k (if_open guards) h = advance p (asked who kernel) (relaying who kernel [] guards) done stack n k k _ h refl tt
asked_on p who kernel done stack n k other h = tt

relaying_on : (p : Program) (who : Guard) (kernel : ℕ) (relays : List Relay) (guards : List Guard) (done : List Code) (stack : List Frame) (n k : ℕ) (i : Item) → IsGood p (state (relaying who kernel relays guards) done stack n k)
    → Grows p (state (relaying who kernel relays guards) done stack n k) i
relaying_on p who kernel relays guards done stack n k (probe from) h =
    let d = depth_of stack in
    let r : Relay = record { guards = guards; from = from } in
    advance p (relaying who kernel relays guards) (relayed who kernel (relays ++ r ∷ [])) done stack n k k _ h
    (ap (λ x. asked_read p d who kernel ++ x) (relays_append p (d + 1) relays r) ∙ regroup (asked_read p d who kernel) (relays_read p (d + 1) relays) (relay_open p (d + 1) relays guards ∷ []) (line (d + 1 + 1) (probe from) (is_peer p from) ∷ [])) (relays_some relays r) where
      regroup : (a r o q : List Line) → a ++ (r ++ (o ++ q)) ≡ ((a ++ r) ++ o) ++ q
      regroup a r o q = simp append_assoc refl
relaying_on p who kernel relays guards done stack n k other h = tt

relayed_on : (p : Program) (who : Guard) (kernel : ℕ) (relays : List Relay) (done : List Code) (stack : List Frame) (n k : ℕ) (i : Item) → IsGood p (state (relayed who kernel relays) done stack n k)
    → Grows p (state (relayed who kernel relays) done stack n k) i
relayed_on p who kernel [] done stack n k i h = absurd h.fits
relayed_on p who kernel (r ∷ rs) done stack n k (else_if_open guards) h = advance p (relayed who kernel (r ∷ rs)) (relaying who kernel (r ∷ rs) guards) done stack n k k _ h refl tt
relayed_on p who kernel (r ∷ rs) done stack n k else_open h = advance p (relayed who kernel (r ∷ rs)) (sourced who kernel (r ∷ rs)) done stack n k k _ h refl tt
relayed_on p who kernel (r ∷ rs) done stack n k other h = tt

sourced_on : (p : Program) (who : Guard) (kernel : ℕ) (relays : List Relay) (done : List Code) (stack : List Frame) (n k : ℕ) (i : Item) → IsGood p (state (sourced who kernel relays) done stack n k)
    → Grows p (state (sourced who kernel relays) done stack n k) i
sourced_on p who kernel relays done stack n k (probe from) h = advance p (sourced who kernel relays) (probed who kernel relays from) done stack n k k _ h refl h.fits
sourced_on p who kernel relays done stack n k other h = tt

probed_on : (p : Program) (who : Guard) (kernel : ℕ) (relays : List Relay) (from : Peer) (done : List Code) (stack : List Frame) (n k : ℕ) (i : Item) → IsGood p (state (probed who kernel relays from) done stack n k)
    → Grows p (state (probed who kernel relays from) done stack n k) i
probed_on p who kernel relays from done stack n k close h =
    let d = depth_of stack in
    advance p (probed who kernel relays from) (untested who kernel relays from) done stack n k k _ h
    (ap (λ x. asked_read p d who kernel ++ x) (sym (relays_all p (d + 1) relays from h.fits))
    ∙ regroup (asked_read p d who kernel) (relays_read p (d + 1) relays) (line (d + 1) else_open true ∷ []) (line (d + 1 + 1) (probe from) (is_peer p from) ∷ []) (line (d + 1) close true ∷ [])) tt where
      regroup : (a r x y z : List Line) → a ++ (r ++ (x ++ (y ++ z))) ≡ (((a ++ r) ++ x) ++ y) ++ z
      regroup a r x y z = simp append_assoc refl
probed_on p who kernel relays from done stack n k other h = tt

untested_on : (p : Program) (who : Guard) (kernel : ℕ) (relays : List Relay) (from : Peer) (done : List Code) (stack : List Frame) (n k : ℕ) (i : Item) → IsGood p (state (untested who kernel relays from) done stack n k)
    → Grows p (state (untested who kernel relays from) done stack n k) i
untested_on p who kernel relays from done stack n k (test_open label guards) h =
    let l = line (depth_of stack + 1) (test_open label guards) (is_label p label && are_guards p guards) ∷ [] in
    advance p (untested who kernel relays from) (testing (told who kernel relays from []) label guards) done stack n k k _ h (ap (λ x. x ++ l) (append-nil (untested_read p (depth_of stack) who kernel relays from))) tt
untested_on p who kernel relays from done stack n k other h = tt

-- a test more
test_lines_more : (p : Program) (d : ℕ) (ts : List Test) (branch label : ℕ) (guards : List Guard)
    → tests_read p d (ts ++ record { branch = branch; label = label; guards = guards } ∷ [])
    ≡ tests_read p d ts ++ (tested_open p d ts label guards ∷ line (d + 1) (picks branch) (nat_lt branch (2 ^ 32) && comes_after (last_of ts) (record { branch = branch; label = label; guards = guards })) ∷ [])
test_lines_more p d [] branch label guards = ap (λ b. line d (test_open label guards) (is_label p label && are_guards p guards) ∷ line (d + 1) (picks branch) b ∷ []) (sym (and-true (nat_lt branch (2 ^ 32))))
test_lines_more p d (t ∷ ts) branch label guards =
    ap (λ x. line d (test_open t.label t.guards) (is_label p t.label && are_guards p t.guards) ∷ line (d + 1) (picks t.branch) (nat_lt t.branch (2 ^ 32)) ∷ x) (next_append p d t ts (record { branch = branch; label = label; guards = guards }))

testing_on : (p : Program) (t : Told) (label : ℕ) (guards : List Guard) (done : List Code) (stack : List Frame) (n k : ℕ) (i : Item) → IsGood p (state (testing t label guards) done stack n k)
    → Grows p (state (testing t label guards) done stack n k) i
testing_on p t label guards done stack n k (picks branch) h =
    let d = depth_of stack in
    let test : Test = record { branch = branch; label = label; guards = guards } in
    let front = untested_read p d t.who t.kernel t.relays t.from in
    advance p (testing t label guards) (tested (with_test t test)) done stack n k k _ h
    (ap (λ x. front ++ x) (test_lines_more p (d + 1) t.tests branch label guards)
    ∙ regroup front (tests_read p (d + 1) t.tests) (tested_open p (d + 1) t.tests label guards ∷ []) (line (d + 1 + 1) (picks branch) (nat_lt branch (2 ^ 32) && comes_after (last_of t.tests) test) ∷ [])) (tests_some t.tests test) where
      regroup : (a r o q : List Line) → a ++ (r ++ (o ++ q)) ≡ ((a ++ r) ++ o) ++ q
      regroup a r o q = simp append_assoc refl
testing_on p t label guards done stack n k other h = tt

tested_on : (p : Program) (t : Told) (ts : List Test) (done : List Code) (stack : List Frame) (n k : ℕ) (i : Item) → t.tests ≡ ts → IsMore ts → IsGood p (state (tested t) done stack n k) → Grows p (state (tested t) done stack n k) i
tested_on p t [] done stack n k i is some h = absurd some
tested_on p t (u ∷ us) done stack n k (else_test_open label guards) is some h =
    let l = line (depth_of stack + 1) (else_test_open label guards) (is_label p label && are_guards p guards) in
    advance p (tested t) (testing t label guards) done stack n k k l h (ap (λ x. tested_read p (depth_of stack) t ++ tested_open p (depth_of stack + 1) x label guards ∷ []) is) tt
tested_on p t (u ∷ us) done stack n k else_open is some h = advance p (tested t) (aborting t) done stack n k k _ h refl h.fits
tested_on p t (u ∷ us) done stack n k other is some h = tt

aborting_on : (p : Program) (t : Told) (done : List Code) (stack : List Frame) (n k : ℕ) (i : Item) → IsGood p (state (aborting t) done stack n k) → Grows p (state (aborting t) done stack n k) i
aborting_on p t done stack n k aborts h = advance p (aborting t) (aborted t) done stack n k k _ h refl h.fits
aborting_on p t done stack n k other h = tt

aborted_on : (p : Program) (t : Told) (done : List Code) (stack : List Frame) (n k : ℕ) (i : Item) → IsGood p (state (aborted t) done stack n k) → Grows p (state (aborted t) done stack n k) i
aborted_on p t done stack n k close h = advance p (aborted t) (all_tested t) done stack n k k _ h refl h.fits
aborted_on p t done stack n k other h = tt

-- the lines that tell a branch, whole
head_whole : (p : Program) (d : ℕ) (who : Guard) (kernel : ℕ) (relays : List Relay) (from : Peer) (tests : List Test) → IsMore tests
    → head p d (told who kernel relays from tests) ≡ all_tested_read p d (told who kernel relays from tests) ++ line d close true ∷ []
head_whole p d who kernel relays from [] some = absurd some
head_whole p d who kernel relays from (t ∷ ts) some =
    regroup (start p d who kernel) (line d else_open true ∷ []) (probe_lines p (d + 1) relays from) (test_lines p (d + 1) t ts) (line (d + 1) else_open true ∷ []) (line (d + 1 + 1) aborts true ∷ []) (line (d + 1) close true ∷ []) (line d close true ∷ []) where
      regroup : (s e r t x y z c : List Line) → s ++ (e ++ (((r ++ t) ++ (x ++ (y ++ z))) ++ c)) ≡ ((((((s ++ e) ++ r) ++ t) ++ x) ++ y) ++ z) ++ c
      regroup s e r t x y z c = simp append_assoc refl

all_tested_on : (p : Program) (t : Told) (done : List Code) (stack : List Frame) (n k : ℕ) (i : Item) → IsGood p (state (all_tested t) done stack n k) → Grows p (state (all_tested t) done stack n k) i
all_tested_on p t done stack n k close h = advance p (all_tested t) (answered t) done stack n k k _ h (head_whole p (depth_of stack) t.who t.kernel t.relays t.from t.tests h.fits) tt
all_tested_on p t done stack n k other h = tt

answered_on : (p : Program) (t : Told) (done : List Code) (stack : List Frame) (n k : ℕ) (i : Item) → IsGood p (state (answered t) done stack n k) → Grows p (state (answered t) done stack n k) i
answered_on p t done stack n k (pick_open branch) h =
    let d = depth_of stack in
    by_test _ (nat_eq branch 0) _ None (λ e. enters p (answered t) done stack n n k k (in_branch t []) _ (omega (arith, h.loops)) (ap (λ x. head p d t ++ line d (pick_open x) true ∷ []) (sym (eqb-true branch 0 e)))) (λ e. tt)
answered_on p t done stack n k other h = tt

-- each step adds its line
pub grows : (p : Program) (w : Wanted) (done : List Code) (stack : List Frame) (n k : ℕ) (i : Item) → IsGood p (state w done stack n k) → Grows p (state w done stack n k) i
grows p statement done stack n k i h = free p done stack n k i h
grows p (made label) done stack n k i h = behind_make p label done stack n k i h
grows p (rooted label root) done stack n k i h = behind_root p label root done stack n k i h
grows p (cast label root) done stack n k i h = taken_out p label root done stack n k i h
grows p (reduced label op root) done stack n k i h = taken_root p label op root done stack n k i h
grows p (allreduced label op) done stack n k i h = taken_all p label op done stack n k i h
grows p (received label from) done stack n k i h = taken_in p label from done stack n k i h
grows p (chosen who kernel) done stack n k i h = choice_on p who kernel done stack n k i h
grows p (asked who kernel) done stack n k i h = asked_on p who kernel done stack n k i h
grows p (relaying who kernel relays guards) done stack n k i h = relaying_on p who kernel relays guards done stack n k i h
grows p (relayed who kernel relays) done stack n k i h = relayed_on p who kernel relays done stack n k i h
grows p (sourced who kernel relays) done stack n k i h = sourced_on p who kernel relays done stack n k i h
grows p (probed who kernel relays from) done stack n k i h = probed_on p who kernel relays from done stack n k i h
grows p (untested who kernel relays from) done stack n k i h = untested_on p who kernel relays from done stack n k i h
grows p (testing t label guards) done stack n k i h = testing_on p t label guards done stack n k i h
grows p (tested t) done stack n k i h = tested_on p t t.tests done stack n k i refl h.fits h
grows p (aborting t) done stack n k i h = aborting_on p t done stack n k i h
grows p (aborted t) done stack n k i h = aborted_on p t done stack n k i h
grows p (all_tested t) done stack n k i h = all_tested_on p t done stack n k i h
grows p (answered t) done stack n k i h = answered_on p t done stack n k i h
