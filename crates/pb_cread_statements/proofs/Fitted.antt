-- What goes on fits, however many lines stand before it: each line's numbers are those of its rule, or of what was read before.
use Rattle.std.proofs.Common.{◌≡◌, ℕ, suc, ◌+◌, ◌<◌, ◌≤◌, Bool, true, false, cond, List, [], ◌∷◌, ◌++◌, length, Option, Some, None, refl, subst, arith, eqb-true}
use Rattle.std.specs.Prelude.{nat_eq, nat_lt, ◌^◌, ◌&&◌}
use Rattle.std.proofs.lemmas.Bool.{ltb-true}
use Rattle.pb_affine.specs.declared.lin.Lin.{Lin}
use Rattle.pb_affine.specs.declared.guard.Guard.{Guard}
use Rattle.pb_syntax.specs.declared.tree.Op.{Op}
use Rattle.pb_local.specs.declared.stmt.Peer.{Peer}
use Rattle.pb_local.specs.declared.stmt.Relay.{Relay}
use Rattle.pb_local.specs.declared.stmt.Test.{Test}
use Rattle.pb_local.specs.Tree.{Code, Program}
use Rattle.pb_ctree.specs.Lines.{Item, close, else_open, if_open, else_if_open, for_open, own_is, loop_open, goto, makes, root_makes, takes, root_takes, mpi_send, mpi_recv, mpi_barrier, mpi_bcast, mpi_reduce, mpi_allreduce, calls, chooses, probe, test_open, else_test_open, picks, aborts, pick_open, else_pick_open}
use Rattle.pb_ctree.specs.Rules.{is_offset, are_guards, is_peer, is_label, is_wordy, goes_with, is_chooser, can_choose, comes_after}
use Rattle.pb_ctree.specs.Small.{outgoing, incoming, payload_of}
use Rattle.pb_cread_lines.specs.Fits.{FitsNumber, FitsPeer, HasLabel, Fits}
use Rattle.pb_cread_lines.specs.Head.{HasHead}
use Rattle.pb_cread_statements.specs.Reading.{Told, told, with_test, Kind, in_first, in_other, in_for, in_loop_of, in_branch, in_last, Frame, frame, Wanted, statement, made, rooted, cast, reduced, allreduced, received, chosen, asked, relaying, relayed, sourced, probed, untested, testing, tested, aborting, aborted, all_tested, answered, State, state, nothing_read, depth_of, place, place_at, free_place, inside, open_braces, close_in, else_in, branch_in, choose_in, free_step, is_same_peer, untold, step, ids_of, around, chooser_rule, free_rule, rule, last_of, goes_on, Place, then_read, read}
use Rattle.pb_cread_statements.specs.Fitting.{FitsWhatGoesOn}
use Rattle.pb_cread_statements.proofs.Small.{left, right}
use Rattle.pb_cread_statements.proofs.Written.{Every, by_test}
use Rattle.pb_cread_statements.proofs.Closed.{every_at}
use Rattle.pb_cread_statements.proofs.Numbers.{offset_fits, guards_fit, peer_fits, root_fits, label_there, label_fits, computing_there, choosing_there, label_as, peer_as, Below, below_more, below_found}

-- a loop that begins has the next number, and one that is named an earlier one
abbrev pub FitsAt : Program → ℕ → Item → Type 0
FitsAt p loops (loop_open id) = id ≡ loops
FitsAt p loops (goto id) = id < loops
FitsAt p loops other = Fits p other

-- what fits of a statement that is half spelled
abbrev pub Holds : Program → Wanted → Type 0
Holds p (made label) = HasLabel p label
Holds p (rooted label root) = HasLabel p label × FitsPeer p root
Holds p (cast label root) = HasLabel p label
Holds p (reduced label op root) = HasLabel p label × FitsPeer p root
Holds p (allreduced label op) = HasLabel p label
Holds p (received label from) = HasLabel p label
Holds p other = Unit {0}

pub record Keeps (p : Program) (s : State) : Type 0 where
  pub loops : s.loops ≤ s.begun
  pub around : Below s.loops (around s.stack)
  pub wanted : Holds p s.wanted

-- the line fits, apart from the number of a loop, and the state behind it keeps what is kept
pub record Kept (p : Program) (loops : ℕ) (i : Item) (t : State) : Type 0 where
  pub fits : FitsAt p loops i
  pub next : Keeps p t
  pub more : loops ≤ t.loops

-- ---- the kinds of steps

-- a line that isn't a loop's, behind which the same loops are around
goes : (p : Program) (w v : Wanted) (done now : List Code) (stack fs : List Frame) (n k j : ℕ) (i : Item) → Keeps p (state w done stack n k) → k ≤ j → Below n (around fs) → Holds p v → FitsAt p n i → Kept p n i (state v now fs n j)
goes p w v done now stack fs n k j i h more below holds fits = record { fits = fits; next = record { loops = omega (arith, h.loops, more); around = below; wanted = holds }; more = omega arith }

-- a further line of a statement
on : (p : Program) (w v : Wanted) (done now : List Code) (stack : List Frame) (n k : ℕ) (i : Item) → Keeps p (state w done stack n k) → Holds p v → FitsAt p n i → Kept p n i (state v now stack n k)
on p w v done now stack n k i h holds fits = goes p w v done now stack stack n k k i h (omega arith) h.around holds fits

-- the first line of a statement
first : (p : Program) (v : Wanted) (done now : List Code) (stack : List Frame) (n k : ℕ) (i : Item) → Keeps p (state statement done stack n k) → Holds p v → FitsAt p n i → Kept p n i (state v now stack n (k + 1))
first p v done now stack n k i h holds fits = goes p statement v done now stack stack n k (k + 1) i h (omega arith) h.around holds fits

-- the loops around a brace
outside : (n : ℕ) (kind : Kind) (ids : List ℕ) → Below n (ids_of kind ids) → Below n ids
outside n (in_loop_of id) ids h = h.1
outside n other ids h = h

-- ---- braces

closed : (p : Program) (done : List Code) (kind : Kind) (outer : List Code) (fs : List Frame) (n k : ℕ) → Keeps p (state statement done (frame kind outer ∷ fs) n k) → Every (Kept p n close) (close_in (state statement done (frame kind outer ∷ fs) n k) kind outer fs)
closed p done (in_first guards) outer fs n k h = goes p statement statement done _ _ fs n k k close h (omega arith) h.around tt tt
closed p [] (in_other guards first) outer fs n k h = tt
closed p (c ∷ cs) (in_other guards first) outer fs n k h = goes p statement statement (c ∷ cs) _ _ fs n k k close h (omega arith) h.around tt tt
closed p done (in_for low high) outer fs n k h = goes p statement statement done _ _ fs n k k close h (omega arith) h.around tt tt
closed p done (in_loop_of id) outer fs n k h = goes p statement statement done _ _ fs n k k close h (omega arith) (outside n (in_loop_of id) (around fs) h.around) tt tt
closed p done (in_branch t parts) outer fs n k h = tt
closed p done (in_last t parts previous) outer fs n k h = goes p statement statement done _ _ fs n k k close h (omega arith) h.around tt tt

turned_on : (p : Program) (done : List Code) (kind : Kind) (outer : List Code) (fs : List Frame) (n k : ℕ) → Keeps p (state statement done (frame kind outer ∷ fs) n k) → Every (Kept p n else_open) (else_in (state statement done (frame kind outer ∷ fs) n k) kind outer fs)
turned_on p done (in_first guards) outer fs n k h = goes p statement statement done [] _ (frame (in_other guards done) outer ∷ fs) n k k else_open h (omega arith) h.around tt tt
turned_on p done (in_branch t parts) outer fs n k h = goes p statement statement done [] _ (frame (in_last t parts done) outer ∷ fs) n k k else_open h (omega arith) h.around tt tt
turned_on p done other outer fs n k h = tt

small_branch : (branch : ℕ) → nat_lt branch 64 ≡ true → FitsNumber branch
small_branch branch e = omega (arith, ltb-true branch 64 e)

branched : (p : Program) (done : List Code) (branch : ℕ) (kind : Kind) (outer : List Code) (fs : List Frame) (n k : ℕ) → Keeps p (state statement done (frame kind outer ∷ fs) n k) → nat_lt branch 64 ≡ true
    → Every (Kept p n (else_pick_open branch)) (branch_in (state statement done (frame kind outer ∷ fs) n k) branch kind outer fs)
branched p done branch (in_branch t parts) outer fs n k h e =
    by_test _ (nat_eq branch (suc (length parts))) _ None
    (λ is. goes p statement statement done [] _ (frame (in_branch t (parts ++ done ∷ [])) outer ∷ fs) n k k (else_pick_open branch) h (omega arith) h.around tt (small_branch branch e)) (λ is. tt)
branched p done branch other outer fs n k h e = tt

choosing : (p : Program) (done : List Code) (kernel : ℕ) (kind : Kind) (outer : List Code) (fs : List Frame) (n k : ℕ) → Keeps p (state statement done (frame kind outer ∷ fs) n k) → chooser_rule p kernel (frame kind outer ∷ fs) ≡ true
    → Every (Kept p n (chooses kernel)) (choose_in (state statement done (frame kind outer ∷ fs) n k) kernel kind done outer fs)
choosing p [] kernel (in_first (who ∷ [])) outer fs n k h e =
    goes p statement (chosen who kernel) [] outer _ fs n k k (chooses kernel) h (omega arith) h.around tt (choosing_there p kernel (right (is_chooser who) (can_choose p kernel) e))
choosing p [] kernel other outer fs n k h e = tt
choosing p (c ∷ cs) kernel (in_first (who ∷ [])) outer fs n k h e = tt
choosing p (c ∷ cs) kernel other outer fs n k h e = tt

-- ---- lines where no statement is half spelled

enters_loop : (p : Program) (done : List Code) (stack : List Frame) (n k id : ℕ) → Keeps p (state statement done stack n k) → nat_eq id n ≡ true → Kept p n (loop_open id) (state statement [] (frame (in_loop_of id) done ∷ stack) (n + 1) (k + 1))
enters_loop p done stack n k id h e =
    let is : id ≡ n = eqb-true id n e in
    record {
      fits = is;
      next = record { loops = omega (arith, h.loops); around = (omega (arith, is), below_more n (around stack) h.around); wanted = tt };
      more = omega arith;
    }

goes_back : (p : Program) (done now : List Code) (stack : List Frame) (n k id : ℕ) → Keeps p (state statement done stack n k) → free_rule p (state statement done stack n k) (goto id) ≡ true → Kept p n (goto id) (state statement now stack n (k + 1))
goes_back p done now stack n k id h e =
    let below = below_found n id (around stack) e h.around in
    record { fits = below; next = record { loops = omega (arith, h.loops); around = h.around; wanted = tt }; more = omega arith }

free : (p : Program) (done : List Code) (stack : List Frame) (n k : ℕ) (i : Item) → HasHead p → Keeps p (state statement done stack n k) → free_rule p (state statement done stack n k) i ≡ true → Every (Kept p n i) (free_step p (state statement done stack n k) i)
free p done stack n k (if_open guards) head h e = goes p statement statement done [] stack (frame (in_first guards) done ∷ stack) n k (k + 1) (if_open guards) h (omega arith) h.around tt (guards_fit p guards head e)
free p done stack n k (for_open low high) head h e =
    goes p statement statement done [] stack (frame (in_for low high) done ∷ stack) n k (k + 1) (for_open low high) h (omega arith) h.around tt
    (offset_fits low.off (left (is_offset low.off) (is_offset high.off) e), offset_fits high.off (right (is_offset low.off) (is_offset high.off) e))
free p done stack n k (loop_open id) head h e = enters_loop p done stack n k id h e
free p done [] n k close head h e = tt
free p done (f ∷ fs) n k close head h e = closed p done f.kind f.outer fs n k h
free p done [] n k else_open head h e = tt
free p done (f ∷ fs) n k else_open head h e = turned_on p done f.kind f.outer fs n k h
free p done [] n k (else_pick_open branch) head h e = tt
free p done (f ∷ fs) n k (else_pick_open branch) head h e = branched p done branch f.kind f.outer fs n k h e
free p done [] n k (chooses kernel) head h e = tt
free p done (f ∷ fs) n k (chooses kernel) head h e = choosing p done kernel f.kind f.outer fs n k h e
free p done stack n k (own_is off) head h e = first p statement done _ stack n k (own_is off) h tt (offset_fits off e)
free p done stack n k (goto id) head h e = goes_back p done _ stack n k id h e
free p done stack n k mpi_barrier head h e = first p statement done _ stack n k mpi_barrier h tt tt
free p done stack n k (calls kernel) head h e = first p statement done _ stack n k (calls kernel) h tt (computing_there p kernel e)
free p done stack n k (makes label) head h e = by_test _ (is_wordy p label) _ None (λ wordy. first p (made label) done _ stack n k (makes label) h (label_there p label e) (label_there p label e)) (λ wordy. tt)
free p done stack n k (root_makes root label) head h e =
    let there = label_there p label (left (is_label p label) (is_wordy p label) (left (is_label p label && is_wordy p label) (is_peer p root) e)) in
    let peer = peer_fits p root (right (is_label p label && is_wordy p label) (is_peer p root) e) in
    first p (rooted label root) done _ stack n k (root_makes root label) h (there, peer) (root_fits p root head peer, there)
free p done stack n k (mpi_send label to) head h e =
    let fits = label_fits p label head (left (is_label p label) (is_peer p to) e) in
    let peer = peer_fits p to (right (is_label p label) (is_peer p to) e) in
    by_test _ (is_wordy p label) None _ (λ wordy. tt) (λ wordy. first p statement done _ stack n k (mpi_send label to) h tt (fits, peer))
free p done stack n k (mpi_recv label from) head h e =
    let there = left (is_label p label) (is_peer p from) e in
    let peer = peer_fits p from (right (is_label p label) (is_peer p from) e) in
    by_test _ (is_wordy p label) _ _ (λ wordy. first p (received label from) done _ stack n k (mpi_recv label from) h (label_there p label there) (label_fits p label head there, peer))
    (λ wordy. first p statement done _ stack n k (mpi_recv label from) h tt (label_fits p label head there, peer))
free p done stack n k other head h e = tt

-- ---- further lines

asks : (p : Program) (who : Guard) (kernel : ℕ) (done : List Code) (stack : List Frame) (n k : ℕ) (low : Option Lin) → Keeps p (state (chosen who kernel) done stack n k) → Every (Kept p n close) (untold (state (chosen who kernel) done stack n k) who kernel low)
asks p who kernel done stack n k None h = tt
asks p who kernel done stack n k (Some low) h = on p (chosen who kernel) (answered (told who kernel [] (record { role = who.role; at = low }) [])) done done stack n k close h tt tt

tested_fits : (p : Program) (label : ℕ) (guards : List Guard) → HasHead p → (is_label p label && are_guards p guards) ≡ true → Fits p (test_open label guards)
tested_fits p label guards head e = (label_fits p label head (left (is_label p label) (are_guards p guards) e), guards_fit p guards head (right (is_label p label) (are_guards p guards) e))

picked_fits : (branch : ℕ) (b : Bool) → (nat_lt branch (2 ^ 32) && b) ≡ true → FitsNumber branch
picked_fits branch b e = ltb-true branch (2 ^ 32) (left (nat_lt branch (2 ^ 32)) b e)

keeps : (p : Program) (w : Wanted) (done : List Code) (stack : List Frame) (n k : ℕ) (i : Item) → HasHead p → Keeps p (state w done stack n k) → rule p (state w done stack n k) i ≡ true → Every (Kept p n i) (step p (state w done stack n k) i)
keeps p statement done stack n k i head h e = free p done stack n k i head h e
keeps p (made same) done stack n k (mpi_send label to) head h e =
    let fits = label_fits p label head (left (is_label p label) (is_peer p to) e) in
    let peer = peer_fits p to (right (is_label p label) (is_peer p to) e) in
    by_test _ (nat_eq label same) _ None (λ is. on p (made same) statement done _ stack n k (mpi_send label to) h tt (fits, peer)) (λ is. tt)
keeps p (made same) done stack n k (mpi_reduce label op root) head h e =
    let peer = peer_fits p root (right (goes_with op (payload_of p label)) (is_peer p root) e) in
    by_test _ (nat_eq label same) _ None (λ is. let there = label_as p label same is h.wanted in on p (made same) (reduced label op root) done _ stack n k (mpi_reduce label op root) h (there, peer) (there, peer)) (λ is. tt)
keeps p (made same) done stack n k (mpi_allreduce label op) head h e =
    by_test _ (nat_eq label same) _ None (λ is. let there = label_as p label same is h.wanted in on p (made same) (allreduced label op) done _ stack n k (mpi_allreduce label op) h there there) (λ is. tt)
keeps p (made same) done stack n k other head h e = tt
keeps p (rooted same root) done stack n k (mpi_bcast label at) head h e =
    by_test _ (nat_eq label same && is_same_peer at root) _ None
    (λ is. let there = label_as p label same (left (nat_eq label same) (is_same_peer at root) is) h.wanted.0 in on p (rooted same root) (cast label at) done _ stack n k (mpi_bcast label at) h there (there, peer_as p at root (right (nat_eq label same) (is_same_peer at root) is) h.wanted.1)) (λ is. tt)
keeps p (rooted same root) done stack n k other head h e = tt
keeps p (cast same root) done stack n k (takes label outgoing) head h e = by_test _ (nat_eq label same) _ None (λ is. on p (cast same root) statement done _ stack n k (takes label outgoing) h tt (label_as p label same is h.wanted)) (λ is. tt)
keeps p (cast same root) done stack n k other head h e = tt
keeps p (reduced same op root) done stack n k (root_takes at label) head h e =
    by_test _ (nat_eq label same && is_same_peer at root) _ None
    (λ is. on p (reduced same op root) statement done _ stack n k (root_takes at label) h tt
    (root_fits p at head (peer_as p at root (right (nat_eq label same) (is_same_peer at root) is) h.wanted.1), label_as p label same (left (nat_eq label same) (is_same_peer at root) is) h.wanted.0)) (λ is. tt)
keeps p (reduced same op root) done stack n k other head h e = tt
keeps p (allreduced same op) done stack n k (takes label incoming) head h e = by_test _ (nat_eq label same) _ None (λ is. on p (allreduced same op) statement done _ stack n k (takes label incoming) h tt (label_as p label same is h.wanted)) (λ is. tt)
keeps p (allreduced same op) done stack n k other head h e = tt
keeps p (received same from) done stack n k (takes label incoming) head h e = by_test _ (nat_eq label same) _ None (λ is. on p (received same from) statement done _ stack n k (takes label incoming) h tt (label_as p label same is h.wanted)) (λ is. tt)
keeps p (received same from) done stack n k other head h e = tt
keeps p (chosen who kernel) done stack n k close head h e = asks p who kernel done stack n k who.low h
keeps p (chosen who kernel) done stack n k else_open head h e = on p (chosen who kernel) (asked who kernel) done _ stack n k else_open h tt tt
keeps p (chosen who kernel) done stack n k other head h e = tt
keeps p (asked who kernel) done stack n k (probe from) head h e = on p (asked who kernel) (untested who kernel [] from) done _ stack n k (probe from) h tt (peer_fits p from e)
keeps p (asked who kernel) done stack n k (if_open guards) head h e = on p (asked who kernel) (relaying who kernel [] guards) done _ stack n k (if_open guards) h tt (guards_fit p guards head e)
keeps p (asked who kernel) done stack n k other head h e = tt
keeps p (relaying who kernel relays guards) done stack n k (probe from) head h e =
    on p (relaying who kernel relays guards) (relayed who kernel (relays ++ record { guards = guards; from = from } ∷ [])) done _ stack n k (probe from) h tt (peer_fits p from e)
keeps p (relaying who kernel relays guards) done stack n k other head h e = tt
keeps p (relayed who kernel relays) done stack n k (else_if_open guards) head h e = on p (relayed who kernel relays) (relaying who kernel relays guards) done _ stack n k (else_if_open guards) h tt (guards_fit p guards head e)
keeps p (relayed who kernel relays) done stack n k else_open head h e = on p (relayed who kernel relays) (sourced who kernel relays) done _ stack n k else_open h tt tt
keeps p (relayed who kernel relays) done stack n k other head h e = tt
keeps p (sourced who kernel relays) done stack n k (probe from) head h e = on p (sourced who kernel relays) (probed who kernel relays from) done _ stack n k (probe from) h tt (peer_fits p from e)
keeps p (sourced who kernel relays) done stack n k other head h e = tt
keeps p (probed who kernel relays from) done stack n k close head h e = on p (probed who kernel relays from) (untested who kernel relays from) done _ stack n k close h tt tt
keeps p (probed who kernel relays from) done stack n k other head h e = tt
keeps p (untested who kernel relays from) done stack n k (test_open label guards) head h e =
    on p (untested who kernel relays from) (testing (told who kernel relays from []) label guards) done _ stack n k (test_open label guards) h tt (tested_fits p label guards head e)
keeps p (untested who kernel relays from) done stack n k other head h e = tt
keeps p (testing t label guards) done stack n k (picks branch) head h e =
    let test : Test = record { branch = branch; label = label; guards = guards } in
    on p (testing t label guards) (tested (with_test t test)) done _ stack n k (picks branch) h tt (picked_fits branch (comes_after (last_of t.tests) test) e)
keeps p (testing t label guards) done stack n k other head h e = tt
keeps p (tested t) done stack n k (else_test_open label guards) head h e = on p (tested t) (testing t label guards) done _ stack n k (else_test_open label guards) h tt (tested_fits p label guards head e)
keeps p (tested t) done stack n k else_open head h e = on p (tested t) (aborting t) done _ stack n k else_open h tt tt
keeps p (tested t) done stack n k other head h e = tt
keeps p (aborting t) done stack n k aborts head h e = on p (aborting t) (aborted t) done _ stack n k aborts h tt tt
keeps p (aborting t) done stack n k other head h e = tt
keeps p (aborted t) done stack n k close head h e = on p (aborted t) (all_tested t) done _ stack n k close h tt tt
keeps p (aborted t) done stack n k other head h e = tt
keeps p (all_tested t) done stack n k close head h e = on p (all_tested t) (answered t) done _ stack n k close h tt tt
keeps p (all_tested t) done stack n k other head h e = tt
keeps p (answered t) done stack n k (pick_open branch) head h e =
    by_test _ (nat_eq branch 0) _ None (λ is. goes p (answered t) statement done [] stack (frame (in_branch t []) done ∷ stack) n k k (pick_open branch) h (omega arith) h.around tt (omega (arith, eqb-true branch 0 is))) (λ is. tt)
keeps p (answered t) done stack n k other head h e = tt

-- ---- lines in a row

both : (b : Bool) (o : Option State) (t : State) → cond b o None ≡ Some t → (b ≡ true) × (o ≡ Some t)
both true o t e = (refl, e)
both false o t e = absurd cc

pub goes_keeps : (p : Program) (s t : State) (depth : ℕ) (i : Item) → HasHead p → Keeps p s → goes_on p s depth i ≡ Some t → Kept p s.loops i t
goes_keeps p s t depth i head h e =
    let r = both (nat_eq depth (place s i) && rule p s i) (step p s i) t e in
    let rules = right (nat_eq depth (place s i)) (rule p s i) r.0 in
    every_at (Kept p s.loops i) (step p s i) t r.1 (keeps p s.wanted s.done s.stack s.loops s.begun i head h rules)

pub first_read : (p : Program) (o : Option State) (is : List Place) (t : State) → then_read o (read p is) ≡ Some t → (n : State) × (o ≡ Some n) × (read p is n ≡ Some t)
first_read p None is t e = absurd cc
first_read p (Some n) is t e = (n, refl, e)

some_is : (s t : State) → ◌≡◌ {A = Option State} (Some s) (Some t) → s ≡ t
some_is s t e = cc

pub record Reads (p : Program) (s t : State) : Type 0 where
  pub keeps : Keeps p t
  pub more : s.loops ≤ t.loops

-- what is kept goes on to be kept, and loops only become more
pub read_keeps : (p : Program) (is : List Place) (s t : State) → HasHead p → Keeps p s → read p is s ≡ Some t → Reads p s t
read_keeps p [] s t head h e = subst (Reads p s) (some_is s t e) (record { keeps = h; more = omega arith })
read_keeps p (i ∷ is) s t head h e =
    let r = first_read p (goes_on p s i.depth i.item) is t e in
    let k = goes_keeps p s r.0 i.depth i.item head h r.1 in
    let rest = read_keeps p is r.0 t head k.next r.2 in
    record { keeps = rest.keeps; more = omega (arith, k.more, rest.more) }

pub start : (p : Program) → Keeps p nothing_read
start p = record { loops = omega arith; around = tt; wanted = tt }

-- ---- where there are few loops

few_fit : (p : Program) (loops : ℕ) (i : Item) → loops ≤ 50000 → FitsAt p loops i → Fits p i
few_fit p loops (loop_open id) few is = omega (arith, is, few)
few_fit p loops (goto id) few below = omega (arith, below, few)
few_fit p loops other few fits = fits

stands : (p : Program) (s t : State) (depth : ℕ) (i : Item) → goes_on p s depth i ≡ Some t → depth ≡ place s i
stands p s t depth i e =
    let r = both (nat_eq depth (place s i) && rule p s i) (step p s i) t e in
    eqb-true depth (place s i) (left (nat_eq depth (place s i)) (rule p s i) r.0)

-- a line stands at most one deeper than the braces that are open
free_deep : (stack : List Frame) (i : Item) → free_place stack i ≤ depth_of stack
free_deep [] close = omega arith
free_deep (f ∷ fs) close = omega arith
free_deep [] else_open = omega arith
free_deep (f ∷ fs) else_open = omega arith
free_deep [] (else_pick_open branch) = omega arith
free_deep (f ∷ fs) (else_pick_open branch) = omega arith
free_deep stack other = omega arith

deep : (stack : List Frame) (w : Wanted) (i : Item) → place_at stack w i ≤ depth_of stack + inside w + 1
deep stack statement i = omega (arith, free_deep stack i)
deep stack other i = omega arith

pub fits : FitsWhatGoesOn
fits p items s t depth item head was few shallow e =
    let h = (read_keeps p items nothing_read s head (start p) was).keeps in
    let there = stands p s t depth item e in
    let r = goes_keeps p s t depth item head h e in
    (omega (arith, there, deep s.stack s.wanted item, shallow), few_fit p s.loops item (omega (arith, h.loops, few)) r.fits)
