-- What is open can be closed: what was read begins the lines of some statements.
use Rattle.std.proofs.Common.{◌≡◌, ℕ, ◌+◌, cond, List, [], ◌∷◌, ◌++◌, Option, Some, None, refl, sym, ap, subst, ◌∙◌, append_assoc, append-nil}
use Rattle.std.specs.Prelude.{nat_eq}
use Rattle.std.specs.Prelude.{pos}
use Rattle.pb_affine.specs.declared.lin.Base.TheVariants.{Fixed}
use Rattle.pb_affine.specs.declared.guard.Guard.{Guard}
use Rattle.pb_local.specs.declared.stmt.Peer.{Peer}
use Rattle.pb_local.specs.declared.stmt.Relay.{Relay}
use Rattle.pb_local.specs.Tree.{Code, when, for_each, loop, send, recv, run, broadcast, reduce, allreduce, Codes, nothing, codes_of, Program}
use Rattle.pb_ctree.specs.Lines.{Item, close, else_open, takes, root_takes, mpi_send, mpi_bcast, calls, probe, test_open, picks, aborts, pick_open, Line, line}
use Rattle.pb_ctree.specs.Small.{outgoing, incoming}
use Rattle.pb_cread_statements.specs.Reading.{Told, told, with_test, chosen_of, Kind, in_first, in_other, in_for, in_loop_of, in_branch, in_last, Frame, frame, Wanted, statement, made, rooted, cast, reduced, allreduced, received, chosen, asked, relaying, relayed, sourced, probed, untested, testing, tested, aborting, aborted, all_tested, answered, State, state, place, step, rule}
use Rattle.pb_cread_statements.specs.Fronts.{main_lines}
use Rattle.pb_cread_statements.proofs.Small.{eq_self}
use Rattle.pb_cread_statements.proofs.Along.{is_root}
use Rattle.pb_cread_statements.proofs.Written.{written, IsGood, Adds, Every}
use Rattle.pb_cread_statements.proofs.Steps.{grows}

-- some statements' lines go on so
abbrev pub Closed : Program → State → Type 0
Closed p s = (c : Codes) × (tail : List Line) × (main_lines p c ≡ written p s ++ tail)

by_line : (p : Program) (s t : State) (l : Line) → Adds p s t l → (IsGood p t → Closed p t) → Closed p s
by_line p s t l adds f =
    let r = f adds.is_good in
    (r.0, l ∷ r.1, r.2 ∙ ap (λ x. x ++ r.1) adds.line ∙ append_assoc (written p s) (l ∷ []) r.1)

pub every_at : (P : State → Type 0) (o : Option State) (t : State) → o ≡ Some t → Every P o → P t
every_at P o t e h = subst (Every P) e h

-- one line more leads to a state whose lines go on
by_step : (p : Program) (w : Wanted) (done : List Code) (stack : List Frame) (n k : ℕ) (i : Item) (t : State) → IsGood p (state w done stack n k) → step p (state w done stack n k) i ≡ Some t → (IsGood p t → Closed p t) → Closed p (state w done stack n k)
by_step p w done stack n k i t h goes f =
    let s = state w done stack n k in
    by_line p s t (line (place s i) i (rule p s i)) (every_at (λ t. Adds p s t (line (place s i) i (rule p s i))) (step p s i) t goes (grows p w done stack n k i h)) f

abbrev Out : Program → List Frame → Type 0
Out p fs = (done : List Code) (n k : ℕ) → IsGood p (state statement done fs n k) → Closed p (state statement done fs n k)

out : (p : Program) (kind : Kind) (outer : List Code) (fs : List Frame) (done : List Code) (n k : ℕ) → IsGood p (state statement done (frame kind outer ∷ fs) n k) → Out p fs → Closed p (state statement done (frame kind outer ∷ fs) n k)
out p (in_first guards) outer fs done n k h f = by_step p statement done (frame (in_first guards) outer ∷ fs) n k close (state statement (outer ++ when guards (codes_of done) nothing ∷ []) fs n k) h refl (f _ _ _)
out p (in_other guards first) outer fs [] n k h f =
    let s1 = state statement (run 0 ∷ []) (frame (in_other guards first) outer ∷ fs) n (k + 1) in
    let s2 = state statement (outer ++ when guards (codes_of first) (codes_of (run 0 ∷ [])) ∷ []) fs n (k + 1) in
    by_step p statement [] (frame (in_other guards first) outer ∷ fs) n k (calls 0) s1 h refl (λ g. by_step p statement (run 0 ∷ []) (frame (in_other guards first) outer ∷ fs) n (k + 1) close s2 g refl (f _ _ _))
out p (in_other guards first) outer fs (c ∷ cs) n k h f =
    by_step p statement (c ∷ cs) (frame (in_other guards first) outer ∷ fs) n k close (state statement (outer ++ when guards (codes_of first) (codes_of (c ∷ cs)) ∷ []) fs n k) h refl (f _ _ _)
out p (in_for low high) outer fs done n k h f = by_step p statement done (frame (in_for low high) outer ∷ fs) n k close (state statement (outer ++ for_each low high (codes_of done) ∷ []) fs n k) h refl (f _ _ _)
out p (in_loop_of id) outer fs done n k h f = by_step p statement done (frame (in_loop_of id) outer ∷ fs) n k close (state statement (outer ++ loop id (codes_of done) ∷ []) fs n k) h refl (f _ _ _)
out p (in_branch t parts) outer fs done n k h f =
    let s1 = state statement [] (frame (in_last t parts done) outer ∷ fs) n k in
    let s2 = state statement (outer ++ chosen_of t ((parts ++ done ∷ []) ++ [] ∷ []) ∷ []) fs n k in
    by_step p statement done (frame (in_branch t parts) outer ∷ fs) n k else_open s1 h refl (λ g. by_step p statement [] (frame (in_last t parts done) outer ∷ fs) n k close s2 g refl (f _ _ _))
out p (in_last t parts previous) outer fs done n k h f =
    by_step p statement done (frame (in_last t parts previous) outer ∷ fs) n k close (state statement (outer ++ chosen_of t ((parts ++ previous ∷ []) ++ done ∷ []) ∷ []) fs n k) h refl (f _ _ _)

closes_all : (p : Program) (stack : List Frame) → Out p stack
closes_all p [] done n k h = (codes_of done, [], sym (append-nil _ ∙ append-nil _))
closes_all p (f ∷ fs) done n k h = out p f.kind f.outer fs done n k h (closes_all p fs)

-- ---- what is half spelled

nobody : Peer
nobody = record { role = 0; at = record { base = Fixed; off = pos 0 } }

whole_choice : (p : Program) (t : Told) (done : List Code) (stack : List Frame) (n k : ℕ) → IsGood p (state (answered t) done stack n k) → Closed p (state (answered t) done stack n k)
whole_choice p t done stack n k h = by_step p (answered t) done stack n k (pick_open 0) (state statement [] (frame (in_branch t []) done ∷ stack) n k) h refl (closes_all p (frame (in_branch t []) done ∷ stack) [] n k)

all_tests : (p : Program) (t : Told) (done : List Code) (stack : List Frame) (n k : ℕ) → IsGood p (state (all_tested t) done stack n k) → Closed p (state (all_tested t) done stack n k)
all_tests p t done stack n k h = by_step p (all_tested t) done stack n k close (state (answered t) done stack n k) h refl (whole_choice p t done stack n k)

abort_read : (p : Program) (t : Told) (done : List Code) (stack : List Frame) (n k : ℕ) → IsGood p (state (aborted t) done stack n k) → Closed p (state (aborted t) done stack n k)
abort_read p t done stack n k h = by_step p (aborted t) done stack n k close (state (all_tested t) done stack n k) h refl (all_tests p t done stack n k)

abort_wanted : (p : Program) (t : Told) (done : List Code) (stack : List Frame) (n k : ℕ) → IsGood p (state (aborting t) done stack n k) → Closed p (state (aborting t) done stack n k)
abort_wanted p t done stack n k h = by_step p (aborting t) done stack n k aborts (state (aborted t) done stack n k) h refl (abort_read p t done stack n k)

test_read : (p : Program) (t : Told) (done : List Code) (stack : List Frame) (n k : ℕ) → IsGood p (state (tested t) done stack n k) → Closed p (state (tested t) done stack n k)
test_read p t done stack n k h = by_step p (tested t) done stack n k else_open (state (aborting t) done stack n k) h refl (abort_wanted p t done stack n k)

pick_wanted : (p : Program) (t : Told) (label : ℕ) (guards : List Guard) (done : List Code) (stack : List Frame) (n k : ℕ) → IsGood p (state (testing t label guards) done stack n k) → Closed p (state (testing t label guards) done stack n k)
pick_wanted p t label guards done stack n k h =
    let u = with_test t (record { branch = 0; label = label; guards = guards }) in
    by_step p (testing t label guards) done stack n k (picks 0) (state (tested u) done stack n k) h refl (test_read p u done stack n k)

test_wanted : (p : Program) (who : Guard) (kernel : ℕ) (relays : List Relay) (from : Peer) (done : List Code) (stack : List Frame) (n k : ℕ) → IsGood p (state (untested who kernel relays from) done stack n k) → Closed p (state (untested who kernel relays from) done stack n k)
test_wanted p who kernel relays from done stack n k h =
    let t = told who kernel relays from [] in
    by_step p (untested who kernel relays from) done stack n k (test_open 0 []) (state (testing t 0 []) done stack n k) h refl (pick_wanted p t 0 [] done stack n k)

probe_read : (p : Program) (who : Guard) (kernel : ℕ) (relays : List Relay) (from : Peer) (done : List Code) (stack : List Frame) (n k : ℕ) → IsGood p (state (probed who kernel relays from) done stack n k) → Closed p (state (probed who kernel relays from) done stack n k)
probe_read p who kernel relays from done stack n k h = by_step p (probed who kernel relays from) done stack n k close (state (untested who kernel relays from) done stack n k) h refl (test_wanted p who kernel relays from done stack n k)

source_wanted : (p : Program) (who : Guard) (kernel : ℕ) (relays : List Relay) (done : List Code) (stack : List Frame) (n k : ℕ) → IsGood p (state (sourced who kernel relays) done stack n k) → Closed p (state (sourced who kernel relays) done stack n k)
source_wanted p who kernel relays done stack n k h = by_step p (sourced who kernel relays) done stack n k (probe nobody) (state (probed who kernel relays nobody) done stack n k) h refl (probe_read p who kernel relays nobody done stack n k)

relay_read : (p : Program) (who : Guard) (kernel : ℕ) (relays : List Relay) (done : List Code) (stack : List Frame) (n k : ℕ) → IsGood p (state (relayed who kernel relays) done stack n k) → Closed p (state (relayed who kernel relays) done stack n k)
relay_read p who kernel relays done stack n k h = by_step p (relayed who kernel relays) done stack n k else_open (state (sourced who kernel relays) done stack n k) h refl (source_wanted p who kernel relays done stack n k)

relay_wanted : (p : Program) (who : Guard) (kernel : ℕ) (relays : List Relay) (guards : List Guard) (done : List Code) (stack : List Frame) (n k : ℕ) → IsGood p (state (relaying who kernel relays guards) done stack n k) → Closed p (state (relaying who kernel relays guards) done stack n k)
relay_wanted p who kernel relays guards done stack n k h =
    let all = relays ++ record { guards = guards; from = nobody } ∷ [] in
    by_step p (relaying who kernel relays guards) done stack n k (probe nobody) (state (relayed who kernel all) done stack n k) h refl (relay_read p who kernel all done stack n k)

probe_wanted : (p : Program) (who : Guard) (kernel : ℕ) (done : List Code) (stack : List Frame) (n k : ℕ) → IsGood p (state (asked who kernel) done stack n k) → Closed p (state (asked who kernel) done stack n k)
probe_wanted p who kernel done stack n k h = by_step p (asked who kernel) done stack n k (probe nobody) (state (untested who kernel [] nobody) done stack n k) h refl (test_wanted p who kernel [] nobody done stack n k)

if_same : (label : ℕ) (t : State) → cond (nat_eq label label) (Some t) None ≡ Some t
if_same label t = ap (λ b. cond b (Some t) None) (eq_self label)

-- what was read begins the lines of some statements
pub closed : (p : Program) (w : Wanted) (done : List Code) (stack : List Frame) (n k : ℕ) → IsGood p (state w done stack n k) → Closed p (state w done stack n k)
closed p statement done stack n k h = closes_all p stack done n k h
closed p (made label) done stack n k h =
    let t = state statement (done ++ send label nobody ∷ []) stack n k in
    by_step p (made label) done stack n k (mpi_send label nobody) t h (if_same label t) (closes_all p stack _ _ _)
closed p (rooted label root) done stack n k h =
    let s = state (cast label root) done stack n k in
    let t = state statement (done ++ broadcast label root ∷ []) stack n k in
    by_step p (rooted label root) done stack n k (mpi_bcast label root) s h (ap (λ b. cond b (Some s) None) (is_root label root)) (λ g. by_step p (cast label root) done stack n k (takes label outgoing) t g (if_same label t) (closes_all p stack _ _ _))
closed p (cast label root) done stack n k h =
    let t = state statement (done ++ broadcast label root ∷ []) stack n k in
    by_step p (cast label root) done stack n k (takes label outgoing) t h (if_same label t) (closes_all p stack _ _ _)
closed p (reduced label op root) done stack n k h =
    let t = state statement (done ++ reduce label op root ∷ []) stack n k in
    by_step p (reduced label op root) done stack n k (root_takes root label) t h (ap (λ b. cond b (Some t) None) (is_root label root)) (closes_all p stack _ _ _)
closed p (allreduced label op) done stack n k h =
    let t = state statement (done ++ allreduce label op ∷ []) stack n k in
    by_step p (allreduced label op) done stack n k (takes label incoming) t h (if_same label t) (closes_all p stack _ _ _)
closed p (received label from) done stack n k h =
    let t = state statement (done ++ recv label from ∷ []) stack n k in
    by_step p (received label from) done stack n k (takes label incoming) t h (if_same label t) (closes_all p stack _ _ _)
closed p (chosen who kernel) done stack n k h = by_step p (chosen who kernel) done stack n k else_open (state (asked who kernel) done stack n k) h refl (probe_wanted p who kernel done stack n k)
closed p (asked who kernel) done stack n k h = probe_wanted p who kernel done stack n k h
closed p (relaying who kernel relays guards) done stack n k h = relay_wanted p who kernel relays guards done stack n k h
closed p (relayed who kernel relays) done stack n k h = relay_read p who kernel relays done stack n k h
closed p (sourced who kernel relays) done stack n k h = source_wanted p who kernel relays done stack n k h
closed p (probed who kernel relays from) done stack n k h = probe_read p who kernel relays from done stack n k h
closed p (untested who kernel relays from) done stack n k h = test_wanted p who kernel relays from done stack n k h
closed p (testing t label guards) done stack n k h = pick_wanted p t label guards done stack n k h
closed p (tested t) done stack n k h = test_read p t done stack n k h
closed p (aborting t) done stack n k h = abort_wanted p t done stack n k h
closed p (aborted t) done stack n k h = abort_read p t done stack n k h
closed p (all_tested t) done stack n k h = all_tests p t done stack n k h
closed p (answered t) done stack n k h = whole_choice p t done stack n k h
