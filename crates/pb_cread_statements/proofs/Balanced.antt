-- Each step opens and closes the braces of its line.
use Rattle.std.proofs.Common.{◌≡◌, ℕ, suc, ◌+◌, Bool, List, [], ◌∷◌, length, Option, Some, None, refl, arith}
use Rattle.std.specs.Prelude.{nat_eq, ◌&&◌}
use Rattle.pb_affine.specs.declared.lin.Lin.{Lin}
use Rattle.pb_affine.specs.declared.guard.Guard.{Guard}
use Rattle.pb_local.specs.Tree.{Code, Program}
use Rattle.pb_ctree.specs.Lines.{Item, close, else_open, if_open, else_if_open, for_open, own_is, loop_open, goto, makes, root_makes, takes, root_takes, mpi_send, mpi_recv, mpi_barrier, mpi_bcast, mpi_reduce, mpi_allreduce, calls, chooses, probe, test_open, else_test_open, picks, aborts, pick_open, else_pick_open}
use Rattle.pb_ctree.specs.Rules.{is_wordy}
use Rattle.pb_ctree.specs.Small.{outgoing, incoming}
use Rattle.pb_cread_statements.specs.Reading.{Kind, in_first, in_other, in_for, in_loop_of, in_branch, in_last, Frame, frame, Wanted, statement, made, rooted, cast, reduced, allreduced, received, chosen, asked, relaying, relayed, sourced, probed, untested, testing, tested, aborting, aborted, all_tested, answered, State, state, close_in, else_in, branch_in, choose_in, is_same_peer, untold, step}
use Rattle.pb_cread_statements.specs.Marks.{counted, opens, closes}
use Rattle.pb_cread_statements.specs.Reading.{open_braces}
use Rattle.pb_cread_statements.proofs.Written.{Every, by_test}

abbrev pub number : Bool → ℕ
number b = counted b 0

abbrev pub Balanced : State → Item → State → Type 0
Balanced s i t = open_braces t + number (closes i) ≡ open_braces s + number (opens i)

abbrev Balances : Program → State → Item → Type 0
Balances p s i = Every (Balanced s i) (step p s i)

close_balanced : (done : List Code) (kind : Kind) (outer : List Code) (fs : List Frame) (n k : ℕ) → Every (Balanced (state statement done (frame kind outer ∷ fs) n k) close) (close_in (state statement done (frame kind outer ∷ fs) n k) kind outer fs)
close_balanced done (in_first guards) outer fs n k = omega arith
close_balanced [] (in_other guards first) outer fs n k = tt
close_balanced (c ∷ cs) (in_other guards first) outer fs n k = omega arith
close_balanced done (in_for low high) outer fs n k = omega arith
close_balanced done (in_loop_of id) outer fs n k = omega arith
close_balanced done (in_branch t parts) outer fs n k = tt
close_balanced done (in_last t parts previous) outer fs n k = omega arith

else_balanced : (done : List Code) (kind : Kind) (outer : List Code) (fs : List Frame) (n k : ℕ) → Every (Balanced (state statement done (frame kind outer ∷ fs) n k) else_open) (else_in (state statement done (frame kind outer ∷ fs) n k) kind outer fs)
else_balanced done (in_first guards) outer fs n k = refl
else_balanced done (in_branch t parts) outer fs n k = refl
else_balanced done other outer fs n k = tt

branch_balanced : (done : List Code) (branch : ℕ) (kind : Kind) (outer : List Code) (fs : List Frame) (n k : ℕ)
    → Every (Balanced (state statement done (frame kind outer ∷ fs) n k) (else_pick_open branch)) (branch_in (state statement done (frame kind outer ∷ fs) n k) branch kind outer fs)
branch_balanced done branch (in_branch t parts) outer fs n k = by_test _ (nat_eq branch (suc (length parts))) _ None (λ e. refl) (λ e. tt)
branch_balanced done branch other outer fs n k = tt

choose_balanced : (done : List Code) (kernel : ℕ) (kind : Kind) (outer : List Code) (fs : List Frame) (n k : ℕ)
    → Every (Balanced (state statement done (frame kind outer ∷ fs) n k) (chooses kernel)) (choose_in (state statement done (frame kind outer ∷ fs) n k) kernel kind done outer fs)
choose_balanced [] kernel (in_first (who ∷ [])) outer fs n k = omega arith
choose_balanced [] kernel other outer fs n k = tt
choose_balanced (c ∷ cs) kernel (in_first (who ∷ [])) outer fs n k = tt
choose_balanced (c ∷ cs) kernel other outer fs n k = tt

free_balanced : (p : Program) (done : List Code) (stack : List Frame) (n k : ℕ) (i : Item) → Balances p (state statement done stack n k) i
free_balanced p done stack n k (if_open guards) = omega arith
free_balanced p done stack n k (for_open low high) = omega arith
free_balanced p done stack n k (loop_open id) = omega arith
free_balanced p done [] n k close = tt
free_balanced p done (f ∷ fs) n k close = close_balanced done f.kind f.outer fs n k
free_balanced p done [] n k else_open = tt
free_balanced p done (f ∷ fs) n k else_open = else_balanced done f.kind f.outer fs n k
free_balanced p done [] n k (else_pick_open branch) = tt
free_balanced p done (f ∷ fs) n k (else_pick_open branch) = branch_balanced done branch f.kind f.outer fs n k
free_balanced p done [] n k (chooses kernel) = tt
free_balanced p done (f ∷ fs) n k (chooses kernel) = choose_balanced done kernel f.kind f.outer fs n k
free_balanced p done stack n k (own_is off) = refl
free_balanced p done stack n k (goto id) = refl
free_balanced p done stack n k mpi_barrier = refl
free_balanced p done stack n k (calls kernel) = refl
free_balanced p done stack n k (makes label) = by_test _ (is_wordy p label) _ None (λ e. refl) (λ e. tt)
free_balanced p done stack n k (root_makes root label) = refl
free_balanced p done stack n k (mpi_send label to) = by_test _ (is_wordy p label) None _ (λ e. tt) (λ e. refl)
free_balanced p done stack n k (mpi_recv label from) = by_test _ (is_wordy p label) _ _ (λ e. refl) (λ e. refl)
free_balanced p done stack n k other = tt

untold_balanced : (who : Guard) (kernel : ℕ) (done : List Code) (stack : List Frame) (n k : ℕ) (low : Option Lin) → Every (Balanced (state (chosen who kernel) done stack n k) close) (untold (state (chosen who kernel) done stack n k) who kernel low)
untold_balanced who kernel done stack n k None = tt
untold_balanced who kernel done stack n k (Some low) = omega arith

pub balanced : (p : Program) (w : Wanted) (done : List Code) (stack : List Frame) (n k : ℕ) (i : Item) → Balances p (state w done stack n k) i
balanced p statement done stack n k i = free_balanced p done stack n k i
balanced p (made same) done stack n k (mpi_send label to) = by_test _ (nat_eq label same) _ None (λ e. refl) (λ e. tt)
balanced p (made same) done stack n k (mpi_reduce label op root) = by_test _ (nat_eq label same) _ None (λ e. refl) (λ e. tt)
balanced p (made same) done stack n k (mpi_allreduce label op) = by_test _ (nat_eq label same) _ None (λ e. refl) (λ e. tt)
balanced p (made same) done stack n k other = tt
balanced p (rooted same root) done stack n k (mpi_bcast label at) = by_test _ (nat_eq label same && is_same_peer at root) _ None (λ e. refl) (λ e. tt)
balanced p (rooted same root) done stack n k other = tt
balanced p (cast same root) done stack n k (takes label outgoing) = by_test _ (nat_eq label same) _ None (λ e. refl) (λ e. tt)
balanced p (cast same root) done stack n k other = tt
balanced p (reduced same op root) done stack n k (root_takes at label) = by_test _ (nat_eq label same && is_same_peer at root) _ None (λ e. refl) (λ e. tt)
balanced p (reduced same op root) done stack n k other = tt
balanced p (allreduced same op) done stack n k (takes label incoming) = by_test _ (nat_eq label same) _ None (λ e. refl) (λ e. tt)
balanced p (allreduced same op) done stack n k other = tt
balanced p (received same from) done stack n k (takes label incoming) = by_test _ (nat_eq label same) _ None (λ e. refl) (λ e. tt)
balanced p (received same from) done stack n k other = tt
balanced p (chosen who kernel) done stack n k close = untold_balanced who kernel done stack n k who.low
balanced p (chosen who kernel) done stack n k else_open = refl
balanced p (chosen who kernel) done stack n k other = tt
balanced p (asked who kernel) done stack n k (probe from) = refl
balanced p (asked who kernel) done stack n k (if_open guards) = omega arith
balanced p (asked who kernel) done stack n k other = tt
balanced p (relaying who kernel relays guards) done stack n k (probe from) = refl
balanced p (relaying who kernel relays guards) done stack n k other = tt
balanced p (relayed who kernel relays) done stack n k (else_if_open guards) = refl
balanced p (relayed who kernel relays) done stack n k else_open = refl
balanced p (relayed who kernel relays) done stack n k other = tt
balanced p (sourced who kernel relays) done stack n k (probe from) = refl
balanced p (sourced who kernel relays) done stack n k other = tt
balanced p (probed who kernel relays from) done stack n k close = omega arith
balanced p (probed who kernel relays from) done stack n k other = tt
balanced p (untested who kernel relays from) done stack n k (test_open label guards) = omega arith
balanced p (untested who kernel relays from) done stack n k other = tt
balanced p (testing t label guards) done stack n k (picks branch) = refl
balanced p (testing t label guards) done stack n k other = tt
balanced p (tested t) done stack n k (else_test_open label guards) = refl
balanced p (tested t) done stack n k else_open = refl
balanced p (tested t) done stack n k other = tt
balanced p (aborting t) done stack n k aborts = refl
balanced p (aborting t) done stack n k other = tt
balanced p (aborted t) done stack n k close = omega arith
balanced p (aborted t) done stack n k other = tt
balanced p (all_tested t) done stack n k close = omega arith
balanced p (all_tested t) done stack n k other = tt
balanced p (answered t) done stack n k (pick_open branch) = by_test _ (nat_eq branch 0) _ None (λ e. omega arith) (λ e. tt)
balanced p (answered t) done stack n k other = tt
