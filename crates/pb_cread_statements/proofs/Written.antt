-- The lines that led to a state.
use Rattle.std.proofs.Common.{◌≡◌, ℕ, suc, ◌+◌, Bool, true, false, cond, List, [], ◌∷◌, ◌++◌, length, Option, Some, None, refl, sym, ap, ◌∙◌, append_assoc, append-nil, arith}
use Rattle.std.specs.Prelude.{nat_eq, ◌&&◌}
use Rattle.pb_affine.specs.declared.guard.Guard.{Guard}
use Rattle.pb_local.specs.declared.stmt.Peer.{Peer}
use Rattle.pb_local.specs.declared.stmt.Test.{Test}
use Rattle.pb_local.specs.declared.stmt.Relay.{Relay}
use Rattle.pb_local.specs.Tree.{Code, nothing, no_part, part, codes_of, parts_of, Program}
use Rattle.pb_local.specs.WellMade.{Scope, behind, loops_at, loops_in, loops_among}
use Rattle.pb_ctree.specs.Lines.{close, else_open, if_open, else_if_open, for_open, loop_open, makes, root_makes, mpi_recv, mpi_bcast, mpi_reduce, mpi_allreduce, chooses, probe, test_open, else_test_open, aborts, Line, line}
use Rattle.pb_ctree.specs.Rules.{is_offset, is_guard, are_guards, is_peer, is_label, is_wordy, goes_with, can_choose, is_chooser}
use Rattle.pb_ctree.specs.Small.{payload_of}
use Rattle.pb_ctree.specs.Spelling.{probe_lines, test_lines, told_lines, branch_open, spelled, spelled_all}
use Rattle.pb_cread_statements.specs.Reading.{Told, Kind, in_first, in_other, in_for, in_loop_of, in_branch, in_last, Frame, Wanted, statement, made, rooted, cast, reduced, allreduced, received, chosen, asked, relaying, relayed, sourced, probed, untested, testing, tested, aborting, aborted, all_tested, answered, State, depth_of}
use Rattle.pb_cread_statements.proofs.Along.{at}

abbrev pub loops_of : List Code → ℕ
loops_of done = loops_in (codes_of done)

abbrev pub loops_parts : List (List Code) → ℕ
loops_parts parts = loops_among (parts_of parts)

abbrev pub lines_of : Program → ℕ → Scope → List Code → List Line
lines_of p d s done = spelled_all p d s (codes_of done)

-- ---- a choice

abbrev pub start : Program → ℕ → Guard → ℕ → List Line
start p d who kernel = line d (if_open (who ∷ [])) (is_guard p who) ∷ line (d + 1) (chooses kernel) (is_chooser who && can_choose p kernel) ∷ []

abbrev pub head : Program → ℕ → Told → List Line
head p d t = start p d t.who t.kernel ++ told_lines p d t.who t.relays t.from t.tests

-- an else-if for each relay after the first
abbrev pub later_relays : Program → ℕ → List Relay → List Line
later_relays p d [] = []
later_relays p d (r ∷ rs) = line d (else_if_open r.guards) (are_guards p r.guards) ∷ line (d + 1) (probe r.from) (is_peer p r.from) ∷ later_relays p d rs

abbrev pub relays_read : Program → ℕ → List Relay → List Line
relays_read p d [] = []
relays_read p d (r ∷ rs) = line d (if_open r.guards) (are_guards p r.guards) ∷ line (d + 1) (probe r.from) (is_peer p r.from) ∷ later_relays p d rs

abbrev pub relay_open : Program → ℕ → List Relay → List Guard → Line
relay_open p d [] guards = line d (if_open guards) (are_guards p guards)
relay_open p d (r ∷ rs) guards = line d (else_if_open guards) (are_guards p guards)

abbrev pub tests_read : Program → ℕ → List Test → List Line
tests_read p d [] = []
tests_read p d (t ∷ ts) = test_lines p d t ts

abbrev pub tested_open : Program → ℕ → List Test → ℕ → List Guard → Line
tested_open p d [] label guards = line d (test_open label guards) (is_label p label && are_guards p guards)
tested_open p d (t ∷ ts) label guards = line d (else_test_open label guards) (is_label p label && are_guards p guards)

abbrev pub asked_read : Program → ℕ → Guard → ℕ → List Line
asked_read p d who kernel = start p d who kernel ++ line d else_open true ∷ []

abbrev pub relayed_read : Program → ℕ → Guard → ℕ → List Relay → List Line
relayed_read p d who kernel relays = asked_read p d who kernel ++ relays_read p (d + 1) relays

abbrev pub sourced_read : Program → ℕ → Guard → ℕ → List Relay → List Line
sourced_read p d who kernel relays = relayed_read p d who kernel relays ++ line (d + 1) else_open true ∷ []

abbrev pub probed_read : Program → ℕ → Guard → ℕ → List Relay → Peer → List Line
probed_read p d who kernel relays from = sourced_read p d who kernel relays ++ line (d + 1 + 1) (probe from) (is_peer p from) ∷ []

abbrev pub untested_read : Program → ℕ → Guard → ℕ → List Relay → Peer → List Line
untested_read p d who kernel relays from = asked_read p d who kernel ++ probe_lines p (d + 1) relays from

abbrev pub tested_read : Program → ℕ → Told → List Line
tested_read p d t = untested_read p d t.who t.kernel t.relays t.from ++ tests_read p (d + 1) t.tests

abbrev pub aborting_read : Program → ℕ → Told → List Line
aborting_read p d t = tested_read p d t ++ line (d + 1) else_open true ∷ []

abbrev pub aborted_read : Program → ℕ → Told → List Line
aborted_read p d t = aborting_read p d t ++ line (d + 1 + 1) aborts true ∷ []

abbrev pub all_tested_read : Program → ℕ → Told → List Line
all_tested_read p d t = aborted_read p d t ++ line (d + 1) close true ∷ []

-- ---- what was read of a statement

-- the lines of a statement that is half spelled
abbrev pub partial : Program → ℕ → Wanted → List Line
partial p d statement = []
partial p d (made label) = line d (makes label) (is_label p label) ∷ []
partial p d (rooted label root) = line d (root_makes root label) (is_label p label && is_wordy p label && is_peer p root) ∷ []
partial p d (cast label root) = line d (root_makes root label) (is_label p label && is_wordy p label && is_peer p root) ∷ line d (mpi_bcast label root) true ∷ []
partial p d (reduced label op root) = line d (makes label) (is_label p label && is_wordy p label) ∷ line d (mpi_reduce label op root) (goes_with op (payload_of p label) && is_peer p root) ∷ []
partial p d (allreduced label op) = line d (makes label) (is_label p label && is_wordy p label) ∷ line d (mpi_allreduce label op) (goes_with op (payload_of p label)) ∷ []
partial p d (received label from) = line d (mpi_recv label from) (is_label p label && is_peer p from) ∷ []
partial p d (chosen who kernel) = start p d who kernel
partial p d (asked who kernel) = asked_read p d who kernel
partial p d (relaying who kernel relays guards) = relayed_read p d who kernel relays ++ relay_open p (d + 1) relays guards ∷ []
partial p d (relayed who kernel relays) = relayed_read p d who kernel relays
partial p d (sourced who kernel relays) = sourced_read p d who kernel relays
partial p d (probed who kernel relays from) = probed_read p d who kernel relays from
partial p d (untested who kernel relays from) = untested_read p d who kernel relays from
partial p d (testing t label guards) = tested_read p d t ++ tested_open p (d + 1) t.tests label guards ∷ []
partial p d (tested t) = tested_read p d t
partial p d (aborting t) = aborting_read p d t
partial p d (aborted t) = aborted_read p d t
partial p d (all_tested t) = all_tested_read p d t
partial p d (answered t) = head p d t

-- branches that others follow, from number k on
abbrev pub branches_read : Program → ℕ → Scope → ℕ → List (List Code) → List Line
branches_read p d s k [] = []
branches_read p d s k (b ∷ bs) = branch_open d k (part nothing no_part) [] ∷ (lines_of p (d + 1) s b ++ branches_read p d (behind s (loops_of b)) (k + 1) bs)

-- the lines of a statement up to where the part begins that is read
abbrev pub opening : Program → ℕ → Scope → Kind → List Line
opening p d s (in_first guards) = line d (if_open guards) (are_guards p guards) ∷ []
opening p d s (in_other guards first) = line d (if_open guards) (are_guards p guards) ∷ (lines_of p (d + 1) s first ++ line d else_open true ∷ [])
opening p d s (in_for low high) = line d (for_open low high) (is_offset low.off && is_offset high.off) ∷ []
opening p d s (in_loop_of id) = line d (loop_open id) (nat_eq id s.loops) ∷ []
opening p d s (in_branch t parts) = head p d t ++ (branches_read p d s 0 parts ++ branch_open d (length parts) (part nothing no_part) [] ∷ [])
opening p d s (in_last t parts previous) = head p d t ++ (branches_read p d s 0 (parts ++ previous ∷ []) ++ branch_open d (suc (length parts)) no_part t.tests ∷ [])

-- the loops before that part
abbrev pub inner : Kind → ℕ → ℕ
inner (in_first guards) n = n
inner (in_other guards first) n = n + loops_of first
inner (in_for low high) n = n
inner (in_loop_of id) n = n + 1
inner (in_branch t parts) n = n + loops_parts parts
inner (in_last t parts previous) n = n + loops_parts (parts ++ previous ∷ [])

abbrev pub loops_before : List Frame → ℕ
loops_before [] = 0
loops_before (f ∷ fs) = inner f.kind (loops_before fs + loops_of f.outer)

abbrev pub before : Program → List Frame → List Line
before p [] = []
before p (f ∷ fs) = before p fs ++ (lines_of p (depth_of fs) (at fs (loops_before fs)) f.outer ++ opening p (depth_of fs) (at fs (loops_before fs + loops_of f.outer)) f.kind)

-- the lines that led to a state
abbrev pub written : Program → State → List Line
written p s = before p s.stack ++ (lines_of p (depth_of s.stack) (at s.stack (loops_before s.stack)) s.done ++ partial p (depth_of s.stack) s.wanted)

abbrev pub IsMore : {A : Type 0} → List A → Type 0
IsMore [] = ⊥
IsMore (x ∷ xs) = Unit {0}

-- what a statement that is half spelled has
abbrev pub Fits : Program → Wanted → Type 0
Fits p statement = Unit {0}
Fits p (made label) = is_wordy p label ≡ true
Fits p (rooted label root) = Unit {0}
Fits p (cast label root) = Unit {0}
Fits p (reduced label op root) = Unit {0}
Fits p (allreduced label op) = Unit {0}
Fits p (received label from) = is_wordy p label ≡ true
Fits p (chosen who kernel) = Unit {0}
Fits p (asked who kernel) = Unit {0}
Fits p (relaying who kernel relays guards) = Unit {0}
Fits p (relayed who kernel relays) = IsMore relays
Fits p (sourced who kernel relays) = IsMore relays
Fits p (probed who kernel relays from) = IsMore relays
Fits p (untested who kernel relays from) = Unit {0}
Fits p (testing t label guards) = Unit {0}
Fits p (tested t) = IsMore t.tests
Fits p (aborting t) = IsMore t.tests
Fits p (aborted t) = IsMore t.tests
Fits p (all_tested t) = IsMore t.tests
Fits p (answered t) = Unit {0}

pub record IsGood (p : Program) (s : State) : Type 0 where
  pub loops : s.loops ≡ loops_before s.stack + loops_of s.done
  pub fits : Fits p s.wanted

-- a line more was read
pub record Adds (p : Program) (s t : State) (l : Line) : Type 0 where
  pub line : written p t ≡ written p s ++ l ∷ []
  pub is_good : IsGood p t

abbrev pub Every : (P : State → Type 0) → Option State → Type 0
Every P None = Unit {0}
Every P (Some t) = P t

pub by_test : (P : State → Type 0) (b : Bool) (x y : Option State) → (b ≡ true → Every P x) → (b ≡ false → Every P y) → Every P (cond b x y)
by_test P true x y f g = f refl
by_test P false x y f g = g refl

pub loops_append : (xs : List Code) (c : Code) → loops_of (xs ++ c ∷ []) ≡ loops_of xs + loops_at c
loops_append [] c = omega arith
loops_append (x ∷ xs) c = omega (arith, loops_append xs c)

pub lines_append : (p : Program) (d : ℕ) (xs : List Code) (c : Code) (s : Scope) → lines_of p d s (xs ++ c ∷ []) ≡ lines_of p d s xs ++ spelled p d (behind s (loops_of xs)) c
lines_append p d [] c s = append-nil (spelled p d s c) ∙ ap (λ k. spelled p d (record { loops = k; around = s.around }) c) (omega arith)
lines_append p d (x ∷ xs) c s =
    ap (λ w. spelled p d s x ++ w) (lines_append p d xs c (behind s (loops_at x))) ∙ sym (append_assoc (spelled p d s x) (lines_of p d (behind s (loops_at x)) xs) _)
    ∙ ap (λ k. (spelled p d s x ++ lines_of p d (behind s (loops_at x)) xs) ++ spelled p d (record { loops = k; around = s.around }) c) (omega arith)
