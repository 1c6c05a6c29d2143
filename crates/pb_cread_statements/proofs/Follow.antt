-- Reading goes along the lines of any statements, as long as they keep their rules.
use Rattle.std.proofs.Common.{◌≡◌, ℕ, ◌+◌, Bool, true, false, cond, List, [], ◌∷◌, ◌++◌, map, Some, None, refl, sym, ap, subst, ◌∙◌, append_assoc, append-nil}
use Rattle.std.proofs.lemmas.List.{map-append}
use Rattle.std.specs.Prelude.{nat_eq, nat_lt, ◌&&◌, ◌^◌}
use Rattle.std.proofs.Math.Bool.{and-true}
use Rattle.std.proofs.lemmas.Bool.{and_from}
use Rattle.pb_affine.specs.declared.guard.Guard.{Guard}
use Rattle.pb_local.specs.declared.stmt.Peer.{Peer}
use Rattle.pb_local.specs.declared.stmt.Test.{Test}
use Rattle.pb_local.specs.declared.stmt.Relay.{Relay}
use Rattle.pb_local.specs.Tree.{Code, Program}
use Rattle.pb_ctree.specs.Lines.{Item, close, else_open, if_open, else_if_open, probe, test_open, else_test_open, picks, aborts, Line, line}
use Rattle.pb_ctree.specs.Rules.{is_peer_of, comes_after}
use Rattle.pb_ctree.specs.Spelling.{relay_lines, probe_lines, next_tests, test_lines, abort_lines, isnt_there, told_lines}
use Rattle.pb_cread_statements.specs.Marks.{counted}
use Rattle.pb_cread_statements.specs.Reading.{Told, told, Frame, Wanted, chosen, asked, relaying, relayed, sourced, probed, untested, testing, tested, aborting, aborted, all_tested, answered, State, state, depth_of, place, last_of, untold, rule, step, goes_on}
use Rattle.pb_cread_statements.proofs.Small.{left, right, eq_self, source_is, source_at}

abbrev pub Follows : Program → State → List Line → List Bool → State → Type 0
Follows p s [] [] t = s ≡ t
Follows p s [] (m ∷ ms) t = ⊥
Follows p s (l ∷ ls) [] t = ⊥
Follows p s (l ∷ ls) (m ∷ ms) t = l.kept ≡ true → (n : State) × (goes_on p s l.depth l.item ≡ Some n) × (n.begun ≡ counted m s.begun) × Follows p n ls ms t

pub follow_on : (p : Program) (ls bs : List Line) (ms ns : List Bool) (s t u : State) → Follows p s ls ms t → Follows p t bs ns u → Follows p s (ls ++ bs) (ms ++ ns) u
follow_on p [] bs [] ns s t u e h = subst (λ x. Follows p x bs ns u) (sym e) h
follow_on p [] bs (m ∷ ms) ns s t u e h = absurd e
follow_on p (l ∷ ls) bs [] ns s t u e h = absurd e
follow_on p (l ∷ ls) bs (m ∷ ms) ns s t u e h = λ kept. let r = e kept in (r.0, r.1, r.2, follow_on p ls bs ms ns r.0 t u r.3 h)

-- another name for the last state
pub shift : (p : Program) (ls : List Line) (ms : List Bool) (s : State) (w : Wanted) (done now : List Code) (stack : List Frame) (m n k j : ℕ) → Follows p s ls ms (state w done stack m k) → done ≡ now → m ≡ n → k ≡ j
    → Follows p s ls ms (state w now stack n j)
shift p ls ms s w done now stack m n k j h e f g =
    subst (λ x. Follows p s ls ms (state w x stack n j)) e (subst (λ x. Follows p s ls ms (state w done stack x j)) f (subst (λ x. Follows p s ls ms (state w done stack m x)) g h))

pub along : (p : Program) (s n : State) (d : ℕ) (i : Item) → d ≡ place s i → rule p s i ≡ true → step p s i ≡ Some n → goes_on p s d i ≡ Some n
along p s n d i at keeps goes = ap (λ b. cond b (step p s i) None) (and_from (nat_eq d (place s i)) (rule p s i) (ap (λ x. nat_eq d x) (sym at) ∙ eq_self d) keeps) ∙ goes

-- ---- how the branch is told: no line begins a statement

abbrev pub quiet : List Line → List Bool
quiet ls = map (λ l. false) ls

abbrev Quiet : Program → State → List Line → State → Type 0
Quiet p s ls t = Follows p s ls (quiet ls) t

quiet_on : (p : Program) (ls bs : List Line) (s t u : State) → Quiet p s ls t → Quiet p t bs u → Quiet p s (ls ++ bs) u
quiet_on p [] bs s t u e h = subst (λ x. Quiet p x bs u) (sym e) h
quiet_on p (l ∷ ls) bs s t u e h = λ kept. let r = e kept in (r.0, r.1, r.2, quiet_on p ls bs r.0 t u r.3 h)

relays_on : (p : Program) (rs acc : List Relay) (who : Guard) (kernel : ℕ) (from : Peer) (done : List Code) (stack : List Frame) (n k : ℕ)
    → Quiet p (state (relayed who kernel acc) done stack n k) (relay_lines p (depth_of stack + 1) rs from) (state (untested who kernel (acc ++ rs) from) done stack n k)
relays_on p [] acc who kernel from done stack n k =
    let d = depth_of stack + 1 in
    let s0 = state (relayed who kernel acc) done stack n k in
    let s1 = state (sourced who kernel acc) done stack n k in
    let s2 = state (probed who kernel acc from) done stack n k in
    let s3 = state (untested who kernel acc from) done stack n k in
    λ a. (s1, along p s0 s1 d else_open refl refl refl, refl, λ b. (s2, along p s1 s2 (d + 1) (probe from) refl b refl, refl, λ c. (s3, along p s2 s3 d close refl refl refl, refl, ap (λ x. state (untested who kernel x from) done stack n k) (sym (append-nil acc)))))
relays_on p (r ∷ rs) acc who kernel from done stack n k =
    let d = depth_of stack + 1 in
    let s0 = state (relayed who kernel acc) done stack n k in
    let s1 = state (relaying who kernel acc r.guards) done stack n k in
    let s2 = state (relayed who kernel (acc ++ r ∷ [])) done stack n k in
    let all = relay_lines p d rs from in
    λ a. (
      s1,
      along p s0 s1 d (else_if_open r.guards) refl a refl,
      refl,
      λ b. (s2, along p s1 s2 (d + 1) (probe r.from) refl b refl, refl, subst (λ x. Quiet p s2 all (state (untested who kernel x from) done stack n k)) (append_assoc acc (r ∷ []) rs) (relays_on p rs (acc ++ r ∷ []) who kernel from done stack n k)),
    )

probes_on : (p : Program) (relays : List Relay) (who : Guard) (kernel : ℕ) (from : Peer) (done : List Code) (stack : List Frame) (n k : ℕ)
    → Quiet p (state (asked who kernel) done stack n k) (probe_lines p (depth_of stack + 1) relays from) (state (untested who kernel relays from) done stack n k)
probes_on p [] who kernel from done stack n k =
    let s1 = state (untested who kernel [] from) done stack n k in
    λ a. (s1, along p (state (asked who kernel) done stack n k) s1 (depth_of stack + 1) (probe from) refl a refl, refl, refl)
probes_on p (r ∷ rs) who kernel from done stack n k =
    let d = depth_of stack + 1 in
    let s0 = state (asked who kernel) done stack n k in
    let s1 = state (relaying who kernel [] r.guards) done stack n k in
    let s2 = state (relayed who kernel (r ∷ [])) done stack n k in
    λ a. (s1, along p s0 s1 d (if_open r.guards) refl a refl, refl, λ b. (s2, along p s1 s2 (d + 1) (probe r.from) refl b refl, refl, relays_on p rs (r ∷ []) who kernel from done stack n k))

pub last_added : (ts : List Test) (t : Test) → last_of (ts ++ t ∷ []) ≡ Some t
last_added [] t = refl
last_added (u ∷ []) t = refl
last_added (u ∷ v ∷ us) t = last_added (v ∷ us) t

tests_on : (p : Program) (ts acc : List Test) (before : Test) (who : Guard) (kernel : ℕ) (relays : List Relay) (from : Peer) (done : List Code) (stack : List Frame) (n k : ℕ) → last_of acc ≡ Some before
    → Quiet p (state (tested (told who kernel relays from acc)) done stack n k) (next_tests p (depth_of stack + 1) before ts) (state (tested (told who kernel relays from (acc ++ ts))) done stack n k)
tests_on p [] acc before who kernel relays from done stack n k last = ap (λ x. state (tested (told who kernel relays from x)) done stack n k) (sym (append-nil acc))
tests_on p (t ∷ ts) acc before who kernel relays from done stack n k last =
    let d = depth_of stack + 1 in
    let s0 = state (tested (told who kernel relays from acc)) done stack n k in
    let s1 = state (testing (told who kernel relays from acc) t.label t.guards) done stack n k in
    let s2 = state (tested (told who kernel relays from (acc ++ t ∷ []))) done stack n k in
    let all = next_tests p d t ts in
    λ a. (
      s1,
      along p s0 s1 d (else_test_open t.label t.guards) refl a refl,
      refl,
      λ b. (
        s2,
        along p s1 s2 (d + 1) (picks t.branch) refl (ap (λ x. nat_lt t.branch (2 ^ 32) && comes_after x t) last ∙ b) refl,
        refl,
        subst (λ x. Quiet p s2 all (state (tested (told who kernel relays from x)) done stack n k)) (append_assoc acc (t ∷ []) ts) (tests_on p ts (acc ++ t ∷ []) t who kernel relays from done stack n k (last_added acc t)),
      ),
    )

all_tests_on : (p : Program) (t : Test) (ts : List Test) (who : Guard) (kernel : ℕ) (relays : List Relay) (from : Peer) (done : List Code) (stack : List Frame) (n k : ℕ)
    → Quiet p (state (untested who kernel relays from) done stack n k) (test_lines p (depth_of stack + 1) t ts) (state (tested (told who kernel relays from (t ∷ ts))) done stack n k)
all_tests_on p t ts who kernel relays from done stack n k =
    let d = depth_of stack + 1 in
    let s0 = state (untested who kernel relays from) done stack n k in
    let s1 = state (testing (told who kernel relays from []) t.label t.guards) done stack n k in
    let s2 = state (tested (told who kernel relays from (t ∷ []))) done stack n k in
    λ a. (
      s1,
      along p s0 s1 d (test_open t.label t.guards) refl a refl,
      refl,
      λ b. (s2, along p s1 s2 (d + 1) (picks t.branch) refl (and-true (nat_lt t.branch (2 ^ 32)) ∙ b) refl, refl, tests_on p ts (t ∷ []) t who kernel relays from done stack n k refl),
    )

aborts_on : (p : Program) (t : Told) (done : List Code) (stack : List Frame) (n k : ℕ)
    → Quiet p (state (tested t) done stack n k) (abort_lines (depth_of stack + 1)) (state (all_tested t) done stack n k)
aborts_on p t done stack n k =
    let d = depth_of stack + 1 in
    let s0 = state (tested t) done stack n k in
    let s1 = state (aborting t) done stack n k in
    let s2 = state (aborted t) done stack n k in
    let s3 = state (all_tested t) done stack n k in
    λ a. (s1, along p s0 s1 d else_open refl refl refl, refl, λ b. (s2, along p s1 s2 (d + 1) aborts refl refl refl, refl, λ c. (s3, along p s2 s3 d close refl refl refl, refl, refl)))

none_there : (relays : List Relay) → isnt_there relays ≡ true → relays ≡ []
none_there [] e = refl
none_there (r ∷ rs) e = absurd cc

untold_is : (who : Guard) (kernel : ℕ) (relays : List Relay) (from : Peer) (s : State) → (isnt_there relays && is_peer_of from who) ≡ true
    → untold s who kernel who.low ≡ Some (state (answered (told who kernel relays from [])) s.done s.stack s.loops s.begun)
untold_is who kernel relays from s e =
    let none = none_there relays (left (isnt_there relays) (is_peer_of from who) e) in
    let it_is = right (isnt_there relays) (is_peer_of from who) e in
    ap (untold s who kernel) (source_at from who it_is)
    ∙ ap (λ x. Some (state (answered (told who kernel [] x [])) s.done s.stack s.loops s.begun)) (source_is from who it_is)
    ∙ ap (λ x. Some (state (answered (told who kernel x from [])) s.done s.stack s.loops s.begun)) (sym none)

pub told_on : (p : Program) (who : Guard) (kernel : ℕ) (relays : List Relay) (from : Peer) (tests : List Test) (done : List Code) (stack : List Frame) (n k : ℕ)
    → Quiet p (state (chosen who kernel) done stack n k) (told_lines p (depth_of stack) who relays from tests) (state (answered (told who kernel relays from tests)) done stack n k)
told_on p who kernel relays from [] done stack n k =
    let s0 = state (chosen who kernel) done stack n k in
    let s1 = state (answered (told who kernel relays from [])) done stack n k in
    λ a. (s1, along p s0 s1 (depth_of stack) close refl refl (untold_is who kernel relays from s0 a), refl, refl)
told_on p who kernel relays from (t ∷ ts) done stack n k =
    let d = depth_of stack in
    let T = told who kernel relays from (t ∷ ts) in
    let s0 = state (chosen who kernel) done stack n k in
    let s1 = state (asked who kernel) done stack n k in
    let s2 = state (untested who kernel relays from) done stack n k in
    let s3 = state (tested T) done stack n k in
    let s4 = state (all_tested T) done stack n k in
    let s5 = state (answered T) done stack n k in
    let probes = probe_lines p (d + 1) relays from in
    let tests = test_lines p (d + 1) t ts in
    λ a. (
      s1,
      along p s0 s1 d else_open refl refl refl,
      refl,
      quiet_on p ((probes ++ tests) ++ abort_lines (d + 1)) (line d close true ∷ []) s1 s4 s5
          (quiet_on p (probes ++ tests) (abort_lines (d + 1)) s1 s3 s4
          (quiet_on p probes tests s1 s2 s3 (probes_on p relays who kernel from done stack n k) (all_tests_on p t ts who kernel relays from done stack n k))
          (aborts_on p T done stack n k))
          (λ b. (s5, along p s4 s5 d close refl refl refl, refl, refl)),
    )

-- the marks don't look at depths
relay_marks : (p : Program) (d e : ℕ) (rs : List Relay) (from : Peer) → quiet (relay_lines p d rs from) ≡ quiet (relay_lines p e rs from)
relay_marks p d e [] from = refl
relay_marks p d e (r ∷ rs) from = ap (λ x. false ∷ false ∷ x) (relay_marks p d e rs from)

probe_marks : (p : Program) (d e : ℕ) (rs : List Relay) (from : Peer) → quiet (probe_lines p d rs from) ≡ quiet (probe_lines p e rs from)
probe_marks p d e [] from = refl
probe_marks p d e (r ∷ rs) from = ap (λ x. false ∷ false ∷ x) (relay_marks p d e rs from)

test_marks : (p : Program) (d e : ℕ) (t : Test) (ts : List Test) → quiet (next_tests p d t ts) ≡ quiet (next_tests p e t ts)
test_marks p d e t [] = refl
test_marks p d e t (u ∷ us) = ap (λ x. false ∷ false ∷ x) (test_marks p d e u us)

quiet_append : (a b : List Line) → quiet (a ++ b) ≡ quiet a ++ quiet b
quiet_append a b = map-append (λ l. false) a b

pub told_marks : (p : Program) (d e : ℕ) (who : Guard) (relays : List Relay) (from : Peer) (tests : List Test) → quiet (told_lines p d who relays from tests) ≡ quiet (told_lines p e who relays from tests)
told_marks p d e who relays from [] = refl
told_marks p d e who relays from (t ∷ ts) =
    ap (λ x. false ∷ x) (parts d ∙ ap (λ x. ((x ++ quiet (test_lines p (d + 1) t ts)) ++ false ∷ false ∷ false ∷ []) ++ false ∷ []) (probe_marks p (d + 1) (e + 1) relays from)
    ∙ ap (λ x. ((quiet (probe_lines p (e + 1) relays from) ++ false ∷ false ∷ x) ++ false ∷ false ∷ false ∷ []) ++ false ∷ []) (test_marks p (d + 1) (e + 1) t ts) ∙ sym (parts e)) where
      parts : (d : ℕ) → quiet (((probe_lines p (d + 1) relays from ++ test_lines p (d + 1) t ts) ++ abort_lines (d + 1)) ++ line d close true ∷ [])
          ≡ ((quiet (probe_lines p (d + 1) relays from) ++ quiet (test_lines p (d + 1) t ts)) ++ false ∷ false ∷ false ∷ []) ++ false ∷ []
      parts d =
          let a = probe_lines p (d + 1) relays from in
          let b = test_lines p (d + 1) t ts in
          quiet_append ((a ++ b) ++ abort_lines (d + 1)) (line d close true ∷ []) ∙ ap (λ x. x ++ false ∷ []) (quiet_append (a ++ b) (abort_lines (d + 1)) ∙ ap (λ x. x ++ false ∷ false ∷ false ∷ []) (quiet_append a b))
