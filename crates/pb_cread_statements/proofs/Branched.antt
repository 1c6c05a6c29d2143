-- The branches of a choice one after another, its relays and its tests.
use Rattle.std.proofs.Common.{◌≡◌, ℕ, zero, suc, ◌+◌, true, List, [], ◌∷◌, ◌++◌, length, Some, refl, sym, ap, ◌∙◌, append_assoc, append-nil, arith}
use Rattle.std.specs.Prelude.{nat_lt, ◌^◌, ◌&&◌}
use Rattle.pb_local.specs.declared.stmt.Peer.{Peer}
use Rattle.pb_local.specs.declared.stmt.Test.{Test}
use Rattle.pb_local.specs.declared.stmt.Relay.{Relay}
use Rattle.pb_local.specs.Tree.{Code, nothing, no_part, part, parts_of, Program}
use Rattle.pb_local.specs.WellMade.{Scope}
use Rattle.pb_ctree.specs.Lines.{close, else_open, if_open, else_if_open, probe, else_test_open, picks, Line, line}
use Rattle.pb_ctree.specs.Rules.{are_guards, is_peer, is_label, comes_after}
use Rattle.pb_ctree.specs.Spelling.{relay_lines, probe_lines, next_tests, branch_open, spelled_parts}
use Rattle.pb_cread_statements.specs.Reading.{last_of}
use Rattle.pb_cread_statements.proofs.Written.{loops_of, loops_parts, lines_of, branches_read, later_relays, relays_read, relay_open, IsMore}

abbrev scope : ℕ → List ℕ → Scope
scope n ids = record { loops = n; around = ids }

same_open : (d k : ℕ) (xs : List (List Code)) (b : List Code) (tests : List Test) → branch_open d k (parts_of (xs ++ b ∷ [])) tests ≡ branch_open d k (part nothing no_part) []
same_open d zero xs b tests = refl
same_open d (suc k) [] b tests = refl
same_open d (suc k) (x ∷ xs) b tests = refl

-- one branch more that others follow
pub branches_append : (p : Program) (d : ℕ) (bs : List (List Code)) (b : List Code) (k j n m : ℕ) (ids : List ℕ) → j ≡ k + length bs → m ≡ n + loops_parts bs
    → branches_read p d (scope n ids) k (bs ++ b ∷ []) ≡ branches_read p d (scope n ids) k bs ++ (branch_open d j (part nothing no_part) [] ∷ lines_of p (d + 1) (scope m ids) b)
branches_append p d [] b k j n m ids e f =
    let j_is : k ≡ j = omega (arith, e) in
    let m_is : n ≡ m = omega (arith, f) in
    ap (λ w. branch_open d k (part nothing no_part) [] ∷ w) (append-nil _) ∙ ap (λ x. branch_open d x (part nothing no_part) [] ∷ lines_of p (d + 1) (scope n ids) b) j_is ∙ ap (λ x. branch_open d j (part nothing no_part) [] ∷ lines_of p (d + 1) (scope x ids) b) m_is
branches_append p d (x ∷ xs) b k j n m ids e f =
    let first = branch_open d k (part nothing no_part) [] in
    let lines = lines_of p (d + 1) (scope n ids) x in
    ap (λ w. first ∷ (lines ++ w)) (branches_append p d xs b (k + 1) j (n + loops_of x) m ids (omega (arith, e)) (omega (arith, f)))
    ∙ ap (λ w. first ∷ w) (sym (append_assoc lines (branches_read p d (scope (n + loops_of x) ids) (k + 1) xs) _))

-- and the last branch, with the brace that ends it
pub branches_last : (p : Program) (d : ℕ) (tests : List Test) (bs : List (List Code)) (b : List Code) (k j n m : ℕ) (ids : List ℕ) → j ≡ k + length bs → m ≡ n + loops_parts bs
    → spelled_parts p d (scope n ids) k tests (parts_of (bs ++ b ∷ [])) ≡ branches_read p d (scope n ids) k bs ++ (branch_open d j no_part tests ∷ (lines_of p (d + 1) (scope m ids) b ++ line d close (nat_lt 1 (j + 1)) ∷ []))
branches_last p d tests [] b k j n m ids e f =
    let j_is : k ≡ j = omega (arith, e) in
    let m_is : n ≡ m = omega (arith, f) in
    ap (λ x. branch_open d x no_part tests ∷ (lines_of p (d + 1) (scope n ids) b ++ line d close (nat_lt 1 (x + 1)) ∷ [])) j_is
    ∙ ap (λ x. branch_open d j no_part tests ∷ (lines_of p (d + 1) (scope x ids) b ++ line d close (nat_lt 1 (j + 1)) ∷ [])) m_is
branches_last p d tests (x ∷ xs) b k j n m ids e f =
    let first = branch_open d k (part nothing no_part) [] in
    let lines = lines_of p (d + 1) (scope n ids) x in
    ap (λ l. l ∷ (lines ++ spelled_parts p d (scope (n + loops_of x) ids) (k + 1) tests (parts_of (xs ++ b ∷ [])))) (same_open d k xs b tests)
    ∙ ap (λ w. first ∷ (lines ++ w)) (branches_last p d tests xs b (k + 1) j (n + loops_of x) m ids (omega (arith, e)) (omega (arith, f)))
    ∙ ap (λ w. first ∷ w) (sym (append_assoc lines (branches_read p d (scope (n + loops_of x) ids) (k + 1) xs) _))

pub loops_parts_append : (bs : List (List Code)) (b : List Code) → loops_parts (bs ++ b ∷ []) ≡ loops_parts bs + loops_of b
loops_parts_append [] b = omega arith
loops_parts_append (x ∷ xs) b = omega (arith, loops_parts_append xs b)

later_append : (p : Program) (d : ℕ) (rs : List Relay) (r : Relay) → later_relays p d (rs ++ r ∷ []) ≡ later_relays p d rs ++ (line d (else_if_open r.guards) (are_guards p r.guards) ∷ line (d + 1) (probe r.from) (is_peer p r.from) ∷ [])
later_append p d [] r = refl
later_append p d (x ∷ xs) r = ap (λ w. line d (else_if_open x.guards) (are_guards p x.guards) ∷ line (d + 1) (probe x.from) (is_peer p x.from) ∷ w) (later_append p d xs r)

pub relays_append : (p : Program) (d : ℕ) (rs : List Relay) (r : Relay) → relays_read p d (rs ++ r ∷ []) ≡ relays_read p d rs ++ (relay_open p d rs r.guards ∷ line (d + 1) (probe r.from) (is_peer p r.from) ∷ [])
relays_append p d [] r = refl
relays_append p d (x ∷ xs) r = ap (λ w. line d (if_open x.guards) (are_guards p x.guards) ∷ line (d + 1) (probe x.from) (is_peer p x.from) ∷ w) (later_append p d xs r)

pub relays_some : (rs : List Relay) (r : Relay) → IsMore (rs ++ r ∷ [])
relays_some [] r = tt
relays_some (x ∷ xs) r = tt

pub tests_some : (ts : List Test) (t : Test) → IsMore (ts ++ t ∷ [])
tests_some [] t = tt
tests_some (x ∷ xs) t = tt

source_lines : Program → ℕ → Peer → List Line
source_lines p d from = line d else_open true ∷ line (d + 1) (probe from) (is_peer p from) ∷ line d close true ∷ []

later_all : (p : Program) (d : ℕ) (rs : List Relay) (from : Peer) → later_relays p d rs ++ (line d else_open true ∷ line (d + 1) (probe from) (is_peer p from) ∷ line d close true ∷ []) ≡ relay_lines p d rs from
later_all p d [] from = refl
later_all p d (x ∷ xs) from = ap (λ w. line d (else_if_open x.guards) (are_guards p x.guards) ∷ line (d + 1) (probe x.from) (is_peer p x.from) ∷ w) (later_all p d xs from)

-- the relays, and the source
pub relays_all : (p : Program) (d : ℕ) (rs : List Relay) (from : Peer) → IsMore rs → relays_read p d rs ++ (line d else_open true ∷ line (d + 1) (probe from) (is_peer p from) ∷ line d close true ∷ []) ≡ probe_lines p d rs from
relays_all p d [] from some = absurd some
relays_all p d (x ∷ xs) from some = ap (λ w. line d (if_open x.guards) (are_guards p x.guards) ∷ line (d + 1) (probe x.from) (is_peer p x.from) ∷ w) (later_all p d xs from)

pub next_append : (p : Program) (d : ℕ) (before : Test) (ts : List Test) (t : Test)
    → next_tests p d before (ts ++ t ∷ []) ≡ next_tests p d before ts ++ (line d (else_test_open t.label t.guards) (is_label p t.label && are_guards p t.guards) ∷ line (d + 1) (picks t.branch) (nat_lt t.branch (2 ^ 32) && comes_after (last_of (before ∷ ts)) t) ∷ [])
next_append p d before [] t = refl
next_append p d before (x ∷ xs) t =
    ap (λ w. line d (else_test_open x.label x.guards) (is_label p x.label && are_guards p x.guards) ∷ line (d + 1) (picks x.branch) (nat_lt x.branch (2 ^ 32) && comes_after (Some before) x) ∷ w) (next_append p d x xs t)
