-- How the lines of a choice decide what is well made of it.
use Rattle.std.proofs.Common.{◌≡◌, ℕ, zero, suc, ◌+◌, ◌<◌, ◌≤◌, ◌^◌, Bool, true, ◌&&◌, List, [], ◌∷◌, ◌++◌, length, Option, Some, None, refl, sym, ap, subst, arith, Decides, All, nat_lt, nat_eq}
use Rattle.std.proofs.lemmas.Bool.Decides.{Decides-and, Decides-or, Decides-like, Decides-ltb, Decides-eqb}
use Rattle.std.proofs.lemmas.List.Elements.{All-nil, All-cons, All-head, All-tail}
use Rattle.pb_affine.specs.declared.lin.Lin.{Lin}
use Rattle.pb_affine.specs.declared.guard.Guard.{Guard}
use Rattle.pb_affine.specs.Values.{IsSmallIf}
use Rattle.pb_syntax.specs.declared.core_label.KernelKind.TheVariants.{Choice as Chooses}
use Rattle.pb_local.specs.declared.stmt.Peer.{Peer}
use Rattle.pb_local.specs.declared.stmt.Test.{Test}
use Rattle.pb_local.specs.declared.stmt.Relay.{Relay}
use Rattle.pb_local.specs.Tables.{kernel_at}
use Rattle.pb_local.specs.Tree.{Codes, Parts, no_part, part, Program}
use Rattle.pb_local.specs.WellMade.{IsPeer, IsGuard, AreGuards, IsLabel, IsChooser, IsRelay, IsTest, ComesAfter, Ascend, count_parts, IsChoice}
use Rattle.pb_ctree.specs.Rules.{are_guards, is_peer, is_label, comes_after, are_below, is_at, is_peer_of}
use Rattle.pb_ctree.specs.Spelling.{relay_lines, probe_lines, next_tests, test_lines, abort_lines, isnt_there, told_lines, branch_open}
use Rattle.pb_ctree.specs.Texts.{all_kept}
use Rattle.pb_ctree.specs.Lines.{close, Line, line}
use Rattle.pb_ctree_laws.proofs.Tests.{always, and_true, all_is, lines_and, lines_before}
use Rattle.pb_ctree_laws.proofs.Parts.{guards_are, peer_is, label_is, same_lin}

-- ---- relays

probe_is : (p : Program) (e : Peer) → Decides (is_peer p e && true) (IsPeer p e)
probe_is p e = and_true (is_peer p e) (peer_is p e)

-- a relay, and what is behind it
relay_then : {Q : Type 0} (p : Program) (r : Relay) (rs : List Relay) (rest : Bool) → Decides rest (All (IsRelay p) rs × Q) →
    Decides (are_guards p r.guards && (is_peer p r.from && rest)) (All (IsRelay p) (r ∷ rs) × Q)
relay_then p r rs rest h =
    Decides-like _
    (λ w. (All-cons (IsRelay p) r rs (record { guards = w.0; from = w.1.0 }) w.1.1.0, w.1.1.1))
    (λ w. let first = All-head (IsRelay p) r rs w.0 in (first.guards, (first.from, (All-tail (IsRelay p) r rs w.0, w.1))))
    (Decides-and (are_guards p r.guards) (is_peer p r.from && rest) (guards_are p r.guards) (Decides-and (is_peer p r.from) rest (peer_is p r.from) h))

relays_none : {Q : Type 0} (p : Program) (b : Bool) → Decides b Q → Decides b (All (IsRelay p) [] × Q)
relays_none p b h = Decides-like b (λ w. (All-nil (IsRelay p), w)) (λ w. w.1) h

relays_are : (p : Program) (d : ℕ) (rs : List Relay) (from : Peer) → Decides (all_kept (relay_lines p d rs from)) (All (IsRelay p) rs × IsPeer p from)
relays_are p d [] from = relays_none p _ (probe_is p from)
relays_are p d (r ∷ rs) from = relay_then p r rs (all_kept (relay_lines p d rs from)) (relays_are p d rs from)

probes_are : (p : Program) (d : ℕ) (rs : List Relay) (from : Peer) → Decides (all_kept (probe_lines p d rs from)) (All (IsRelay p) rs × IsPeer p from)
probes_are p d [] from = relays_none p _ (probe_is p from)
probes_are p d (r ∷ rs) from = relay_then p r rs (all_kept (relay_lines p d rs from)) (relays_are p d rs from)

-- ---- tests

-- what a test's two lines say of it alone
pub record IsSaid (p : Program) (t : Test) : Type 0 where
  pub label : IsLabel p t.label
  pub guards : AreGuards p t.guards
  pub branch : t.branch < 2 ^ 32

opens_is : (p : Program) (t : Test) → Decides (is_label p t.label && are_guards p t.guards) (IsLabel p t.label × AreGuards p t.guards)
opens_is p t = Decides-and (is_label p t.label) (are_guards p t.guards) (label_is p t.label) (guards_are p t.guards)

after_is : (s t : Test) → Decides (comes_after (Some s) t) (ComesAfter s t)
after_is s t =
    Decides-or (nat_lt s.branch t.branch) _ (Decides-ltb s.branch t.branch)
    (Decides-and (nat_eq s.branch t.branch) (nat_lt s.label t.label) (Decides-eqb s.branch t.branch) (Decides-ltb s.label t.label))

next_are : (p : Program) (d : ℕ) (before : Test) (ts : List Test) → Decides (all_kept (next_tests p d before ts)) (All (IsSaid p) ts × Ascend (before ∷ ts))
next_are p d before [] = (λ e. (All-nil (IsSaid p), tt), λ w. refl)
next_are p d before (t ∷ ts) =
    let rest = all_kept (next_tests p d t ts) in
    Decides-like _
    (λ w. (All-cons (IsSaid p) t ts (record { label = w.0.0; guards = w.0.1; branch = w.1.0.0 }) w.1.1.0, (w.1.0.1, w.1.1.1)))
    (λ w. let first = All-head (IsSaid p) t ts w.0 in ((first.label, first.guards), ((first.branch, w.1.0), (All-tail (IsSaid p) t ts w.0, w.1.1))))
    (Decides-and (is_label p t.label && are_guards p t.guards) ((nat_lt t.branch (2 ^ 32) && comes_after (Some before) t) && rest) (opens_is p t)
    (Decides-and (nat_lt t.branch (2 ^ 32) && comes_after (Some before) t) rest
    (Decides-and (nat_lt t.branch (2 ^ 32)) (comes_after (Some before) t) (Decides-ltb t.branch (2 ^ 32)) (after_is before t)) (next_are p d t ts)))

tests_are : (p : Program) (d : ℕ) (t : Test) (ts : List Test) → Decides (all_kept (test_lines p d t ts)) (All (IsSaid p) (t ∷ ts) × Ascend (t ∷ ts))
tests_are p d t ts =
    let rest = all_kept (next_tests p d t ts) in
    Decides-like _
    (λ w. (All-cons (IsSaid p) t ts (record { label = w.0.0; guards = w.0.1; branch = w.1.0 }) w.1.1.0, w.1.1.1))
    (λ w. let first = All-head (IsSaid p) t ts w.0 in ((first.label, first.guards), (first.branch, (All-tail (IsSaid p) t ts w.0, w.1))))
    (Decides-and (is_label p t.label && are_guards p t.guards) (nat_lt t.branch (2 ^ 32) && rest) (opens_is p t)
    (Decides-and (nat_lt t.branch (2 ^ 32)) rest (Decides-ltb t.branch (2 ^ 32)) (next_are p d t ts)))

-- ---- how the branch is told

none_there : (rs : List Relay) → Decides (isnt_there rs) (rs ≡ [])
none_there [] = (λ e. refl, λ h. refl)
none_there (r ∷ rs) = (λ e. cc, λ h. absurd cc)

at_is : (low : Option Lin) (l : Lin) → Decides (is_at low l) (low ≡ Some l)
at_is None l = (λ e. cc, λ h. absurd cc)
at_is (Some low) l = Decides-like (is_at (Some low) l) (λ e. ap Some (sym e)) (λ e. sym (some_same low l e)) (same_lin l low) where
  some_same : (a b : Lin) → Some a ≡ Some b → a ≡ b
  some_same a b e = cc

-- what the lines between the first if and the branches say
abbrev pub IsTold : Program → Guard → List Relay → Peer → List Test → Type 0
IsTold p who relays from [] = (relays ≡ []) × (from.role ≡ who.role) × (who.low ≡ Some from.at)
IsTold p who relays from (t ∷ ts) = (All (IsRelay p) relays × IsPeer p from) × (All (IsSaid p) (t ∷ ts) × Ascend (t ∷ ts))

pub told_is : (p : Program) (d : ℕ) (who : Guard) (relays : List Relay) (from : Peer) (tests : List Test) → Decides (all_kept (told_lines p d who relays from tests)) (IsTold p who relays from tests)
told_is p d who relays from [] =
    Decides-like _ (λ w. (w.0, w.1.0, w.1.1)) (λ w. (w.0, (w.1, w.2)))
    (and_true _ (Decides-and (isnt_there relays) (is_peer_of from who) (none_there relays)
    (Decides-and (nat_eq from.role who.role) (is_at who.low from.at) (Decides-eqb from.role who.role) (at_is who.low from.at))))
told_is p d who relays from (t ∷ ts) =
    lines_before (probe_lines p (d + 1) relays from ++ test_lines p (d + 1) t ts ++ abort_lines (d + 1)) (line d close true ∷ [])
    (lines_before (probe_lines p (d + 1) relays from ++ test_lines p (d + 1) t ts) (abort_lines (d + 1))
    (lines_and (probe_lines p (d + 1) relays from) (test_lines p (d + 1) t ts) (probes_are p (d + 1) relays from) (tests_are p (d + 1) t ts)) refl) refl

-- ---- branches

abbrev AreBelow : List Test → ℕ → Type 0
AreBelow tests n = All (λ t. t.branch < n) tests

below_is : (tests : List Test) (n : ℕ) → Decides (are_below tests n) (AreBelow tests n)
below_is tests n = all_is (λ t. nat_lt t.branch n) (λ t. t.branch < n) (λ t. Decides-ltb t.branch n) tests

-- so many branches are well made, and the tests name some of them
abbrev pub IsCounted : ℕ → List Test → Type 0
IsCounted n tests = (2 ≤ n) × (n ≤ 64) × AreBelow tests n

counted_same : (tests : List Test) (m n : ℕ) → m ≡ n → IsCounted m tests → IsCounted n tests
counted_same tests m n e h = subst (λ (k : ℕ). IsCounted k tests) e h

-- how many branches there are, where these are those from number k on
abbrev pub IsCount : ℕ → List Test → Parts → Type 0
IsCount k tests no_part = 1 < k
IsCount k tests (part b rest) = IsCounted (k + suc (count_parts rest)) tests

-- what the line that opens branch k says
abbrev IsOpened : ℕ → Parts → List Test → Type 0
IsOpened zero rest tests = Unit {0}
IsOpened (suc k) no_part tests = AreBelow tests (suc k + 1) × (suc k < 64)
IsOpened (suc k) (part b rest) tests = suc k < 64

opened_is : (d k : ℕ) (rest : Parts) (tests : List Test) → Decides (branch_open d k rest tests).kept (IsOpened k rest tests)
opened_is d zero rest tests = always true refl
opened_is d (suc k) no_part tests = Decides-and (are_below tests (suc k + 1)) (nat_lt (suc k) 64) (below_is tests (suc k + 1)) (Decides-ltb (suc k) 64)
opened_is d (suc k) (part b rest) tests = Decides-ltb (suc k) 64

below_same : (tests : List Test) (m n : ℕ) → m ≡ n → AreBelow tests m → AreBelow tests n
below_same tests m n e h = subst (λ (k : ℕ). AreBelow tests k) e h

count_more : (k : ℕ) (rest : Parts) (tests : List Test) → IsOpened k rest tests → IsCount (k + 1) tests rest → IsCounted (k + suc (count_parts rest)) tests
count_more zero no_part tests opened count = absurd (omega (arith, count))
count_more zero (part b rest) tests opened count = counted_same tests _ _ (omega arith) count
count_more (suc k) no_part tests opened count = (omega arith, omega (arith, opened.1), below_same tests _ _ (omega arith) opened.0)
count_more (suc k) (part b rest) tests opened count = counted_same tests _ _ (omega arith) count

count_first : (k : ℕ) (rest : Parts) (tests : List Test) → IsCounted (k + suc (count_parts rest)) tests → IsOpened k rest tests × IsCount (k + 1) tests rest
count_first zero no_part tests count = absurd (omega (arith, count.0))
count_first zero (part b rest) tests count = (tt, counted_same tests _ _ (omega arith) count)
count_first (suc k) no_part tests count = ((below_same tests _ _ (omega arith) count.2, omega (arith, count.1)), omega arith)
count_first (suc k) (part b rest) tests count = (omega (arith, count.1), counted_same tests _ _ (omega arith) count)

-- a branch, and those behind it
pub branch_is : {P Q : Type 0} (d k : ℕ) (b : Codes) (rest : Parts) (tests : List Test) (first others : List Line) → Decides (all_kept first) P → Decides (all_kept others) (Q × IsCount (k + 1) tests rest) →
    Decides (all_kept (branch_open d k rest tests ∷ first ++ others)) ((P × Q) × IsCount k tests (part b rest))
branch_is d k b rest tests first others body more =
    Decides-like _
    (λ w. ((w.1.0, w.1.1.0), count_more k rest tests w.0 w.1.1.1))
    (λ w. let c = count_first k rest tests w.1 in (c.0, (w.0.0, (w.0.1, c.1))))
    (Decides-and (branch_open d k rest tests).kept (all_kept (first ++ others)) (opened_is d k rest tests) (lines_and first others body more))

-- ---- choices

known_of : (p : Program) (branches : ℕ) (tests : List Test) → All (IsSaid p) tests → AreBelow tests branches → All (IsTest p branches) tests
known_of p branches tests said below k d less = record { branch = below k d less; label = (said k d less).label; guards = (said k d less).guards }

said_of : (p : Program) (branches : ℕ) (tests : List Test) → branches ≤ 64 → All (IsTest p branches) tests → All (IsSaid p) tests
said_of p branches tests most each k d less =
    let t = each k d less in record { label = t.label; guards = t.guards; branch = omega (arith, t.branch, most) }

-- the chooser itself is a peer
source_of : (p : Program) (who : Guard) (from : Peer) → IsGuard p who → from.role ≡ who.role → who.low ≡ Some from.at → IsPeer p from
source_of p who from guard role low = record {
  role = omega (arith, guard.role, role);
  off = subst IsSmallIf low guard.small.low;
}

count_all : (tests : List Test) (branches : Parts) → IsCount 0 tests branches → IsCounted (count_parts branches) tests
count_all tests no_part count = absurd (omega (arith, count))
count_all tests (part b rest) count = counted_same tests _ _ (omega arith) count

all_count : (tests : List Test) (branches : Parts) → IsCounted (count_parts branches) tests → IsCount 0 tests branches
all_count tests no_part count = absurd (omega (arith, count.0))
all_count tests (part b rest) count = counted_same tests _ _ (omega arith) count

-- what the first two lines of a choice say
abbrev pub IsBegun : Program → Guard → ℕ → Type 0
IsBegun p who kernel = IsGuard p who × (IsChooser who × ((kernel < length p.kernels) × ((kernel_at p kernel).kind ≡ Chooses)))

pub choice_of : (p : Program) (who : Guard) (kernel : ℕ) (relays : List Relay) (from : Peer) (tests : List Test) (branches : Parts) →
    IsBegun p who kernel → IsTold p who relays from tests → IsCount 0 tests branches → IsChoice p who kernel relays from tests (count_parts branches)
choice_of p who kernel relays from [] branches begun told count =
    let n = count_all [] branches count in
    record {
      guard = begun.0;
      chooser = begun.1.0;
      known = begun.1.1.0;
      chooses = begun.1.1.1;
      each_relay = subst (λ (rs : List Relay). All (IsRelay p) rs) (sym told.0) (All-nil (IsRelay p));
      source = source_of p who from begun.0 told.1 told.2;
      each_test = All-nil (IsTest p (count_parts branches));
      ascend = tt;
      told = told;
      some = n.0;
      most = n.1;
    }
choice_of p who kernel relays from (t ∷ ts) branches begun told count =
    let n = count_all (t ∷ ts) branches count in
    record {
      guard = begun.0;
      chooser = begun.1.0;
      known = begun.1.1.0;
      chooses = begun.1.1.1;
      each_relay = told.0.0;
      source = told.0.1;
      each_test = known_of p (count_parts branches) (t ∷ ts) told.1.0 n.2;
      ascend = told.1.1;
      told = tt;
      some = n.0;
      most = n.1;
    }

pub told_of : (p : Program) (who : Guard) (kernel : ℕ) (relays : List Relay) (from : Peer) (tests : List Test) (branches : ℕ) → IsChoice p who kernel relays from tests branches → IsTold p who relays from tests
told_of p who kernel relays from [] branches is = is.told
told_of p who kernel relays from (t ∷ ts) branches is = ((is.each_relay, is.source), (said_of p branches (t ∷ ts) is.most is.each_test, is.ascend))

pub count_of : (p : Program) (who : Guard) (kernel : ℕ) (relays : List Relay) (from : Peer) (tests : List Test) (branches : Parts) → IsChoice p who kernel relays from tests (count_parts branches) → IsCount 0 tests branches
count_of p who kernel relays from tests branches is = all_count tests branches (is.some, is.most, λ k d less. (is.each_test k d less).branch)
