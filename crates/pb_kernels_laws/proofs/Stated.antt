-- No line of a statement is a marker.
use Rattle.std.proofs.Common.{◌≡◌, ℕ, zero, suc, ◌+◌, Bool, true, false, if◌then◌else◌, List, [], ◌∷◌, ◌++◌, refl}
use Rattle.pb_affine.specs.declared.guard.Guard.{Guard}
use Rattle.pb_local.specs.Pieces as P
use Rattle.pb_local.specs.declared.stmt.Peer.{Peer}
use Rattle.pb_local.specs.declared.stmt.Relay.{Relay}
use Rattle.pb_local.specs.declared.stmt.Test.{Test}
use Rattle.pb_local.specs.Tree.{Code, when, for_each, own, loop, again, choice, send, recv, run, barrier, broadcast, reduce, allreduce, Codes, nothing, more, Parts, no_part, part, Program}
use Rattle.pb_local.specs.WellMade.{Scope, behind, in_loop, loops_at, loops_in}
use Rattle.pb_ctree.specs.Bodies.{is_marker}
use Rattle.pb_ctree.specs.Lines.{Item, raw, close, else_open, if_open, else_if_open, for_open, own_is, loop_open, goto, makes, root_makes, takes, root_takes, mpi_send, mpi_recv, mpi_barrier, mpi_bcast, mpi_reduce, mpi_allreduce, calls, chooses, probe, test_open, else_test_open, picks, aborts, pick_open, else_pick_open, item_text, Line, line}
use Rattle.pb_ctree.specs.Rules.{is_wordy}
use Rattle.pb_ctree.specs.Spelling.{relay_lines, probe_lines, next_tests, test_lines, abort_lines, told_lines, if_wordy, branch_open, spelled, spelled_all, spelled_other, spelled_parts}
use Rattle.pb_ctree.specs.Texts.{line_text}
use Rattle.pb_cread.proofs.Clean.{IsStated}

-- ---- lines that aren't markers

abbrev pub ArePlain : Program → List Line → Type 0
ArePlain p [] = Unit {0}
ArePlain p (l ∷ ls) = (is_marker (line_text p l) ≡ false) × ArePlain p ls

pub plain_both : (p : Program) (a b : List Line) → ArePlain p a → ArePlain p b → ArePlain p (a ++ b)
plain_both p [] b h k = k
plain_both p (l ∷ ls) b h k = (h.0, plain_both p ls b h.1 k)

item_plain : (p : Program) (i : Item) → IsStated i → is_marker (item_text p i ++ 10 ∷ []) ≡ false
item_plain p (raw text) s = absurd s
item_plain p close s = refl
item_plain p else_open s = refl
item_plain p (if_open guards) s = refl
item_plain p (else_if_open guards) s = refl
item_plain p (for_open low high) s = refl
item_plain p (own_is off) s = refl
item_plain p (loop_open id) s = refl
item_plain p (goto id) s = refl
item_plain p (makes label) s = refl
item_plain p (root_makes root label) s = refl
item_plain p (takes label side) s = refl
item_plain p (root_takes root label) s = refl
item_plain p (mpi_send label to) s = refl
item_plain p (mpi_recv label from) s = refl
item_plain p mpi_barrier s = refl
item_plain p (mpi_bcast label root) s = refl
item_plain p (mpi_reduce label op root) s = refl
item_plain p (mpi_allreduce label op) s = refl
item_plain p (calls kernel) s = refl
item_plain p (chooses kernel) s = refl
item_plain p (probe from) s = refl
item_plain p (test_open label guards) s = refl
item_plain p (else_test_open label guards) s = refl
item_plain p (picks branch) s = refl
item_plain p aborts s = refl
item_plain p (pick_open branch) s = refl
item_plain p (else_pick_open branch) s = refl

plain : (p : Program) (d : ℕ) (i : Item) → IsStated i → is_marker (P.line d (item_text p i)) ≡ false
plain p zero i s = item_plain p i s
plain p (suc d) i s = refl

-- ---- lines of statements

abbrev AreStated : List Line → Type 0
AreStated [] = Unit {0}
AreStated (l ∷ ls) = IsStated l.item × AreStated ls

both : (a b : List Line) → AreStated a → AreStated b → AreStated (a ++ b)
both [] b h k = k
both (l ∷ ls) b h k = (h.0, both ls b h.1 k)

relays_stated : (p : Program) (d : ℕ) (rs : List Relay) (from : Peer) → AreStated (relay_lines p d rs from)
relays_stated p d [] from = (tt, (tt, (tt, tt)))
relays_stated p d (r ∷ rs) from = (tt, (tt, relays_stated p d rs from))

probes_stated : (p : Program) (d : ℕ) (rs : List Relay) (from : Peer) → AreStated (probe_lines p d rs from)
probes_stated p d [] from = (tt, tt)
probes_stated p d (r ∷ rs) from = (tt, (tt, relays_stated p d rs from))

tests_stated : (p : Program) (d : ℕ) (t : Test) (ts : List Test) → AreStated (next_tests p d t ts)
tests_stated p d t [] = tt
tests_stated p d t (u ∷ us) = (tt, (tt, tests_stated p d u us))

told_stated : (p : Program) (d : ℕ) (who : Guard) (rs : List Relay) (from : Peer) (ts : List Test) → AreStated (told_lines p d who rs from ts)
told_stated p d who rs from [] = (tt, tt)
told_stated p d who rs from (t ∷ ts) = (
  tt,
  both (probe_lines p (d + 1) rs from ++ test_lines p (d + 1) t ts ++ abort_lines (d + 1)) (line d close true ∷ [])
      (both (probe_lines p (d + 1) rs from ++ test_lines p (d + 1) t ts) (abort_lines (d + 1))
      (both (probe_lines p (d + 1) rs from) (test_lines p (d + 1) t ts) (probes_stated p (d + 1) rs from) (tt, (tt, tests_stated p (d + 1) t ts))) (tt, (tt, (tt, tt))))
      (tt, tt),
)

wordy_stated : (p : Program) (label : ℕ) (l : Line) → IsStated l.item → AreStated (if_wordy p label l)
wordy_stated p label l s = at (is_wordy p label) where
  at : (b : Bool) → AreStated (if b then l ∷ [] else [])
  at true = (s, tt)
  at false = tt

branch_stated : (d k : ℕ) (rest : Parts) (tests : List Test) → IsStated (branch_open d k rest tests).item
branch_stated d zero rest tests = tt
branch_stated d (suc k) no_part tests = tt
branch_stated d (suc k) (part b rest) tests = tt

mutual
  code_stated : (p : Program) (d : ℕ) (s : Scope) (c : Code) → AreStated (spelled p d s c)
  code_stated p d s (when guards first other) =
      (tt, both (spelled_all p (d + 1) s first) (spelled_other p d (behind s (loops_in first)) other) (codes_stated p (d + 1) s first) (other_stated p d (behind s (loops_in first)) other))
  code_stated p d s (for_each low high body) = (tt, both (spelled_all p (d + 1) s body) (line d close true ∷ []) (codes_stated p (d + 1) s body) (tt, tt))
  code_stated p d s (own off) = (tt, tt)
  code_stated p d s (loop id body) = (tt, both (spelled_all p (d + 1) (in_loop s id) body) (line d close true ∷ []) (codes_stated p (d + 1) (in_loop s id) body) (tt, tt))
  code_stated p d s (again id) = (tt, tt)
  code_stated p d s (choice who kernel relays from tests branches) =
      (tt, (tt, both (told_lines p d who relays from tests) (spelled_parts p d s 0 tests branches) (told_stated p d who relays from tests) (parts_stated p d s 0 tests branches)))
  code_stated p d s (send label to) = both (if_wordy p label _) (_ ∷ []) (wordy_stated p label _ tt) (tt, tt)
  code_stated p d s (recv label from) = (tt, wordy_stated p label _ tt)
  code_stated p d s (run kernel) = (tt, tt)
  code_stated p d s barrier = (tt, tt)
  code_stated p d s (broadcast label root) = (tt, (tt, (tt, tt)))
  code_stated p d s (reduce label op root) = (tt, (tt, (tt, tt)))
  code_stated p d s (allreduce label op) = (tt, (tt, (tt, tt)))

  codes_stated : (p : Program) (d : ℕ) (s : Scope) (cs : Codes) → AreStated (spelled_all p d s cs)
  codes_stated p d s nothing = tt
  codes_stated p d s (more c rest) = both (spelled p d s c) (spelled_all p d (behind s (loops_at c)) rest) (code_stated p d s c) (codes_stated p d (behind s (loops_at c)) rest)

  other_stated : (p : Program) (d : ℕ) (s : Scope) (cs : Codes) → AreStated (spelled_other p d s cs)
  other_stated p d s nothing = (tt, tt)
  other_stated p d s (more c rest) = (
    tt,
    both (spelled p (d + 1) s c ++ spelled_all p (d + 1) (behind s (loops_at c)) rest) (line d close true ∷ [])
        (both (spelled p (d + 1) s c) (spelled_all p (d + 1) (behind s (loops_at c)) rest) (code_stated p (d + 1) s c) (codes_stated p (d + 1) (behind s (loops_at c)) rest))
        (tt, tt),
  )

  parts_stated : (p : Program) (d : ℕ) (s : Scope) (k : ℕ) (tests : List Test) (bs : Parts) → AreStated (spelled_parts p d s k tests bs)
  parts_stated p d s k tests no_part = (tt, tt)
  parts_stated p d s k tests (part b rest) =
      (branch_stated d k rest tests, both (spelled_all p (d + 1) s b) (spelled_parts p d (behind s (loops_in b)) (k + 1) tests rest) (codes_stated p (d + 1) s b) (parts_stated p d (behind s (loops_in b)) (k + 1) tests rest))

stated_plain : (p : Program) (ls : List Line) → AreStated ls → ArePlain p ls
stated_plain p [] h = tt
stated_plain p (l ∷ ls) h = (plain p l.depth l.item h.0, stated_plain p ls h.1)

pub statements_plain : (p : Program) (d : ℕ) (s : Scope) (cs : Codes) → ArePlain p (spelled_all p d s cs)
statements_plain p d s cs = stated_plain p (spelled_all p d s cs) (codes_stated p d s cs)
