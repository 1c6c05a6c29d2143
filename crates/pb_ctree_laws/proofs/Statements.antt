-- Statements are well made exactly where each of their lines keeps its rule.
use Rattle.std.proofs.Common.{◌≡◌, ℕ, ◌+◌, Bool, true, false, ◌&&◌, if◌then◌else◌, List, [], ◌∷◌, ◌++◌, refl, Decides, nat_lt, nat_eq}
use Rattle.std.specs.List.{list_any}
use Rattle.std.proofs.lemmas.Bool.Decides.{Decides-and, Decides-like, Decides-ltb, Decides-eqb}
use Rattle.pb_affine.specs.declared.guard.Guard.{Guard}
use Rattle.pb_syntax.specs.declared.tree.Op.{Op}
use Rattle.pb_local.specs.declared.stmt.Peer.{Peer}
use Rattle.pb_local.specs.declared.stmt.Test.{Test}
use Rattle.pb_local.specs.declared.stmt.Relay.{Relay}
use Rattle.pb_local.specs.Tables.{label_at}
use Rattle.pb_local.specs.Tree.{Code, when, for_each, own, loop, again, choice, send, recv, run, barrier, broadcast, reduce, allreduce, Codes, nothing, more, Parts, no_part, part, Program}
use Rattle.pb_local.specs.WellMade.{IsPeer, IsLabel, HasWords, count_parts, Scope, behind, in_loop, loops_at, loops_in, IsMade, AreMade, ArePartsMade}
use Rattle.pb_ctree.specs.Lines.{close, mpi_send, makes, takes, line}
use Rattle.pb_ctree.specs.Small.{incoming, payload_of}
use Rattle.pb_ctree.specs.Rules.{is_offset, is_guard, are_guards, is_peer, is_label, is_wordy, goes_with, computes, can_choose, is_chooser}
use Rattle.pb_ctree.specs.Spelling.{told_lines, spelled, spelled_all, spelled_other, spelled_parts}
use Rattle.pb_ctree.specs.Texts.{all_kept}
use Rattle.pb_ctree_laws.proofs.Tests.{always, and_true, contains_is, lines_and, lines_before}
use Rattle.pb_ctree_laws.proofs.Parts.{offset_is, guard_is, guards_are, peer_is, label_is, words_are, goes_is, goes_wordy, computes_is, can_choose_is, chooser_is}
use Rattle.pb_ctree_laws.proofs.Choices.{IsCount, branch_is, choice_of, told_is, told_of, count_of}

abbrev IsSpelledSo : Program → ℕ → Scope → Code → Type 0
IsSpelledSo p d s c = Decides (all_kept (spelled p d s c)) (IsMade p s c)

-- ---- messages and collectives

both_are : (p : Program) (label : ℕ) (e : Peer) → Decides (is_label p label && is_peer p e) (IsLabel p label × IsPeer p e)
both_are p label e = Decides-and (is_label p label) (is_peer p e) (label_is p label) (peer_is p e)

send_is : (p : Program) (d label : ℕ) (to : Peer) (wordy : Bool) →
    Decides (all_kept ((if wordy then line d (makes label) (is_label p label) ∷ [] else []) ++ line d (mpi_send label to) (is_label p label && is_peer p to) ∷ [])) (IsLabel p label × IsPeer p to)
send_is p d label to true =
    Decides-like _ (λ w. w.1) (λ w. (w.0, w)) (Decides-and (is_label p label) _ (label_is p label) (and_true _ (both_are p label to)))
send_is p d label to false = and_true _ (both_are p label to)

wordy_kept : (d label : ℕ) (wordy : Bool) → all_kept (if wordy then line d (takes label incoming) true ∷ [] else []) ≡ true
wordy_kept d label true = refl
wordy_kept d label false = refl

recv_is : (p : Program) (d : ℕ) (s : Scope) (label : ℕ) (from : Peer) → IsSpelledSo p d s (recv label from)
recv_is p d s label from =
    Decides-like _ (λ w. w.0) (λ w. (w, tt))
    (Decides-and (is_label p label && is_peer p from) _ (both_are p label from) (always _ (wordy_kept d label (is_wordy p label))))

wordy_are : (p : Program) (label : ℕ) → Decides (is_label p label && is_wordy p label) (IsLabel p label × HasWords (label_at p label).payload)
wordy_are p label = Decides-and (is_label p label) (is_wordy p label) (label_is p label) (words_are (payload_of p label))

broadcast_is : (p : Program) (d : ℕ) (s : Scope) (label : ℕ) (root : Peer) → IsSpelledSo p d s (broadcast label root)
broadcast_is p d s label root =
    Decides-like _ (λ w. (w.0.0, w.0.1, w.1)) (λ w. ((w.0, w.1), w.2))
    (and_true _ (Decides-and (is_label p label && is_wordy p label) (is_peer p root) (wordy_are p label) (peer_is p root)))

reduce_is : (p : Program) (d : ℕ) (s : Scope) (label : ℕ) (op : Op) (root : Peer) → IsSpelledSo p d s (reduce label op root)
reduce_is p d s label op root =
    Decides-like _
    (λ w. (w.0.0, w.1.0, w.1.1))
    (λ w. ((w.0, goes_wordy op (payload_of p label) w.1), (w.1, w.2)))
    (Decides-and (is_label p label && is_wordy p label) _ (wordy_are p label)
    (and_true _ (Decides-and (goes_with op (payload_of p label)) (is_peer p root) (goes_is op (payload_of p label)) (peer_is p root))))

allreduce_is : (p : Program) (d : ℕ) (s : Scope) (label : ℕ) (op : Op) → IsSpelledSo p d s (allreduce label op)
allreduce_is p d s label op =
    Decides-like _
    (λ w. (w.0.0, w.1))
    (λ w. ((w.0, goes_wordy op (payload_of p label) w.1), w.1))
    (Decides-and (is_label p label && is_wordy p label) _ (wordy_are p label)
    (and_true _ (goes_is op (payload_of p label))))

-- ---- a choice, from its branches

choice_is : (p : Program) (d : ℕ) (s : Scope) (who : Guard) (kernel : ℕ) (relays : List Relay) (from : Peer) (tests : List Test) (branches : Parts) →
    Decides (all_kept (spelled_parts p d s 0 tests branches)) (ArePartsMade p s branches × IsCount 0 tests branches) → IsSpelledSo p d s (choice who kernel relays from tests branches)
choice_is p d s who kernel relays from tests branches parts =
    Decides-like _
    (λ w. (choice_of p who kernel relays from tests branches (w.0, w.1.0) w.1.1.0 w.1.1.1.1, w.1.1.1.0))
    (λ w. let c = w.0 in (c.guard, ((c.chooser, (c.known, c.chooses)), (told_of p who kernel relays from tests (count_parts branches) c, (w.1, count_of p who kernel relays from tests branches c)))))
    (Decides-and (is_guard p who) _ (guard_is p who)
    (Decides-and (is_chooser who && can_choose p kernel) _ (Decides-and (is_chooser who) (can_choose p kernel) (chooser_is who) (can_choose_is p kernel))
    (lines_and (told_lines p d who relays from tests) (spelled_parts p d s 0 tests branches) (told_is p d who relays from tests) parts)))

-- ---- statements

mutual
  pub code_is : (p : Program) (d : ℕ) (s : Scope) (c : Code) → Decides (all_kept (spelled p d s c)) (IsMade p s c)
  code_is p d s (when guards first other) =
      Decides-like _ (λ w. (w.0, w.1.0, w.1.1)) (λ w. (w.0, (w.1, w.2)))
      (Decides-and (are_guards p guards) _ (guards_are p guards)
      (lines_and (spelled_all p (d + 1) s first) (spelled_other p d (behind s (loops_in first)) other) (codes_are p (d + 1) s first) (other_is p d (behind s (loops_in first)) other)))
  code_is p d s (for_each low high body) =
      Decides-like _ (λ w. (w.0.0, w.0.1, w.1)) (λ w. ((w.0, w.1), w.2))
      (Decides-and (is_offset low.off && is_offset high.off) _ (Decides-and (is_offset low.off) (is_offset high.off) (offset_is low.off) (offset_is high.off))
      (lines_before (spelled_all p (d + 1) s body) (line d close true ∷ []) (codes_are p (d + 1) s body) refl))
  code_is p d s (own off) = and_true (is_offset off) (offset_is off)
  code_is p d s (loop id body) =
      Decides-and (nat_eq id s.loops) _ (Decides-eqb id s.loops)
      (lines_before (spelled_all p (d + 1) (in_loop s id) body) (line d close true ∷ []) (codes_are p (d + 1) (in_loop s id) body) refl)
  code_is p d s (again id) = and_true (list_any (nat_eq id) s.around) (contains_is s.around id)
  code_is p d s (choice who kernel relays from tests branches) =
      choice_is p d s who kernel relays from tests branches (parts_are p d s 0 tests branches)
  code_is p d s (send label to) = send_is p d label to (is_wordy p label)
  code_is p d s (recv label from) = recv_is p d s label from
  code_is p d s (run kernel) = and_true (computes p kernel) (computes_is p kernel)
  code_is p d s barrier = always true refl
  code_is p d s (broadcast label root) = broadcast_is p d s label root
  code_is p d s (reduce label op root) = reduce_is p d s label op root
  code_is p d s (allreduce label op) = allreduce_is p d s label op

  pub codes_are : (p : Program) (d : ℕ) (s : Scope) (cs : Codes) → Decides (all_kept (spelled_all p d s cs)) (AreMade p s cs)
  codes_are p d s nothing = always true refl
  codes_are p d s (more c rest) =
      lines_and (spelled p d s c) (spelled_all p d (behind s (loops_at c)) rest) (code_is p d s c) (codes_are p d (behind s (loops_at c)) rest)

  pub other_is : (p : Program) (d : ℕ) (s : Scope) (cs : Codes) → Decides (all_kept (spelled_other p d s cs)) (AreMade p s cs)
  other_is p d s nothing = always true refl
  other_is p d s (more c rest) =
      lines_before (spelled p (d + 1) s c ++ spelled_all p (d + 1) (behind s (loops_at c)) rest) (line d close true ∷ [])
      (lines_and (spelled p (d + 1) s c) (spelled_all p (d + 1) (behind s (loops_at c)) rest) (code_is p (d + 1) s c) (codes_are p (d + 1) (behind s (loops_at c)) rest)) refl

  pub parts_are : (p : Program) (d : ℕ) (s : Scope) (k : ℕ) (tests : List Test) (bs : Parts) → Decides (all_kept (spelled_parts p d s k tests bs)) (ArePartsMade p s bs × IsCount k tests bs)
  parts_are p d s k tests no_part = Decides-like _ (λ w. (tt, w)) (λ w. w.1) (and_true (nat_lt 1 k) (Decides-ltb 1 k))
  parts_are p d s k tests (part b rest) =
      branch_is d k b rest tests (spelled_all p (d + 1) s b) (spelled_parts p d (behind s (loops_in b)) (k + 1) tests rest)
      (codes_are p (d + 1) s b) (parts_are p d (behind s (loops_in b)) (k + 1) tests rest)
