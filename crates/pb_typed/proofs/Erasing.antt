-- What is left of the pieces of statements is their plain text.
use Rattle.std.proofs.Common.{◌≡◌, ℕ, zero, suc, ◌+◌, Bool, true, false, List, [], ◌∷◌, ◌++◌, refl, sym, ap, ◌∙◌, append_assoc}
use Rattle.std.specs.Prelude.{if◌then◌else◌, ◌&&◌, nat_eq}
use Rattle.pb_syntax.specs.declared.tree.Op.{Op}
use Rattle.pb_local.specs.declared.stmt.Peer.{Peer}
use Rattle.pb_local.specs.declared.stmt.Test.{Test}
use Rattle.pb_local.specs.Tree.{Code, when, for_each, own, loop, again, choice, send, recv, run, barrier, broadcast, reduce, allreduce, Codes, nothing, more, Parts, no_part, part, Program}
use Rattle.pb_local.specs.WellMade.{Scope, behind, in_loop, loops_at, loops_in}
use Rattle.pb_ctree.specs.Lines.{close, else_open, if_open, for_open, loop_open, makes, takes, mpi_send, mpi_recv, chooses, Line, line}
use Rattle.pb_ctree.specs.Rules.{is_wordy, is_offset, is_guard, are_guards, is_peer, is_label, can_choose, is_chooser}
use Rattle.pb_ctree.specs.Small.{incoming}
use Rattle.pb_ctree.specs.Spelling.{told_lines, branch_open, spelled, spelled_all, spelled_other, spelled_parts}
use Rattle.pb_ctree.specs.Texts.{text_of}
use Rattle.pb_cprint_lines.specs.Printed.{bytes}
use Rattle.pb_cprint.specs.Written.{branch_item, is_last}
use Rattle.pb_cprint.proofs.Texts.{text_append, both}
use Rattle.pb_types.specs.declared.carried.Carried.{Carried}
use Rattle.pb_types.specs.declared.carried.Carried.TheVariants.{Words, Fixed, Open}
use Rattle.pb_typed.specs.Carrying.{carried_at}
use Rattle.pb_typed.specs.Pieces.{Piece, same, instead, added, erased, erased_text, as_they_are, further}
use Rattle.pb_typed.specs.Hooks.{choose_hook}
use Rattle.pb_typed.specs.Statements.{parts_in, made_checks, rooms, arrivals, typed, typed_all, typed_other, typed_parts}

pub erased_append : (p : Program) (xs ys : List Piece) → erased_text p (xs ++ ys) ≡ erased_text p xs ++ erased_text p ys
erased_append p [] ys = refl
erased_append p (x ∷ xs) ys = ap (λ w. erased p x ++ w) (erased_append p xs ys) ∙ sym (append_assoc (erased p x) (erased_text p xs) (erased_text p ys))

pub they_are : (p : Program) (ls : List Line) → erased_text p (as_they_are ls) ≡ text_of p ls
they_are p [] = refl
they_are p (l ∷ ls) = ap (λ w. bytes p l.depth l.item ++ w) (they_are p ls)

pub no_further : (p : Program) (d : ℕ) (ts : List (List ℕ)) → erased_text p (further d ts) ≡ []
no_further p d [] = refl
no_further p d (t ∷ ts) = no_further p d ts

-- pieces and lines that leave one text, before others that do
pub joins : (p : Program) (xs ys : List Piece) (ls ms : List Line) → erased_text p xs ≡ text_of p ls → erased_text p ys ≡ text_of p ms → erased_text p (xs ++ ys) ≡ text_of p (ls ++ ms)
joins p xs ys ls ms first rest =
    erased_append p xs ys ∙ both (erased_text p xs) (erased_text p ys) (text_of p ls) (text_of p ms) first rest ∙ sym (text_append p ls ms)

send_left : (p : Program) (d label : ℕ) (to : Peer) (a b w : Bool) (c : Carried) (x h y : List ℕ)
    → erased_text p ((if w then instead d (makes label) x ∷ made_checks c p d label else []) ++ added d h ∷ instead d (mpi_send label to) y ∷ [])
    ≡ text_of p ((if w then line d (makes label) a ∷ [] else []) ++ line d (mpi_send label to) b ∷ [])
send_left p d label to a b true Words x h y = refl
send_left p d label to a b true (Fixed element number) x h y = refl
send_left p d label to a b true (Open element) x h y = refl
send_left p d label to a b false c x h y = refl

recv_left : (p : Program) (d label : ℕ) (from : Peer) (a b w : Bool) (c : Carried) (x h y : List ℕ)
    → erased_text p (rooms c p d label from ++ instead d (mpi_recv label from) x ∷ arrivals c p d label ++ added d h ∷ (if w then instead d (takes label incoming) y ∷ [] else []))
    ≡ text_of p (line d (mpi_recv label from) a ∷ (if w then line d (takes label incoming) b ∷ [] else []))
recv_left p d label from a b true Words x h y = refl
recv_left p d label from a b true (Fixed element number) x h y = refl
recv_left p d label from a b true (Open element) x h y = refl
recv_left p d label from a b false Words x h y = refl
recv_left p d label from a b false (Fixed element number) x h y = refl
recv_left p d label from a b false (Open element) x h y = refl

broadcast_left : (p : Program) (d label : ℕ) (root : Peer) (s : Scope) (t : List Carried) (c : Carried) → carried_at t label ≡ c → erased_text p (typed p t d (broadcast label root)) ≡ text_of p (spelled p d s (broadcast label root))
broadcast_left p d label root s t Words is = rw is refl
broadcast_left p d label root s t (Fixed element number) is = rw is refl
broadcast_left p d label root s t (Open element) is = rw is refl

reduce_left : (p : Program) (d label : ℕ) (op : Op) (root : Peer) (s : Scope) (t : List Carried) (c : Carried) → carried_at t label ≡ c → erased_text p (typed p t d (reduce label op root)) ≡ text_of p (spelled p d s (reduce label op root))
reduce_left p d label op root s t Words is = rw is refl
reduce_left p d label op root s t (Fixed element number) is = rw is refl
reduce_left p d label op root s t (Open element) is = rw is refl

allreduce_left : (p : Program) (d label : ℕ) (op : Op) (s : Scope) (t : List Carried) (c : Carried) → carried_at t label ≡ c → erased_text p (typed p t d (allreduce label op)) ≡ text_of p (spelled p d s (allreduce label op))
allreduce_left p d label op s t Words is = rw is refl
allreduce_left p d label op s t (Fixed element number) is = rw is refl
allreduce_left p d label op s t (Open element) is = rw is refl

branch_left : (p : Program) (d k : ℕ) (rest : Parts) (tests : List Test) → bytes p d (branch_item k (is_last rest)) ≡ bytes p (branch_open d k rest tests).depth (branch_open d k rest tests).item
branch_left p d zero rest tests = refl
branch_left p d (suc k) no_part tests = refl
branch_left p d (suc k) (part b rest) tests = refl

-- a piece and a line, and what stands behind them
heads : (p : Program) (x : Piece) (l : Line) (xs ys : List Piece) (ls ms : List Line) → erased p x ≡ bytes p l.depth l.item → erased_text p xs ≡ text_of p ls → erased_text p ys ≡ text_of p ms
    → erased_text p (x ∷ xs ++ ys) ≡ text_of p (l ∷ ls ++ ms)
heads p x l xs ys ls ms one first rest = joins p (x ∷ xs) ys (l ∷ ls) ms (both (erased p x) (erased_text p xs) (bytes p l.depth l.item) (text_of p ls) one first) rest

mutual
  stmt_left : (p : Program) (t : List Carried) (d : ℕ) (s : Scope) (c : Code) → erased_text p (typed p t d c) ≡ text_of p (spelled p d s c)
  stmt_left p t d s (when guards first other) =
      heads p (same d (if_open guards)) (line d (if_open guards) (are_guards p guards)) (typed_all p t (d + 1) first) (typed_other p t d other) (spelled_all p (d + 1) s first) (spelled_other p d (behind s (loops_in first)) other)
      refl (all_left p t (d + 1) s first) (other_left p t d (behind s (loops_in first)) other)
  stmt_left p t d s (for_each low high body) =
      heads p (same d (for_open low high)) (line d (for_open low high) (is_offset low.off && is_offset high.off)) (typed_all p t (d + 1) body) (same d close ∷ []) (spelled_all p (d + 1) s body) (line d close true ∷ [])
      refl (all_left p t (d + 1) s body) refl
  stmt_left p t d s (own off) = refl
  stmt_left p t d s (loop id body) =
      heads p (same d (loop_open id)) (line d (loop_open id) (nat_eq id s.loops)) (typed_all p t (d + 1) body) (same d close ∷ []) (spelled_all p (d + 1) (in_loop s id) body) (line d close true ∷ [])
      refl (all_left p t (d + 1) (in_loop s id) body) refl
  stmt_left p t d s (again id) = refl
  stmt_left p t d s (choice who kernel relays from tests branches) =
      let told = told_lines p d who relays from tests in
      heads p (same d (if_open (who ∷ []))) (line d (if_open (who ∷ [])) (is_guard p who))
      (same (d + 1) (chooses kernel) ∷ added (d + 1) (choose_hook p kernel (parts_in branches)) ∷ as_they_are told) (typed_parts p t d 0 branches)
      (line (d + 1) (chooses kernel) (is_chooser who && can_choose p kernel) ∷ told) (spelled_parts p d s 0 tests branches)
      refl (ap (λ w. bytes p (d + 1) (chooses kernel) ++ w) (they_are p told)) (parts_left p t d s 0 tests branches)
  stmt_left p t d s (send label to) = send_left p d label to (is_label p label) (is_label p label && is_peer p to) (is_wordy p label) (carried_at t label) _ _ _
  stmt_left p t d s (recv label from) = recv_left p d label from (is_label p label && is_peer p from) true (is_wordy p label) (carried_at t label) _ _ _
  stmt_left p t d s (run kernel) = refl
  stmt_left p t d s barrier = refl
  stmt_left p t d s (broadcast label root) = broadcast_left p d label root s t (carried_at t label) refl
  stmt_left p t d s (reduce label op root) = reduce_left p d label op root s t (carried_at t label) refl
  stmt_left p t d s (allreduce label op) = allreduce_left p d label op s t (carried_at t label) refl

  pub all_left : (p : Program) (t : List Carried) (d : ℕ) (s : Scope) (cs : Codes) → erased_text p (typed_all p t d cs) ≡ text_of p (spelled_all p d s cs)
  all_left p t d s nothing = refl
  all_left p t d s (more c rest) =
      joins p (typed p t d c) (typed_all p t d rest) (spelled p d s c) (spelled_all p d (behind s (loops_at c)) rest) (stmt_left p t d s c) (all_left p t d (behind s (loops_at c)) rest)

  other_left : (p : Program) (t : List Carried) (d : ℕ) (s : Scope) (cs : Codes) → erased_text p (typed_other p t d cs) ≡ text_of p (spelled_other p d s cs)
  other_left p t d s nothing = refl
  other_left p t d s (more c rest) =
      heads p (same d else_open) (line d else_open true) (typed p t (d + 1) c ++ typed_all p t (d + 1) rest) (same d close ∷ []) (spelled p (d + 1) s c ++ spelled_all p (d + 1) (behind s (loops_at c)) rest) (line d close true ∷ [])
      refl (joins p (typed p t (d + 1) c) (typed_all p t (d + 1) rest) (spelled p (d + 1) s c) (spelled_all p (d + 1) (behind s (loops_at c)) rest) (stmt_left p t (d + 1) s c) (all_left p t (d + 1) (behind s (loops_at c)) rest)) refl

  parts_left : (p : Program) (t : List Carried) (d : ℕ) (s : Scope) (k : ℕ) (tests : List Test) (ps : Parts) → erased_text p (typed_parts p t d k ps) ≡ text_of p (spelled_parts p d s k tests ps)
  parts_left p t d s k tests no_part = refl
  parts_left p t d s k tests (part b rest) =
      heads p (same d (branch_item k (is_last rest))) (branch_open d k rest tests) (typed_all p t (d + 1) b) (typed_parts p t d (k + 1) rest) (spelled_all p (d + 1) s b) (spelled_parts p d (behind s (loops_in b)) (k + 1) tests rest)
      (branch_left p d k rest tests) (all_left p t (d + 1) s b) (parts_left p t d (behind s (loops_in b)) (k + 1) tests rest)
