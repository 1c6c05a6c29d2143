-- Each call of MPI keeps its place.
use Rattle.std.proofs.Common.{◌≡◌, ℕ, zero, suc, ◌+◌, Bool, true, false, List, [], ◌∷◌, ◌++◌, refl, ap, ◌∙◌, append_assoc, inl, inr}
use Rattle.std.specs.Prelude.{◌⊎◌, codes, nat_eq, if◌then◌else◌, Some, None}
use Rattle.std.specs.List.{starts_with}
use Rattle.pb_syntax.specs.declared.tree.Op.{Op}
use Rattle.pb_affine.specs.declared.guard.Guard.{Guard}
use Rattle.pb_local.specs.declared.stmt.Peer.{Peer}
use Rattle.pb_local.specs.declared.stmt.Test.{Test}
use Rattle.pb_local.specs.declared.stmt.Relay.{Relay}
use Rattle.pb_local.specs.Tree.{Code, when, for_each, own, loop, again, choice, send, recv, run, barrier, broadcast, reduce, allreduce, Codes, nothing, more, Parts, no_part, part, Program}
use Rattle.pb_ctree.specs.Rules.{is_wordy}
use Rattle.pb_ctree.specs.Lines.{Line, line, close, else_open, makes, root_makes, mpi_recv}
use Rattle.pb_ctree.specs.Small.{outgoing, incoming, buffer_text, payload_of, words_text, op_text}
use Rattle.pb_ctree.specs.Spelling.{relay_lines, probe_lines, next_tests, test_lines, abort_lines, told_lines}
use Rattle.pb_cprint.specs.Written.{branch_item, is_last}
use Rattle.pb_types.specs.declared.element.Element.{Element}
use Rattle.pb_types.specs.declared.carried.Carried.{Carried}
use Rattle.pb_types.specs.declared.carried.Carried.TheVariants.{Words, Fixed, Open}
use Rattle.pb_typed.specs.Carrying.{carried_at, count_at, name_at}
use Rattle.pb_typed.specs.Pieces.{Piece, same, instead, as_they_are}
use Rattle.pb_typed.specs.Calls.{make_front, make_text, root_make_text, recv_text}
use Rattle.pb_typed.specs.Statements.{made_checks, rooms, arrivals, shared_rooms, root_rooms, all_rooms, made_pieces, send_pieces, recv_pieces, broadcast_pieces, reduce_pieces, allreduce_pieces, typed, typed_all, typed_other, typed_parts}
use Rattle.pb_typed_laws.specs.Calls.{has_data, KeepCalls}
use Rattle.pb_typed_laws.specs.Laws.{ArePlainCalls, EndsAgreeAt}

keeps_both : (p : Program) (t : List Carried) (xs ys : List Piece) → KeepCalls p t xs → KeepCalls p t ys → KeepCalls p t (xs ++ ys)
keeps_both p t [] ys first rest = rest
keeps_both p t (x ∷ xs) ys first rest = (first.0, keeps_both p t xs ys first.1 rest)

-- ---- how the branch of a choice is told

keep_relays : (p : Program) (t : List Carried) (d : ℕ) (rs : List Relay) (from : Peer) → KeepCalls p t (as_they_are (relay_lines p d rs from))
keep_relays p t d [] from = (refl, (refl, (refl, tt)))
keep_relays p t d (r ∷ rs) from = (refl, (refl, keep_relays p t d rs from))

keep_probes : (p : Program) (t : List Carried) (d : ℕ) (rs : List Relay) (from : Peer) → KeepCalls p t (as_they_are (probe_lines p d rs from))
keep_probes p t d [] from = (refl, tt)
keep_probes p t d (r ∷ rs) from = (refl, (refl, keep_relays p t d rs from))

keep_tests : (p : Program) (t : List Carried) (d : ℕ) (before : Test) (ts : List Test) → KeepCalls p t (as_they_are (next_tests p d before ts))
keep_tests p t d before [] = tt
keep_tests p t d before (x ∷ xs) = (refl, (refl, keep_tests p t d x xs))

as_both : (p : Program) (t : List Carried) (ls ms : List Line) → KeepCalls p t (as_they_are ls) → KeepCalls p t (as_they_are ms) → KeepCalls p t (as_they_are (ls ++ ms))
as_both p t [] ms first rest = rest
as_both p t (l ∷ ls) ms first rest = (first.0, as_both p t ls ms first.1 rest)

keep_told : (p : Program) (t : List Carried) (d : ℕ) (who : Guard) (rs : List Relay) (from : Peer) (ts : List Test) → KeepCalls p t (as_they_are (told_lines p d who rs from ts))
keep_told p t d who rs from [] = (refl, tt)
keep_told p t d who rs from (x ∷ xs) =
    let open_line = line d else_open true in
    let probes = probe_lines p (d + 1) rs from in
    let tests = test_lines p (d + 1) x xs in
    let stop = abort_lines (d + 1) in
    as_both p t (((open_line ∷ probes) ++ tests) ++ stop) (line d close true ∷ [])
    (as_both p t ((open_line ∷ probes) ++ tests) stop (as_both p t (open_line ∷ probes) tests (refl, keep_probes p t (d + 1) rs from) (refl, (refl, keep_tests p t (d + 1) x xs))) (refl, (refl, (refl, tt))))
    (refl, tt)

-- ---- actions

keep_words : (p : Program) (t : List Carried) (w : Bool) (xs : List Piece) → KeepCalls p t xs → KeepCalls p t (if w then xs else [])
keep_words p t true xs all = all
keep_words p t false xs all = tt

make_is_none : (c : Carried) (p : Program) (label : ℕ) (rest : List ℕ) → starts_with nat_eq (make_front c p label ++ rest) (codes "MPI_") ≡ false
make_is_none Words p label rest = refl
make_is_none (Fixed element number) p label rest = refl
make_is_none (Open element) p label rest = refl

keep_checks : (c : Carried) (p : Program) (t : List Carried) (d label : ℕ) → KeepCalls p t (made_checks c p d label)
keep_checks Words p t d label = tt
keep_checks (Fixed element number) p t d label = tt
keep_checks (Open element) p t d label = (refl, tt)

keep_rooms : (c : Carried) (p : Program) (t : List Carried) (d label : ℕ) (from : Peer) → KeepCalls p t (rooms c p d label from)
keep_rooms Words p t d label from = tt
keep_rooms (Fixed element number) p t d label from = tt
keep_rooms (Open element) p t d label from = (refl, (refl, tt))

keep_arrivals : (c : Carried) (p : Program) (t : List Carried) (d label : ℕ) → KeepCalls p t (arrivals c p d label)
keep_arrivals Words p t d label = tt
keep_arrivals (Fixed element number) p t d label = tt
keep_arrivals (Open element) p t d label = (refl, tt)

keep_shared : (c : Carried) (p : Program) (t : List Carried) (d label : ℕ) (root : Peer) → KeepCalls p t (shared_rooms c p d label root)
keep_shared Words p t d label root = tt
keep_shared (Fixed element number) p t d label root = tt
keep_shared (Open element) p t d label root = (refl, (refl, tt))

keep_root : (c : Carried) (p : Program) (t : List Carried) (d label : ℕ) (root : Peer) → KeepCalls p t (root_rooms c p d label root)
keep_root Words p t d label root = tt
keep_root (Fixed element number) p t d label root = tt
keep_root (Open element) p t d label root = (refl, (refl, tt))

keep_each : (c : Carried) (p : Program) (t : List Carried) (d label : ℕ) → KeepCalls p t (all_rooms c p d label)
keep_each Words p t d label = tt
keep_each (Fixed element number) p t d label = tt
keep_each (Open element) p t d label = (refl, (refl, tt))

keep_send : (p : Program) (t : List Carried) (d label : ℕ) (to : Peer) → KeepCalls p t (send_pieces p t d label to)
keep_send p t d label to =
    keeps_both p t (made_pieces p t d label to) _ (keep_words p t (is_wordy p label) _ (make_is_none (carried_at t label) p label _, keep_checks (carried_at t label) p t d label)) (refl, (refl, tt))

keep_recv : (p : Program) (t : List Carried) (d label : ℕ) (from : Peer) → KeepCalls p t (recv_pieces p t d label from)
keep_recv p t d label from =
    let c = carried_at t label in
    let m = instead d (mpi_recv label from) (recv_text p t label from) in
    keeps_both p t (rooms c p d label from ++ m ∷ arrivals c p d label) _
    (keeps_both p t (rooms c p d label from) (m ∷ arrivals c p d label) (keep_rooms c p t d label from) (refl, keep_arrivals c p t d label))
    (refl, keep_words p t (is_wordy p label) _ (refl, tt))

keep_broadcast : (p : Program) (t : List Carried) (d label : ℕ) (root : Peer) → KeepCalls p t (broadcast_pieces p t d label root)
keep_broadcast p t d label root =
    keeps_both p t (instead d (root_makes root label) (root_make_text p t label root None) ∷ shared_rooms (carried_at t label) p d label root) _
    (refl, keep_shared (carried_at t label) p t d label root) (refl, (refl, (refl, (refl, tt))))

keep_reduce : (p : Program) (t : List Carried) (d label : ℕ) (op : Op) (root : Peer) → KeepCalls p t (reduce_pieces p t d label op root)
keep_reduce p t d label op root =
    keeps_both p t (instead d (makes label) (make_text p t label (Some root)) ∷ root_rooms (carried_at t label) p d label root) _
    (make_is_none (carried_at t label) p label _, keep_root (carried_at t label) p t d label root) (refl, (refl, (refl, (refl, tt))))

keep_allreduce : (p : Program) (t : List Carried) (d label : ℕ) (op : Op) → KeepCalls p t (allreduce_pieces p t d label op)
keep_allreduce p t d label op =
    keeps_both p t (instead d (makes label) (make_text p t label None) ∷ all_rooms (carried_at t label) p d label) _
    (make_is_none (carried_at t label) p label _, keep_each (carried_at t label) p t d label) (refl, (refl, (refl, (refl, tt))))

keep_branch : (k : ℕ) (last : Bool) → has_data (branch_item k last) ≡ false
keep_branch zero last = refl
keep_branch (suc k) true = refl
keep_branch (suc k) false = refl

mutual
  keep : (p : Program) (t : List Carried) (d : ℕ) (c : Code) → KeepCalls p t (typed p t d c)
  keep p t d (when guards first other) = (refl, keeps_both p t (typed_all p t (d + 1) first) (typed_other p t d other) (keep_all p t (d + 1) first) (keep_other p t d other))
  keep p t d (for_each low high body) = (refl, keeps_both p t (typed_all p t (d + 1) body) (same d close ∷ []) (keep_all p t (d + 1) body) (refl, tt))
  keep p t d (own off) = (refl, tt)
  keep p t d (loop id body) = (refl, keeps_both p t (typed_all p t (d + 1) body) (same d close ∷ []) (keep_all p t (d + 1) body) (refl, tt))
  keep p t d (again id) = (refl, tt)
  keep p t d (choice who kernel relays from tests branches) =
      (refl, (refl, (refl, keeps_both p t (as_they_are (told_lines p d who relays from tests)) (typed_parts p t d 0 branches) (keep_told p t d who relays from tests) (keep_parts p t d 0 branches))))
  keep p t d (send label to) = keep_send p t d label to
  keep p t d (recv label from) = keep_recv p t d label from
  keep p t d (run kernel) = (refl, (refl, tt))
  keep p t d barrier = (refl, (refl, (refl, tt)))
  keep p t d (broadcast label root) = keep_broadcast p t d label root
  keep p t d (reduce label op root) = keep_reduce p t d label op root
  keep p t d (allreduce label op) = keep_allreduce p t d label op

  pub keep_all : (p : Program) (t : List Carried) (d : ℕ) (cs : Codes) → KeepCalls p t (typed_all p t d cs)
  keep_all p t d nothing = tt
  keep_all p t d (more c rest) = keeps_both p t (typed p t d c) (typed_all p t d rest) (keep p t d c) (keep_all p t d rest)

  keep_other : (p : Program) (t : List Carried) (d : ℕ) (cs : Codes) → KeepCalls p t (typed_other p t d cs)
  keep_other p t d nothing = (refl, tt)
  keep_other p t d (more c rest) =
      (refl, keeps_both p t (typed p t (d + 1) c ++ typed_all p t (d + 1) rest) (same d close ∷ []) (keeps_both p t (typed p t (d + 1) c) (typed_all p t (d + 1) rest) (keep p t (d + 1) c) (keep_all p t (d + 1) rest)) (refl, tt))

  keep_parts : (p : Program) (t : List Carried) (d k : ℕ) (ps : Parts) → KeepCalls p t (typed_parts p t d k ps)
  keep_parts p t d k no_part = (refl, tt)
  keep_parts p t d k (part b rest) =
      (keep_branch k (is_last rest), keeps_both p t (typed_all p t (d + 1) b) (typed_parts p t d (k + 1) rest) (keep_all p t (d + 1) b) (keep_parts p t d (k + 1) rest))

-- the parts of a reduction's plain call, one after the other
flat : (a b c d e rest : List ℕ) → (a ++ (b ++ (c ++ (d ++ (e ++ []))))) ++ rest ≡ a ++ (b ++ (c ++ (d ++ (e ++ rest))))
flat a b c d e rest =
    append_assoc a (b ++ (c ++ (d ++ (e ++ [])))) rest
    ∙ ap (λ w. a ++ w) (append_assoc b (c ++ (d ++ (e ++ []))) rest
    ∙ ap (λ w. b ++ w) (append_assoc c (d ++ (e ++ [])) rest
    ∙ ap (λ w. c ++ w) (append_assoc d (e ++ []) rest
    ∙ ap (λ w. d ++ w) (append_assoc e [] rest))))

pub plain_calls : (p : Program) → ArePlainCalls p
plain_calls p = record {
  send = λ label to. refl;
  recv = λ label from. refl;
  bcast = λ label root. refl;
  reduce = λ label op root. ap (λ w. codes "MPI_Reduce(" ++ w) (flat (buffer_text (payload_of p label) outgoing) (codes ", ") (words_text p label incoming) (codes ", ") (op_text op) _);
  allreduce = λ label op. ap (λ w. codes "MPI_Allreduce(" ++ w) (flat (buffer_text (payload_of p label) outgoing) (codes ", ") (words_text p label incoming) (codes ", ") (op_text op) _);
}

pub calls_stay : (p : Program) (t : List Carried) (d : ℕ) (body : Codes) → ArePlainCalls p × KeepCalls p t (typed_all p t d body)
calls_stay p t d body = (plain_calls p, keep_all p t d body)

pub ends_agree : (p : Program) (t : List Carried) (label : ℕ) → EndsAgreeAt p t label
ends_agree p t label = record { sent = refl; received = refl; counts = by_kind (carried_at t label) } where
  by_kind : (c : Carried) → (count_at c p label outgoing ≡ count_at c p label incoming) ⊎ ((element : Element) × (c ≡ Open element) × (count_at c p label incoming ≡ codes "m_" ++ name_at p label))
  by_kind Words = inl refl
  by_kind (Fixed element number) = inl refl
  by_kind (Open element) = inr (element, refl, refl)
