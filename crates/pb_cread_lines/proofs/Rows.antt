-- What is spelled of the rows of a well-made head is read again.
use Rattle.std.proofs.Common.{◌≡◌, ℕ, ◌<◌, Bool, true, false, List, [], ◌∷◌, ◌++◌, length, Option, Some, None, refl, sym, ap, ◌∙◌, subst, arith, nat_eq, nat_lt, ne_eqb}
use Rattle.std.specs.Prelude.{codes, decimal, IsSome}
use Rattle.std.proofs.lemmas.Bool.{ltb-true, ltb-false}
use Rattle.std.proofs.lemmas.List.{get_or_past}
use Rattle.pb_syntax.specs.declared.tree.Payload.{Payload}
use Rattle.pb_syntax.specs.declared.tree.Payload.TheVariants.{Unit as NoWords, Int32, Uint32}
use Rattle.pb_syntax.specs.declared.tree.Op.{Op}
use Rattle.pb_syntax.specs.declared.tree.Op.TheVariants.{Min, Max, Sum}
use Rattle.pb_syntax.specs.declared.core_label.CoreLabel.{CoreLabel}
use Rattle.pb_local.specs.declared.stmt.Peer.{Peer}
use Rattle.pb_local.specs.Pieces.{joined}
use Rattle.pb_local.specs.Tables.{role_at, label_at, kernel_at}
use Rattle.pb_local.specs.Tree.{Program}
use Rattle.pb_local.specs.WellMade.{IsPayload}
use Rattle.pb_ctree.specs.Small.{lin_text, peer_text, Side, outgoing, incoming, buffer_text, type_text, count_of, payload_of, words_text, op_text, reduced_text}
use Rattle.pb_cread_lines.specs.Fits.{FitsPeer, HasLabel, HasKernel}
use Rattle.pb_cread_lines.specs.Guess.{name_at, peer_at, int_at, uint_at, words_at, held_at, op_at, reduced_words_at, reduced_at}
use Rattle.pb_cread_lines.specs.Head.{HasHead, AreTables, holding}
use Rattle.pb_cread_lines.specs.Parts.{strip}
use Rattle.pb_cread_lines.specs.declared.tables.Tables.{Tables}
use Rattle.pb_cread_lines.proofs.Guards.{onto, joined_onto}
use Rattle.pb_cread_lines.proofs.Lookups.{row_again}
use Rattle.pb_cread_lines.proofs.Numbers.{Ends, number_again, lin_again}

pub label_again : (t : Tables) (p : Program) (k : ℕ) (rest : List ℕ) → AreTables t p → HasHead p → HasLabel p k → name_at t.labels ((label_at p k).name ++ 40 ∷ rest) ≡ Some (k, 40 ∷ rest)
label_again t p k rest tables head lt = row_again (λ l. l.name) p.labels _ t.labels k rest tables.labels head.labels.distinct lt (head.labels.each k _ lt).name

pub kernel_again : (t : Tables) (p : Program) (k : ℕ) (rest : List ℕ) → AreTables t p → HasHead p → HasKernel p k → name_at t.kernels ((kernel_at p k).name ++ 40 ∷ rest) ≡ Some (k, 40 ∷ rest)
kernel_again t p k rest tables head lt = row_again (λ l. l.name) p.kernels _ t.kernels k rest tables.kernels head.kernels.distinct lt (head.kernels.each k _ lt)

role_again : (t : Tables) (p : Program) (k : ℕ) (rest : List ℕ) → AreTables t p → HasHead p → k < length p.roles → name_at t.roles ((role_at p k).name ++ 40 ∷ rest) ≡ Some (k, 40 ∷ rest)
role_again t p k rest tables head lt = row_again (λ l. l.name) p.roles _ t.roles k rest tables.roles head.roles.distinct lt (head.roles.each k _ lt).name

-- a peer, up to what stands behind its parenthesis
pub peer_again : (t : Tables) (p : Program) (e : Peer) (rest : List ℕ) → AreTables t p → HasHead p → FitsPeer p e → peer_at t (peer_text p e ++ rest) ≡ Some (e, 41 ∷ rest)
unfolding peer_at strip
peer_again t p e rest tables head fits =
    let ends : Ends (41 ∷ rest) = record { number = refl; plus = refl; minus = refl } in
    ap (peer_at t) (joined_onto (codes "r_" ∷ (role_at p e.role).name ∷ codes "(N, " ∷ lin_text e.at ∷ codes ")" ∷ []) rest)
    ∙ rw (role_again t p e.role (78 ∷ 44 ∷ 32 ∷ (lin_text e.at ++ (41 ∷ rest))) tables head fits.role, lin_again e.at (41 ∷ rest) fits.at ends) refl

-- ---- payloads

abbrev pub payload_text : Payload → Side → List ℕ
payload_text payload side = joined (buffer_text payload side ∷ codes ", " ∷ decimal (count_of payload) ∷ codes ", " ∷ type_text payload ∷ [])

payload_onto : (payload : Payload) (side : Side) (rest : List ℕ) → payload_text payload side ++ rest ≡ onto (buffer_text payload side ∷ codes ", " ∷ decimal (count_of payload) ∷ codes ", " ∷ type_text payload ∷ []) rest
payload_onto payload side rest = joined_onto (buffer_text payload side ∷ codes ", " ∷ decimal (count_of payload) ∷ codes ", " ∷ type_text payload ∷ []) rest

words_again : (payload : Payload) (side : Side) (rest : List ℕ) → IsPayload payload → words_at (payload_text payload side ++ (44 ∷ 32 ∷ rest)) ≡ Some (payload, rest)
unfolding words_at int_at uint_at strip
words_again NoWords outgoing rest is = ap words_at (payload_onto NoWords outgoing (44 ∷ 32 ∷ rest)) ∙ rw (number_again 0 (codes ", MPI_UINT32_T, " ++ rest) (omega arith) refl) refl
words_again NoWords incoming rest is = ap words_at (payload_onto NoWords incoming (44 ∷ 32 ∷ rest)) ∙ rw (number_again 0 (codes ", MPI_UINT32_T, " ++ rest) (omega arith) refl) refl
words_again (Int32 n) outgoing rest is = ap words_at (payload_onto (Int32 n) outgoing (44 ∷ 32 ∷ rest)) ∙ rw (number_again n (codes ", MPI_INT32_T, " ++ rest) (omega (arith, is.1)) refl) refl
words_again (Int32 n) incoming rest is = ap words_at (payload_onto (Int32 n) incoming (44 ∷ 32 ∷ rest)) ∙ rw (number_again n (codes ", MPI_INT32_T, " ++ rest) (omega (arith, is.1)) refl) refl
words_again (Uint32 n) outgoing rest is =
    let some : nat_eq n 0 ≡ false = ne_eqb n 0 (λ e. absurd (omega (arith, is.0, e))) in
    ap words_at (payload_onto (Uint32 n) outgoing (44 ∷ 32 ∷ rest)) ∙ rw (number_again n (codes ", MPI_UINT32_T, " ++ rest) (omega (arith, is.1)) refl, some) refl
words_again (Uint32 n) incoming rest is =
    let some : nat_eq n 0 ≡ false = ne_eqb n 0 (λ e. absurd (omega (arith, is.0, e))) in
    ap words_at (payload_onto (Uint32 n) incoming (44 ∷ 32 ∷ rest)) ∙ rw (number_again n (codes ", MPI_UINT32_T, " ++ rest) (omega (arith, is.1)) refl, some) refl

-- also a number that no label has gives a payload
good_payload : (p : Program) (k : ℕ) → HasHead p → IsPayload (payload_of p k)
good_payload p k head = by_place (nat_lt k (length p.labels)) refl where
  by_place : (b : Bool) → nat_lt k (length p.labels) ≡ b → IsPayload (payload_of p k)
  by_place true e = (head.labels.each k _ (ltb-true _ _ e)).payload
  by_place false e = subst (λ (l : CoreLabel). IsPayload l.payload) (sym (get_or_past p.labels k _ (ltb-false _ _ e))) tt

pub label_words_again : (p : Program) (k : ℕ) (side : Side) (rest : List ℕ) → HasHead p → words_at (words_text p k side ++ (44 ∷ 32 ∷ rest)) ≡ Some (payload_of p k, rest)
label_words_again p k side rest head = words_again (payload_of p k) side rest (good_payload p k head)

-- a label with the same payload
pub record Holds (t : Tables) (p : Program) (k : ℕ) : Type 0 where
  pub label : ℕ
  pub found : holding t.payloads (payload_of p k) ≡ Some label
  pub same : payload_of p label ≡ payload_of p k

pub holds : (t : Tables) (p : Program) (k : ℕ) → AreTables t p → HasLabel p k → Holds t p k
holds t p k tables lt = of_look (holding t.payloads (payload_of p k)) refl (tables.payloads.whole k lt) where
  of_look : (o : Option ℕ) → holding t.payloads (payload_of p k) ≡ o → IsSome o → Holds t p k
  of_look (Some j) e some = record { label = j; found = e; same = tables.payloads.sound (payload_of p k) j e }
  of_look None e some = absurd cc

pub held_again : (t : Tables) (p : Program) (k : ℕ) (side : Side) (rest : List ℕ) → HasHead p → (h : Holds t p k) → held_at t (words_text p k side ++ (44 ∷ 32 ∷ rest)) ≡ Some (h.label, rest)
unfolding held_at
held_again t p k side rest head h = rw (label_words_again p k side rest head, h.found) refl

op_again : (op : Op) (rest : List ℕ) → op_at (op_text op ++ rest) ≡ Some (op, rest)
unfolding op_at strip
op_again Min rest = refl
op_again Max rest = refl
op_again Sum rest = refl

reduced_words_again : (t : Tables) (p : Program) (k : ℕ) (op : Op) (rest : List ℕ) → HasHead p → (h : Holds t p k) → reduced_words_at t (words_text p k incoming ++ (44 ∷ 32 ∷ (op_text op ++ rest))) ≡ Some ((h.label, op), rest)
unfolding reduced_words_at
reduced_words_again t p k op rest head h = rw (held_again t p k incoming (op_text op ++ rest) head h, op_again op rest) refl

sent_first : (t : Tables) (payload : Payload) (x : List ℕ) → reduced_at t (buffer_text payload outgoing ++ (44 ∷ 32 ∷ x)) ≡ reduced_words_at t x
unfolding reduced_at strip
sent_first t NoWords x = refl
sent_first t (Int32 n) x = refl
sent_first t (Uint32 n) x = refl

pub reduced_again : (t : Tables) (p : Program) (k : ℕ) (op : Op) (rest : List ℕ) → HasHead p → (h : Holds t p k) → reduced_at t (reduced_text p k op ++ rest) ≡ Some ((h.label, op), rest)
reduced_again t p k op rest head h =
    ap (reduced_at t) (joined_onto (buffer_text (payload_of p k) outgoing ∷ codes ", " ∷ words_text p k incoming ∷ codes ", " ∷ op_text op ∷ []) rest)
    ∙ sent_first t (payload_of p k) (words_text p k incoming ++ (44 ∷ 32 ∷ (op_text op ++ rest)))
    ∙ reduced_words_again t p k op rest head h
