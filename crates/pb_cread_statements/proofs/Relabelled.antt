-- A line with the label of the statement that it belongs to is spelled alike, and only it can go on.
use Rattle.std.proofs.Common.{◌≡◌, ℕ, Bool, true, false, cond, List, [], ◌∷◌, ◌++◌, Option, Some, None, refl, sym, ap, ◌∙◌, eqb-true}
use Rattle.std.specs.Prelude.{nat_eq, ◌&&◌, codes, decimal}
use Rattle.pb_syntax.specs.declared.tree.Payload.{Payload}
use Rattle.pb_syntax.specs.declared.tree.Payload.TheVariants.{Unit as NoWords, Int32, Uint32}
use Rattle.pb_syntax.specs.declared.tree.Op.{Op}
use Rattle.pb_local.specs.declared.stmt.Peer.{Peer}
use Rattle.pb_local.specs.Pieces.{indent, joined}
use Rattle.pb_local.specs.Tree.{Program}
use Rattle.pb_ctree.specs.Lines.{Item, mpi_bcast, mpi_reduce, mpi_allreduce, item_text}
use Rattle.pb_ctree.specs.Small.{Side, outgoing, incoming, payload_of, buffer_text, type_text, count_of, op_text, peer_text}
use Rattle.pb_cread_lines.specs.Reading.{IsAlike}
use Rattle.pb_cread_statements.specs.Reading.{Wanted, made, rooted, cast, reduced, allreduced, State, later, place, rule, step, step_at, goes_on, is_same_peer}
use Rattle.pb_cread_statements.specs.Labels.{is_same_payload, label_for, made_relabelled, root_relabelled, relabelled, OnlyOneGoesOn, RelabelledIsLine}
use Rattle.pb_cread_statements.proofs.Small.{left, right, eq_self}

payload_same : (a b : Payload) → is_same_payload a b ≡ true → a ≡ b
payload_same NoWords NoWords e = refl
payload_same NoWords (Int32 b) e = absurd cc
payload_same NoWords (Uint32 b) e = absurd cc
payload_same (Int32 a) NoWords e = absurd cc
payload_same (Int32 a) (Int32 b) e = ap (λ x. Int32 x) (eqb-true a b e)
payload_same (Int32 a) (Uint32 b) e = absurd cc
payload_same (Uint32 a) NoWords e = absurd cc
payload_same (Uint32 a) (Int32 b) e = absurd cc
payload_same (Uint32 a) (Uint32 b) e = ap (λ x. Uint32 x) (eqb-true a b e)

payload_self : (a : Payload) → is_same_payload a a ≡ true
payload_self NoWords = refl
payload_self (Int32 a) = eq_self a
payload_self (Uint32 a) = eq_self a

-- ---- spelled alike

same_as : (p : Program) (same k : ℕ) (b : Bool) → (b ≡ true → payload_of p k ≡ payload_of p same) → payload_of p (cond b same k) ≡ payload_of p k
same_as p same k true e = sym (e refl)
same_as p same k false e = refl

-- the new label has the payload of the one that was read
label_payload : (p : Program) (same k : ℕ) → payload_of p (label_for p same k) ≡ payload_of p k
label_payload p same k = same_as p same k (is_same_payload (payload_of p k) (payload_of p same)) (payload_same (payload_of p k) (payload_of p same))

abbrev words : Payload → Side → List ℕ
words q side = joined (buffer_text q side ∷ codes ", " ∷ decimal (count_of q) ∷ codes ", " ∷ type_text q ∷ [])

abbrev operands : Payload → Op → List ℕ
operands q op = joined (buffer_text q outgoing ∷ codes ", " ∷ words q incoming ∷ codes ", " ∷ op_text op ∷ [])

cast_text : (p : Program) (j k : ℕ) (root : Peer) → payload_of p j ≡ payload_of p k → item_text p (mpi_bcast j root) ≡ item_text p (mpi_bcast k root)
cast_text p j k root e = ap (λ q. joined (codes "MPI_Bcast(" ∷ words q outgoing ∷ codes ", " ∷ peer_text p root ∷ codes ", MPI_COMM_WORLD);" ∷ [])) e

reduce_text : (p : Program) (j k : ℕ) (op : Op) (root : Peer) → payload_of p j ≡ payload_of p k → item_text p (mpi_reduce j op root) ≡ item_text p (mpi_reduce k op root)
reduce_text p j k op root e = ap (λ q. joined (codes "MPI_Reduce(" ∷ operands q op ∷ codes ", " ∷ peer_text p root ∷ codes ", MPI_COMM_WORLD);" ∷ [])) e

allreduce_text : (p : Program) (j k : ℕ) (op : Op) → payload_of p j ≡ payload_of p k → item_text p (mpi_allreduce j op) ≡ item_text p (mpi_allreduce k op)
allreduce_text p j k op e = ap (λ q. joined (codes "MPI_Allreduce(" ∷ operands q op ∷ codes ", MPI_COMM_WORLD);" ∷ [])) e

made_text : (p : Program) (same : ℕ) (i : Item) → item_text p (made_relabelled p same i) ≡ item_text p i
made_text p same (mpi_reduce k op root) = reduce_text p (label_for p same k) k op root (label_payload p same k)
made_text p same (mpi_allreduce k op) = allreduce_text p (label_for p same k) k op (label_payload p same k)
made_text p same other = refl

rooted_text : (p : Program) (same : ℕ) (i : Item) → item_text p (root_relabelled p same i) ≡ item_text p i
rooted_text p same (mpi_bcast k root) = cast_text p (label_for p same k) k root (label_payload p same k)
rooted_text p same other = refl

text_same : (p : Program) (w : Wanted) (i : Item) → item_text p (relabelled p w i) ≡ item_text p i
text_same p (made same) i = made_text p same i
text_same p (rooted same root) i = rooted_text p same i
text_same p other i = refl

pub is_line : RelabelledIsLine
is_line p s bytes depth i e = e ∙ ap (λ x. indent depth ++ x) (sym (text_same p s.wanted i))

-- ---- only it can go on

none_some : (t : State) → ◌≡◌ {A = Option State} None (Some t) → ⊥
none_some t e = cc

both : (b : Bool) (o : Option State) (t : State) → cond b o None ≡ Some t → (b ≡ true) × (o ≡ Some t)
both true o t e = (refl, e)
both false o t e = absurd (none_some t e)

-- a label with the wanted one's payload becomes the wanted one
label_is : (p : Program) (same label k : ℕ) → label ≡ same → payload_of p k ≡ payload_of p label → label_for p same k ≡ label
label_is p same label k is alike =
    let passes : is_same_payload (payload_of p k) (payload_of p same) ≡ true = ap (λ x. is_same_payload x (payload_of p same)) (alike ∙ ap (payload_of p) is) ∙ payload_self (payload_of p same) in
    ap (λ b. cond b same k) passes ∙ sym is

one_cast : (p : Program) (s t : State) (w : Wanted) (label k : ℕ) (root : Peer) → payload_of p k ≡ payload_of p label → step_at p s w (mpi_bcast label root) ≡ Some t → relabelled p w (mpi_bcast k root) ≡ mpi_bcast label root
one_cast p s t (rooted same by) label k root alike e =
    let r = both (nat_eq label same && is_same_peer root by) (Some (later s (cast label root))) t e in
    ap (λ x. mpi_bcast x root) (label_is p same label k (eqb-true label same (left (nat_eq label same) (is_same_peer root by) r.0)) alike)
one_cast p s t other label k root alike e = absurd (none_some t e)

one_reduce : (p : Program) (s t : State) (w : Wanted) (label k : ℕ) (op : Op) (root : Peer) → payload_of p k ≡ payload_of p label → step_at p s w (mpi_reduce label op root) ≡ Some t → relabelled p w (mpi_reduce k op root) ≡ mpi_reduce label op root
one_reduce p s t (made same) label k op root alike e =
    let r = both (nat_eq label same) (Some (later s (reduced label op root))) t e in
    ap (λ x. mpi_reduce x op root) (label_is p same label k (eqb-true label same r.0) alike)
one_reduce p s t other label k op root alike e = absurd (none_some t e)

one_allreduce : (p : Program) (s t : State) (w : Wanted) (label k : ℕ) (op : Op) → payload_of p k ≡ payload_of p label → step_at p s w (mpi_allreduce label op) ≡ Some t → relabelled p w (mpi_allreduce k op) ≡ mpi_allreduce label op
one_allreduce p s t (made same) label k op alike e =
    let r = both (nat_eq label same) (Some (later s (allreduced label op))) t e in
    ap (λ x. mpi_allreduce x op) (label_is p same label k (eqb-true label same r.0) alike)
one_allreduce p s t other label k op alike e = absurd (none_some t e)

-- any other line stays as it is
stays : (p : Program) (w : Wanted) (i : Item) → ((same : ℕ) → made_relabelled p same i ≡ i) → ((same : ℕ) → root_relabelled p same i ≡ i) → relabelled p w i ≡ i
stays p (made same) i made_stays root_stays = made_stays same
stays p (rooted same root) i made_stays root_stays = root_stays same
stays p other i made_stays root_stays = refl

by_step : (p : Program) (s t : State) (a b : Item) → IsAlike p a b → step_at p s s.wanted a ≡ Some t → relabelled p s.wanted b ≡ a
by_step p s t (mpi_bcast label root) b alike e = ap (relabelled p s.wanted) alike.1 ∙ one_cast p s t s.wanted label alike.0 root alike.2 e
by_step p s t (mpi_reduce label op root) b alike e = ap (relabelled p s.wanted) alike.1 ∙ one_reduce p s t s.wanted label alike.0 op root alike.2 e
by_step p s t (mpi_allreduce label op) b alike e = ap (relabelled p s.wanted) alike.1 ∙ one_allreduce p s t s.wanted label alike.0 op alike.2 e
by_step p s t other b alike e = ap (relabelled p s.wanted) alike ∙ stays p s.wanted other (λ same. refl) (λ same. refl)

pub only_one : OnlyOneGoesOn
only_one p s t depth a b alike e = by_step p s t a b alike (both (nat_eq depth (place s a) && rule p s a) (step p s a) t e).1
