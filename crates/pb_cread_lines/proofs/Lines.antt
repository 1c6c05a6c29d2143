-- Each line that is spelled is read as a line that is spelled alike.
use Rattle.std.proofs.Common.{◌≡◌, ℕ, List, [], ◌∷◌, ◌++◌, Some, None, refl, ap, ◌∙◌, append-nil, arith}
use Rattle.std.specs.Prelude.{ℤ, codes, decimal, All}
use Rattle.std.proofs.lemmas.List.Elements.{All-cons, All-nil}
use Rattle.pb_affine.specs.declared.lin.Lin.{Lin}
use Rattle.pb_affine.specs.declared.guard.Guard.{Guard}
use Rattle.pb_syntax.specs.declared.tree.Payload.{Payload}
use Rattle.pb_syntax.specs.declared.tree.Payload.TheVariants.{Unit as NoWords, Int32, Uint32}
use Rattle.pb_syntax.specs.declared.tree.Op.{Op}
use Rattle.pb_local.specs.declared.stmt.Peer.{Peer}
use Rattle.pb_local.specs.Pieces.{joined}
use Rattle.pb_local.specs.Tables.{kernel_at}
use Rattle.pb_local.specs.Tree.{Program}
use Rattle.pb_ctree.specs.Lines as L
use Rattle.pb_ctree.specs.Lines.{item_text}
use Rattle.pb_ctree.specs.Small.{lin_text, cond_text, root_text, peer_text, Side, outgoing, incoming, buffer_text, payload_of, words_text, call_text, op_text, reduced_text}
use Rattle.pb_cread_lines.specs.declared.item.Item.{Item}
use Rattle.pb_cread_lines.specs.declared.item.Item.TheVariants.{Close, ElseOpen, IfOpen, ElseIfOpen, ForOpen, OwnIs, LoopOpen, Goto, Makes, RootMakes, Takes, RootTakes, Sends, Receives, Barrier, Broadcasts, Reduces, Allreduces, Calls, Chooses, Probe, TestOpen, ElseTestOpen, Picks, Aborts, PickOpen, ElsePickOpen}
use Rattle.pb_cread_lines.specs.declared.item.Side.TheVariants.{Outgoing, Incoming}
use Rattle.pb_cread_lines.specs.declared.item.Side as side
use Rattle.pb_cread_lines.specs.declared.tables.Tables.{Tables}
use Rattle.pb_cread_lines.specs.Fits.{FitsNumber, FitsOffset, FitsGuard, FitsRoot, FitsPeer, HasLabel, HasKernel, Fits}
use Rattle.pb_cread_lines.specs.Guess.{guess_at, mpi_at, closing_at, else_if_at, if_at, opened_at, root_makes_at, root_takes_at, call_at, takes_at, side_at, buffer_at, chooses_at, assigns_at, rare_at, for_at, own_at, test_at, name_at, sends_at, receives_at, collective_at, broadcasts_at, reduces_at, allreduces_at}
use Rattle.pb_cread_lines.specs.Head.{HasHead, AreTables}
use Rattle.pb_cread_lines.specs.Reading.{IsAlike}
use Rattle.pb_cread_lines.specs.Items.{item_of}
use Rattle.pb_text_read.specs.Fronts.{◌>>=◌}
use Rattle.pb_cread_lines.specs.Parts.{strip}
use Rattle.pb_cread_lines.proofs.Guards.{cond_again, same_lin}
use Rattle.pb_cread_lines.proofs.Numbers.{Ends, decimal_first, number_again, offset_again, narrow_again, lin_again}
use Rattle.pb_cread_lines.proofs.Rows.{payload_text, label_again, kernel_again, peer_again, label_words_again, Holds, holds, held_again, reduced_again}

-- the line is read as one that is spelled alike
pub record Reads (t : Tables) (p : Program) (item : L.Item) : Type 0 where
  pub line : Item
  pub read : guess_at t (item_text p item) ≡ Some line
  pub same : item_text p (item_of line) ≡ item_text p item
  pub alike : IsAlike p item (item_of line)

-- ---- lines without tables

close_read : (t : Tables) (p : Program) → guess_at t (item_text p L.close) ≡ Some Close
unfolding guess_at closing_at strip
close_read t p = refl

else_read : (t : Tables) (p : Program) → guess_at t (item_text p L.else_open) ≡ Some ElseOpen
unfolding guess_at closing_at strip
else_read t p = refl

barrier_read : (t : Tables) (p : Program) → guess_at t (item_text p L.mpi_barrier) ≡ Some Barrier
unfolding guess_at mpi_at collective_at strip
barrier_read t p = refl

aborts_read : (t : Tables) (p : Program) → guess_at t (item_text p L.aborts) ≡ Some Aborts
unfolding guess_at mpi_at strip
aborts_read t p = refl

for_read : (t : Tables) (p : Program) (low high : Lin) → FitsOffset low.off → FitsOffset high.off → guess_at t (item_text p (L.for_open low high)) ≡ Some (ForOpen low high)
unfolding guess_at call_at rare_at for_at strip
for_read t p low high low_fits high_fits =
    let rest = codes "; i++) {" ++ [] in
    let before : Ends (codes "; i <= " ++ (lin_text high ++ rest)) = record { number = refl; plus = refl; minus = refl } in
    let behind : Ends rest = record { number = refl; plus = refl; minus = refl } in
    rw (lin_again low (codes "; i <= " ++ (lin_text high ++ rest)) low_fits before, lin_again high rest high_fits behind) refl

own_read : (t : Tables) (p : Program) (off : ℤ) → FitsOffset off → guess_at t (item_text p (L.own_is off)) ≡ Some (OwnIs off)
unfolding guess_at call_at rare_at own_at strip
own_read t p off fits =
    let ends : Ends (59 ∷ []) = record { number = refl; plus = refl; minus = refl } in
    rw (offset_again off (59 ∷ []) fits ends, narrow_again off fits) refl

loop_read : (t : Tables) (p : Program) (id : ℕ) → FitsNumber id → guess_at t (item_text p (L.loop_open id)) ≡ Some (LoopOpen id)
unfolding guess_at call_at rare_at strip
loop_read t p id fits = rw (number_again id (codes ": {" ++ []) fits refl) refl

goto_read : (t : Tables) (p : Program) (id : ℕ) → FitsNumber id → guess_at t (item_text p (L.goto id)) ≡ Some (Goto id)
unfolding guess_at call_at rare_at strip
goto_read t p id fits = rw (number_again id (codes ";" ++ []) fits refl) refl

assigned : (t : Tables) (x : List ℕ) → guess_at t (codes "a = " ++ x) ≡ assigns_at t x
unfolding guess_at call_at strip
assigned t x = refl

assigned_number : (t : Tables) (n : ℕ) (x : List ℕ) → FitsNumber n → assigns_at t (decimal n ++ (59 ∷ x)) ≡ Some (Picks n)
unfolding assigns_at
assigned_number t n x fits = rw (decimal_first 99 n (59 ∷ x) refl (omega (arith, fits)), number_again n (59 ∷ x) fits refl) refl

picks_read : (t : Tables) (p : Program) (n : ℕ) → FitsNumber n → guess_at t (item_text p (L.picks n)) ≡ Some (Picks n)
picks_read t p n fits = assigned t (decimal n ++ (codes ";" ++ [])) ∙ assigned_number t n [] fits

pick_read : (t : Tables) (p : Program) (n : ℕ) → FitsNumber n → guess_at t (item_text p (L.pick_open n)) ≡ Some (PickOpen n)
unfolding guess_at if_at strip
pick_read t p n fits = rw (number_again n (codes ") {" ++ []) fits refl) refl

else_pick_read : (t : Tables) (p : Program) (n : ℕ) → FitsNumber n → guess_at t (item_text p (L.else_pick_open n)) ≡ Some (ElsePickOpen n)
unfolding guess_at closing_at else_if_at strip
else_pick_read t p n fits = rw (number_again n (codes ") {" ++ []) fits refl) refl

-- ---- conditions

no_test : (gs : List Guard) (r : List ℕ) → strip (codes "st.MPI_TAG == ") (cond_text gs ++ 41 ∷ r) ≡ None
unfolding strip
no_test [] r = refl
no_test (g ∷ []) r = refl
no_test (g ∷ h ∷ gs) r = refl

no_pick : (gs : List Guard) (r : List ℕ) → strip (codes "a == ") (cond_text gs ++ 41 ∷ r) ≡ None
unfolding strip
no_pick [] r = refl
no_pick (g ∷ []) r = refl
no_pick (g ∷ h ∷ gs) r = refl

cond_if : (t : Tables) (gs : List Guard) (r : List ℕ) → All FitsGuard gs → if_at t (cond_text gs ++ 41 ∷ r) ≡ opened_at t gs r
unfolding if_at
cond_if t gs r fits = rw (no_test gs r, no_pick gs r, cond_again gs r fits) refl

if_first : (t : Tables) (x : List ℕ) → guess_at t (codes "if (" ++ x) ≡ if_at t x
unfolding guess_at strip
if_first t x = refl

opens : (t : Tables) (gs : List Guard) → opened_at t gs (codes " {") ≡ Some (IfOpen gs)
unfolding opened_at strip
opens t gs = refl

if_read : (t : Tables) (p : Program) (gs : List Guard) → All FitsGuard gs → guess_at t (item_text p (L.if_open gs)) ≡ Some (IfOpen gs)
if_read t p gs fits = if_first t (cond_text gs ++ (codes ") {" ++ [])) ∙ cond_if t gs (codes " {") fits ∙ opens t gs

else_first : (t : Tables) (x : List ℕ) → guess_at t (codes "} else if (" ++ x) ≡ else_if_at x
unfolding guess_at closing_at strip
else_first t x = refl

cond_else : (gs : List Guard) (r : List ℕ) → All FitsGuard gs → else_if_at (cond_text gs ++ 41 ∷ r) ≡ Some (ElseIfOpen gs)
unfolding else_if_at
cond_else gs r fits = rw (no_test gs r, no_pick gs r, cond_again gs r fits) refl

else_if_read : (t : Tables) (p : Program) (gs : List Guard) → All FitsGuard gs → guess_at t (item_text p (L.else_if_open gs)) ≡ Some (ElseIfOpen gs)
else_if_read t p gs fits = else_first t (cond_text gs ++ (codes ") {" ++ [])) ∙ cond_else gs (codes " {") fits

test_again : (label : ℕ) (gs : List Guard) → FitsNumber label → All FitsGuard gs → test_at (L.test_text label gs) ≡ Some ((label, gs), codes ") {")
unfolding test_at strip
test_again label gs label_fits fits = rw (number_again label (codes " && (" ++ (cond_text gs ++ (codes ")) {" ++ []))) label_fits refl, cond_again gs (codes ") {") fits) refl

tested : (t : Tables) (x : List ℕ) → if_at t (codes "st.MPI_TAG == " ++ x) ≡ (test_at x >>= λ y. Some (TestOpen y.0.0 y.0.1))
unfolding if_at strip
tested t x = refl

test_read : (t : Tables) (p : Program) (label : ℕ) (gs : List Guard) → FitsNumber label → All FitsGuard gs → guess_at t (item_text p (L.test_open label gs)) ≡ Some (TestOpen label gs)
test_read t p label gs label_fits fits = if_first t (codes "st.MPI_TAG == " ++ L.test_text label gs) ∙ tested t (L.test_text label gs) ∙ rw (test_again label gs label_fits fits) refl

else_tested : (x : List ℕ) → else_if_at (codes "st.MPI_TAG == " ++ x) ≡ (test_at x >>= λ y. Some (ElseTestOpen y.0.0 y.0.1))
unfolding else_if_at strip
else_tested x = refl

else_test_read : (t : Tables) (p : Program) (label : ℕ) (gs : List Guard) → FitsNumber label → All FitsGuard gs → guess_at t (item_text p (L.else_test_open label gs)) ≡ Some (ElseTestOpen label gs)
else_test_read t p label gs label_fits fits = else_first t (codes "st.MPI_TAG == " ++ L.test_text label gs) ∙ else_tested (L.test_text label gs) ∙ rw (test_again label gs label_fits fits) refl

-- ---- calls of kernel functions

makes_read : (t : Tables) (p : Program) (label : ℕ) → AreTables t p → HasHead p → HasLabel p label → guess_at t (item_text p (L.makes label)) ≡ Some (Makes label)
unfolding guess_at call_at strip
makes_read t p label tables head has = rw (label_again t p label (codes "N, R, I, " ++ (buffer_text (payload_of p label) outgoing ++ (codes ");" ++ []))) tables head has) refl

abbrev side_in : Side → side.Side
side_in outgoing = Outgoing
side_in incoming = Incoming

side_again : (payload : Payload) (s : Side) (r : List ℕ) → side_at (codes "(N, R, I, " ++ (buffer_text payload s ++ r)) ≡ Some (side_in s)
unfolding side_at buffer_at strip
side_again NoWords outgoing r = refl
side_again NoWords incoming r = refl
side_again (Int32 n) outgoing r = refl
side_again (Int32 n) incoming r = refl
side_again (Uint32 n) outgoing r = refl
side_again (Uint32 n) incoming r = refl

takes_first : (t : Tables) (x : List ℕ) → guess_at t (codes "take_" ++ x) ≡ takes_at t x
unfolding guess_at call_at strip
takes_first t x = refl

takes_again : (t : Tables) (p : Program) (label : ℕ) (s : Side) → AreTables t p → HasHead p → HasLabel p label → takes_at t (call_text p label s) ≡ Some (Takes label (side_in s))
unfolding takes_at
takes_again t p label s tables head has =
    rw (label_again t p label (codes "N, R, I, " ++ (buffer_text (payload_of p label) s ++ (codes ");" ++ []))) tables head has, side_again (payload_of p label) s (codes ");" ++ [])) refl

takes_same : (p : Program) (label : ℕ) (s : Side) → item_text p (item_of (Takes label (side_in s))) ≡ item_text p (L.takes label s)
takes_same p label outgoing = refl
takes_same p label incoming = refl

calls_read : (t : Tables) (p : Program) (kernel : ℕ) → AreTables t p → HasHead p → HasKernel p kernel → guess_at t (item_text p (L.calls kernel)) ≡ Some (Calls kernel)
unfolding guess_at call_at strip
calls_read t p kernel tables head has = rw (kernel_again t p kernel (codes "N, R, I);" ++ []) tables head has) refl

chosen : (t : Tables) (x : List ℕ) → assigns_at t (codes "c_" ++ x) ≡ (name_at t.kernels x >>= λ k. Some (Chooses k.0))
unfolding assigns_at chooses_at strip
chosen t x = refl

chooses_read : (t : Tables) (p : Program) (kernel : ℕ) → AreTables t p → HasHead p → HasKernel p kernel → guess_at t (item_text p (L.chooses kernel)) ≡ Some (Chooses kernel)
chooses_read t p kernel tables head has =
    let rest = (kernel_at p kernel).name ++ (codes "(N, R, I);" ++ []) in
    assigned t (codes "c_" ++ rest) ∙ chosen t rest ∙ rw (kernel_again t p kernel (codes "N, R, I);" ++ []) tables head has) refl

-- ---- the root's calls

abbrev root_guard : Peer → Guard
root_guard root = record { role = root.role; low = Some root.at; high = Some root.at; from = None; to = None }

root_cond : (root : Peer) (r : List ℕ) → root_text root ++ r ≡ cond_text (root_guard root ∷ []) ++ r
root_cond root r = rw (same_lin root.at) refl

root_fits : (root : Peer) → FitsRoot root → All FitsGuard (root_guard root ∷ [])
root_fits root fits = All-cons FitsGuard (root_guard root) [] (record { role = fits.role; low = fits.at; high = fits.at; from = tt; to = tt }) (All-nil FitsGuard)

made_first : (t : Tables) (root : Peer) (x : List ℕ) → opened_at t (root_guard root ∷ []) (codes " make_" ++ x) ≡ (name_at t.labels x >>= λ k. Some (RootMakes root k.0))
unfolding opened_at root_makes_at strip
made_first t root x = refl

taken_first : (t : Tables) (root : Peer) (x : List ℕ) → opened_at t (root_guard root ∷ []) (codes " take_" ++ x) ≡ (name_at t.labels x >>= λ k. Some (RootTakes root k.0))
unfolding opened_at root_takes_at strip
taken_first t root x = refl

root_makes_read : (t : Tables) (p : Program) (root : Peer) (label : ℕ) → AreTables t p → HasHead p → FitsRoot root → HasLabel p label → guess_at t (item_text p (L.root_makes root label)) ≡ Some (RootMakes root label)
root_makes_read t p root label tables head fits has =
    let call = call_text p label outgoing ++ [] in
    if_first t (root_text root ++ (codes ") make_" ++ call))
    ∙ ap (if_at t) (root_cond root (codes ") make_" ++ call))
    ∙ cond_if t (root_guard root ∷ []) (codes " make_" ++ call) (root_fits root fits)
    ∙ made_first t root call
    ∙ ap (λ w. name_at t.labels w >>= λ k. Some (RootMakes root k.0)) (append-nil (call_text p label outgoing))
    ∙ rw (label_again t p label (codes "N, R, I, " ++ (buffer_text (payload_of p label) outgoing ++ (codes ");" ++ []))) tables head has) refl

root_takes_read : (t : Tables) (p : Program) (root : Peer) (label : ℕ) → AreTables t p → HasHead p → FitsRoot root → HasLabel p label → guess_at t (item_text p (L.root_takes root label)) ≡ Some (RootTakes root label)
root_takes_read t p root label tables head fits has =
    let call = call_text p label incoming ++ [] in
    if_first t (root_text root ++ (codes ") take_" ++ call))
    ∙ ap (if_at t) (root_cond root (codes ") take_" ++ call))
    ∙ cond_if t (root_guard root ∷ []) (codes " take_" ++ call) (root_fits root fits)
    ∙ taken_first t root call
    ∙ ap (λ w. name_at t.labels w >>= λ k. Some (RootTakes root k.0)) (append-nil (call_text p label incoming))
    ∙ rw (label_again t p label (codes "N, R, I, " ++ (buffer_text (payload_of p label) incoming ++ (codes ");" ++ []))) tables head has) refl

-- ---- messages and collectives

probe_read : (t : Tables) (p : Program) (from : Peer) → AreTables t p → HasHead p → FitsPeer p from → guess_at t (item_text p (L.probe from)) ≡ Some (Probe from)
unfolding guess_at mpi_at strip
probe_read t p from tables head fits = rw (peer_again t p from (codes ", MPI_ANY_TAG, MPI_COMM_WORLD, &st);" ++ []) tables head fits) refl

sends_again : (t : Tables) (p : Program) (label : ℕ) (to : Peer) (rest : List ℕ) → AreTables t p → HasHead p → FitsNumber label → FitsPeer p to
    → sends_at t (words_text p label outgoing ++ (44 ∷ 32 ∷ (peer_text p to ++ (44 ∷ 32 ∷ (decimal label ++ (44 ∷ rest)))))) ≡ Some (Sends label to)
unfolding sends_at strip
sends_again t p label to rest tables head number fits =
    rw (label_words_again p label outgoing (peer_text p to ++ (44 ∷ 32 ∷ (decimal label ++ (44 ∷ rest)))) head, peer_again t p to (44 ∷ 32 ∷ (decimal label ++ (44 ∷ rest))) tables head fits, number_again label (44 ∷ rest) number refl) refl

sends_first : (t : Tables) (x : List ℕ) → guess_at t (codes "MPI_Send(" ++ x) ≡ sends_at t x
unfolding guess_at mpi_at strip
sends_first t x = refl

sends_read : (t : Tables) (p : Program) (label : ℕ) (to : Peer) → AreTables t p → HasHead p → FitsNumber label → FitsPeer p to → guess_at t (item_text p (L.mpi_send label to)) ≡ Some (Sends label to)
sends_read t p label to tables head number fits =
    sends_first t (words_text p label outgoing ++ (44 ∷ 32 ∷ (peer_text p to ++ (44 ∷ 32 ∷ (decimal label ++ (codes ", MPI_COMM_WORLD);" ++ [])))))) ∙ sends_again t p label to (codes " MPI_COMM_WORLD);" ++ []) tables head number fits

receives_again : (t : Tables) (p : Program) (label : ℕ) (from : Peer) (rest : List ℕ) → AreTables t p → HasHead p → FitsNumber label → FitsPeer p from
    → receives_at t (words_text p label incoming ++ (44 ∷ 32 ∷ (peer_text p from ++ (44 ∷ 32 ∷ (decimal label ++ (44 ∷ rest)))))) ≡ Some (Receives label from)
unfolding receives_at strip
receives_again t p label from rest tables head number fits =
    rw (label_words_again p label incoming (peer_text p from ++ (44 ∷ 32 ∷ (decimal label ++ (44 ∷ rest)))) head, peer_again t p from (44 ∷ 32 ∷ (decimal label ++ (44 ∷ rest))) tables head fits, number_again label (44 ∷ rest) number refl) refl

receives_first : (t : Tables) (x : List ℕ) → guess_at t (codes "MPI_Recv(" ++ x) ≡ receives_at t x
unfolding guess_at mpi_at strip
receives_first t x = refl

receives_read : (t : Tables) (p : Program) (label : ℕ) (from : Peer) → AreTables t p → HasHead p → FitsNumber label → FitsPeer p from → guess_at t (item_text p (L.mpi_recv label from)) ≡ Some (Receives label from)
receives_read t p label from tables head number fits =
    receives_first t (words_text p label incoming ++ (44 ∷ 32 ∷ (peer_text p from ++ (44 ∷ 32 ∷ (decimal label ++ (codes ", MPI_COMM_WORLD, MPI_STATUS_IGNORE);" ++ []))))))
    ∙ receives_again t p label from (codes " MPI_COMM_WORLD, MPI_STATUS_IGNORE);" ++ []) tables head number fits

broadcasts_again : (t : Tables) (p : Program) (label : ℕ) (root : Peer) (rest : List ℕ) → AreTables t p → HasHead p → (h : Holds t p label) → FitsPeer p root
    → broadcasts_at t (words_text p label outgoing ++ (44 ∷ 32 ∷ (peer_text p root ++ rest))) ≡ Some (Broadcasts h.label root)
unfolding broadcasts_at
broadcasts_again t p label root rest tables head h fits = rw (held_again t p label outgoing (peer_text p root ++ rest) head h, peer_again t p root rest tables head fits) refl

broadcasts_first : (t : Tables) (x : List ℕ) → guess_at t (codes "MPI_Bcast(" ++ x) ≡ broadcasts_at t x
unfolding guess_at mpi_at collective_at strip
broadcasts_first t x = refl

words_same : (p : Program) (j k : ℕ) (s : Side) → payload_of p j ≡ payload_of p k → words_text p j s ≡ words_text p k s
words_same p j k s same = ap (λ y. payload_text y s) same

reduced_same : (p : Program) (j k : ℕ) (op : Op) → payload_of p j ≡ payload_of p k → reduced_text p j op ≡ reduced_text p k op
reduced_same p j k op same = ap (λ y. joined (buffer_text y outgoing ∷ codes ", " ∷ payload_text y incoming ∷ codes ", " ∷ op_text op ∷ [])) same

broadcasts_read : (t : Tables) (p : Program) (label : ℕ) (root : Peer) → AreTables t p → HasHead p → HasLabel p label → FitsPeer p root → Reads t p (L.mpi_bcast label root)
broadcasts_read t p label root tables head has fits =
    let h = holds t p label tables has in
    let end = codes ", MPI_COMM_WORLD);" ++ [] in
    record {
      line = Broadcasts h.label root;
      read = broadcasts_first t (words_text p label outgoing ++ (44 ∷ 32 ∷ (peer_text p root ++ end))) ∙ broadcasts_again t p label root end tables head h fits;
      same = ap (λ w. joined (codes "MPI_Bcast(" ∷ w ∷ codes ", " ∷ peer_text p root ∷ codes ", MPI_COMM_WORLD);" ∷ [])) (words_same p h.label label outgoing h.same);
      alike = (h.label, refl, h.same);
    }

reduces_again : (t : Tables) (p : Program) (label : ℕ) (op : Op) (root : Peer) (rest : List ℕ) → AreTables t p → HasHead p → (h : Holds t p label) → FitsPeer p root
    → reduces_at t (reduced_text p label op ++ (44 ∷ 32 ∷ (peer_text p root ++ rest))) ≡ Some (Reduces h.label op root)
unfolding reduces_at strip
reduces_again t p label op root rest tables head h fits = rw (reduced_again t p label op (44 ∷ 32 ∷ (peer_text p root ++ rest)) head h, peer_again t p root rest tables head fits) refl

reduces_first : (t : Tables) (x : List ℕ) → guess_at t (codes "MPI_Reduce(" ++ x) ≡ reduces_at t x
unfolding guess_at mpi_at collective_at strip
reduces_first t x = refl

reduces_read : (t : Tables) (p : Program) (label : ℕ) (op : Op) (root : Peer) → AreTables t p → HasHead p → HasLabel p label → FitsPeer p root → Reads t p (L.mpi_reduce label op root)
reduces_read t p label op root tables head has fits =
    let h = holds t p label tables has in
    let end = codes ", MPI_COMM_WORLD);" ++ [] in
    record {
      line = Reduces h.label op root;
      read = reduces_first t (reduced_text p label op ++ (44 ∷ 32 ∷ (peer_text p root ++ end))) ∙ reduces_again t p label op root end tables head h fits;
      same = ap (λ w. joined (codes "MPI_Reduce(" ∷ w ∷ codes ", " ∷ peer_text p root ∷ codes ", MPI_COMM_WORLD);" ∷ [])) (reduced_same p h.label label op h.same);
      alike = (h.label, refl, h.same);
    }

allreduces_again : (t : Tables) (p : Program) (label : ℕ) (op : Op) (rest : List ℕ) → HasHead p → (h : Holds t p label) → allreduces_at t (reduced_text p label op ++ rest) ≡ Some (Allreduces h.label op)
unfolding allreduces_at
allreduces_again t p label op rest head h = rw (reduced_again t p label op rest head h) refl

allreduces_first : (t : Tables) (x : List ℕ) → guess_at t (codes "MPI_Allreduce(" ++ x) ≡ allreduces_at t x
unfolding guess_at mpi_at collective_at strip
allreduces_first t x = refl

allreduces_read : (t : Tables) (p : Program) (label : ℕ) (op : Op) → AreTables t p → HasHead p → HasLabel p label → Reads t p (L.mpi_allreduce label op)
allreduces_read t p label op tables head has =
    let h = holds t p label tables has in
    let end = codes ", MPI_COMM_WORLD);" ++ [] in
    record {
      line = Allreduces h.label op;
      read = allreduces_first t (reduced_text p label op ++ end) ∙ allreduces_again t p label op end head h;
      same = ap (λ w. joined (codes "MPI_Allreduce(" ∷ w ∷ codes ", MPI_COMM_WORLD);" ∷ [])) (reduced_same p h.label label op h.same);
      alike = (h.label, refl, h.same);
    }

-- ---- all lines

as_is : (t : Tables) (p : Program) (item : Item) → guess_at t (item_text p (item_of item)) ≡ Some item → IsAlike p (item_of item) (item_of item) → Reads t p (item_of item)
as_is t p item e alike = record { line = item; read = e; same = refl; alike = alike }

takes_alike : (p : Program) (label : ℕ) (s : Side) → IsAlike p (L.takes label s) (item_of (Takes label (side_in s)))
takes_alike p label outgoing = refl
takes_alike p label incoming = refl

pub reads : (t : Tables) (p : Program) (item : L.Item) → AreTables t p → HasHead p → Fits p item → Reads t p item
reads t p (L.raw text) tables head fits = absurd fits
reads t p L.close tables head fits = as_is t p Close (close_read t p) refl
reads t p L.else_open tables head fits = as_is t p ElseOpen (else_read t p) refl
reads t p (L.if_open gs) tables head fits = as_is t p (IfOpen gs) (if_read t p gs fits) refl
reads t p (L.else_if_open gs) tables head fits = as_is t p (ElseIfOpen gs) (else_if_read t p gs fits) refl
reads t p (L.for_open low high) tables head fits = as_is t p (ForOpen low high) (for_read t p low high fits.0 fits.1) refl
reads t p (L.own_is off) tables head fits = as_is t p (OwnIs off) (own_read t p off fits) refl
reads t p (L.loop_open id) tables head fits = as_is t p (LoopOpen id) (loop_read t p id fits) refl
reads t p (L.goto id) tables head fits = as_is t p (Goto id) (goto_read t p id fits) refl
reads t p (L.makes label) tables head fits = as_is t p (Makes label) (makes_read t p label tables head fits) refl
reads t p (L.root_makes root label) tables head fits = as_is t p (RootMakes root label) (root_makes_read t p root label tables head fits.0 fits.1) refl
reads t p (L.takes label s) tables head fits = record { line = Takes label (side_in s); read = takes_first t (call_text p label s) ∙ takes_again t p label s tables head fits; same = takes_same p label s; alike = takes_alike p label s }
reads t p (L.root_takes root label) tables head fits = as_is t p (RootTakes root label) (root_takes_read t p root label tables head fits.0 fits.1) refl
reads t p (L.mpi_send label to) tables head fits = as_is t p (Sends label to) (sends_read t p label to tables head fits.0 fits.1) refl
reads t p (L.mpi_recv label from) tables head fits = as_is t p (Receives label from) (receives_read t p label from tables head fits.0 fits.1) refl
reads t p L.mpi_barrier tables head fits = as_is t p Barrier (barrier_read t p) refl
reads t p (L.mpi_bcast label root) tables head fits = broadcasts_read t p label root tables head fits.0 fits.1
reads t p (L.mpi_reduce label op root) tables head fits = reduces_read t p label op root tables head fits.0 fits.1
reads t p (L.mpi_allreduce label op) tables head fits = allreduces_read t p label op tables head fits
reads t p (L.calls kernel) tables head fits = as_is t p (Calls kernel) (calls_read t p kernel tables head fits) refl
reads t p (L.chooses kernel) tables head fits = as_is t p (Chooses kernel) (chooses_read t p kernel tables head fits) refl
reads t p (L.probe from) tables head fits = as_is t p (Probe from) (probe_read t p from tables head fits) refl
reads t p (L.test_open label gs) tables head fits = as_is t p (TestOpen label gs) (test_read t p label gs fits.0 fits.1) refl
reads t p (L.else_test_open label gs) tables head fits = as_is t p (ElseTestOpen label gs) (else_test_read t p label gs fits.0 fits.1) refl
reads t p (L.picks branch) tables head fits = as_is t p (Picks branch) (picks_read t p branch fits) refl
reads t p L.aborts tables head fits = as_is t p Aborts (aborts_read t p) refl
reads t p (L.pick_open branch) tables head fits = as_is t p (PickOpen branch) (pick_read t p branch fits) refl
reads t p (L.else_pick_open branch) tables head fits = as_is t p (ElsePickOpen branch) (else_pick_read t p branch fits) refl
