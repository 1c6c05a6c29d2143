-- What a rank does next at a place.
use Rattle.std.proofs.Common.{◌≡◌, ◌≤◌, ◌<◌, ℕ, zero, suc, ◌+◌, List, [], ◌∷◌, ◌++◌, take, length, ap, sym, ◌∙◌, refl, Option, Some, None, Bool, true, false, ◌&&◌, ◌==◌, int_le, if◌then◌else◌, add-one, arith, Vec, append_assoc, subst, length-append, ℤ, pos, ◌+ℤ◌}
use Rattle.std.proofs.Math.Seq.{take-append_seam}
use Rattle.std.proofs.Math.Path.{fun_ext}
use Rattle.std.proofs.lemmas.List.{length-take-le}
use Rattle.std.specs.declared.alloc.Global.{Global}
use Rattle.pb_affine.specs.declared.lin.Lin.{Lin}
use Rattle.pb_affine.specs.declared.guard.Guard.{Guard}
use Rattle.pb_affine.specs.Values.{value, count_of}
use Rattle.pb_world.specs.Actions.{Sends, Receives, Broadcast, Reduce}
use Rattle.pb_local.specs.declared.stmt.Peer.{Peer}
use Rattle.pb_local.specs.declared.stmt.Test.{Test}
use Rattle.pb_local.specs.declared.stmt.Relay.{Relay}
use Rattle.pb_local.specs.declared.stmt.Stmt.{Stmt}
use Rattle.pb_local.specs.declared.stmt.Stmt.TheVariants.{Choice, If, For, Loop}
use Rattle.pb_local.specs.Tree.{Code, when, for_each, own, loop, again, choice, send, recv, run, barrier, broadcast, reduce, allreduce, Codes, more, Parts, no_part, part, Program, size_all, plain, plain_all}
use Rattle.pb_local.specs.WellMade.{count_parts}
use Rattle.pb_local.specs.Collectives.{operation_of}
use Rattle.pb_local.specs.Computed.{fits, all_fit, is_for, is_for_some, guard_numbers, numbers_of, relay_numbers, source_of, is_peer, peer_number, branch_for}
use Rattle.pb_local.specs.Machine.{Todo, finished, do_next, round_of, end_of, leave, Rank, Move, ends, undefined, silent, does, chooses, probes, pushed, entered, back_to, with_i, with_todo, quietly, told, with_peer, asks, move_at, move_from}
use Rattle.pb_local.proofs.Plains.{choice_plain, when_plain, for_plain, loop_plain}
use Rattle.pb_ctree.specs.declared.tree.Formula.{Formula}
use Rattle.pb_machine_next.specs.declared.step.Step.{Step}
use Rattle.pb_machine_next.specs.declared.me.Me.{Me}
use Rattle.pb_machine_next.specs.declared.ahead.Go.TheVariants.{Stay, Enter}
use Rattle.pb_machine_next.specs.Heights.{height, height_all, breadth, breadth_all}
use Rattle.pb_machine_next.specs.Numbers.{seat_of, guard_holds, some_holds, source_at, tested}
use Rattle.pb_machine_next.specs.Peers.{peer_at}
use Rattle.pb_machine_next.specs.Place.{part_at, part_number, inner_number, looped, found, nowhere, at_code, at_round, block_from, number_at, head, inside, marked, Spot, on_from, beyond, enter, enter_at, spot, root, todo, block_at, tests_of, tests_at, settled}
use Rattle.pb_machine_next.specs.Meaning.{IsFront, IsCode, IsRound, IsAt, IsLoop, IsBack}
use Rattle.pb_machine_next.specs.View.{rank_of, goes, told_to, enters, when_some, begun, turned, owned, probed, asked, chosen, branched, move_to, back_by, Knows}
use Rattle.pb_machine_next.proofs.Plains.{parts, from_none}
use Rattle.pb_machine_next.proofs.Places.{spot-append, block_is, found_whole, looped_whole, back-passed}
use Rattle.pb_machine_next.proofs.Heights.{path_low}
use Rattle.pb_machine_next.proofs.Breadths.{path_narrow}
use Rattle.pb_machine_next.proofs.Computing.{guard_is, some_is, source_is, tested_is, peer_is}

-- ---- one statement's step is the definition's

turned_is : (n : ℤ) (me : Me) (i v : ℤ) (high : Lin) (t round over : Todo) → n ≡ me.n →
    quietly (v ∷ value high n v ∷ []) (with_i (rank_of me i t) v (if int_le v (value high n v) then round else over)) ≡ turned me v high round over
turned_is n me i v high t round over same =
    ap (λ z. quietly (v ∷ value high z v ∷ []) (with_i (rank_of me i t) v (if int_le v (value high z v) then round else over))) same
    ∙ both (fits v) (fits (value high me.n v)) refl where
      both : (a b : Bool) → fits (value high me.n v) ≡ b → (if (a && (b && true)) then silent (rank_of me v (if int_le v (value high me.n v) then round else over)) else undefined)
          ≡ when_some (if a then Some v else None) (λ j. begun me j high round over)
      both true true e = rw e refl
      both true false e = rw e refl
      both false b e = refl

owned_is : (me : Me) (i v : ℤ) (t stay : Todo) → quietly (v ∷ []) (with_i (rank_of me i t) v stay) ≡ owned me v stay
owned_is me i v t stay = by_fit (fits v) where
  by_fit : (a : Bool) → (if (a && true) then silent (rank_of me v stay) else undefined) ≡ when_some (if a then Some v else None) (λ j. silent (rank_of me j stay))
  by_fit true = refl
  by_fit false = refl

branched_is : (me : Me) (i : ℤ) (gs : List Guard) (t x y : Todo) (into : ℕ → Todo) → into 0 ≡ x → into 1 ≡ y →
    quietly (numbers_of me.n (seat_of me) i gs) (with_todo (rank_of me i t) (if is_for_some me.n (seat_of me) i gs then x else y)) ≡ branched me i into (some_holds gs me i)
branched_is me i gs t x y into first other =
    by_fit (all_fit (numbers_of me.n (seat_of me) i gs)) (is_for_some me.n (seat_of me) i gs) ∙ ap (branched me i into) (sym (some_is me i gs)) where
      by_fit : (a b : Bool) → (if a then silent (rank_of me i (if b then x else y)) else undefined) ≡ branched me i into (if a then Some b else None)
      by_fit true true = ap (λ z. silent (rank_of me i z)) (sym first)
      by_fit true false = ap (λ z. silent (rank_of me i z)) (sym other)
      by_fit false b = refl

peer_move : (p : Program) (places : List Formula) (me : Me) (i : ℤ) (t : Todo) (e : Peer) (go : ℕ → Move) → Knows p places me →
    with_peer p me.n (rank_of me i t) e go ≡ when_some (peer_at places e me i) go
peer_move p places me i t e go h =
    by_peer (is_peer me.n (seat_of me) i p e) ∙ ap (λ o. when_some o go) (sym (peer_is p places me i e h)) where
      by_peer : (b : Bool) → (if b then go (count_of (peer_number me.n (seat_of me) i p e)) else undefined) ≡ when_some (if b then Some (count_of (peer_number me.n (seat_of me) i p e)) else None) go
      by_peer true = refl
      by_peer false = refl

entered_is : (m k : ℕ) (bs : Parts) (rest : Todo) → entered m k bs rest ≡ pushed (part_number m k bs) (part_at k bs) rest
entered_is m k no_part rest = refl
entered_is m zero (part b bs) rest = refl
entered_is m (suc k) (part b bs) rest = entered_is (m + size_all b) k bs rest

told_is : (me : Me) (i : ℤ) (t rest : Todo) (m : ℕ) (bs : Parts) (o : Option ℕ) → told (rank_of me i t) m bs rest o ≡ told_to me i (λ k. pushed (part_number m k bs) (part_at k bs) rest) o
told_is me i t rest m bs None = refl
told_is me i t rest m bs (Some b) = ap (λ z. Some (rank_of me i z)) (entered_is m b bs rest)

asked_is : (p : Program) (places : List Formula) (me : Me) (i : ℤ) (t rest : Todo) (rs : List Relay) (e : Peer) (ts : List Test) (m : ℕ) (bs : Parts) → Knows p places me →
    asks p me.n (rank_of me i t) rs e ts m bs rest ≡ asked places me i rs e ts (λ k. pushed (part_number m k bs) (part_at k bs) rest)
asked_is p places me i t rest rs e [] m bs h = refl
asked_is p places me i t rest rs e (x ∷ xs) m bs h =
    by_fit (all_fit (relay_numbers me.n (seat_of me) i rs)) ∙ ap (λ o. when_some o go) (sym (source_is me i rs e)) where
      into : ℕ → Todo
      into = λ k. pushed (part_number m k bs) (part_at k bs) rest

      go : Peer → Move
      go = λ e. probed me i (x ∷ xs) into (peer_at places e me i)

      same : (q : ℕ) → probes q (λ l. told (rank_of me i t) m bs rest (branch_for me.n (seat_of me) i (x ∷ xs) l)) ≡ probes q (λ l. told_to me i into (tested (x ∷ xs) l me i))
      same q = ap (probes q) (fun_ext (λ l. told_is me i t rest m bs (branch_for me.n (seat_of me) i (x ∷ xs) l) ∙ ap (told_to me i into) (sym (tested_is me i (x ∷ xs) l))))

      found_source : (e : Peer) → with_peer p me.n (rank_of me i t) e (λ q. probes q (λ l. told (rank_of me i t) m bs rest (branch_for me.n (seat_of me) i (x ∷ xs) l))) ≡ go e
      found_source e = peer_move p places me i t e (λ q. probes q (λ l. told (rank_of me i t) m bs rest (branch_for me.n (seat_of me) i (x ∷ xs) l))) h ∙ ap (when_some (peer_at places e me i)) (fun_ext same)

      by_fit : (a : Bool) → (if a then with_peer p me.n (rank_of me i t) (source_of me.n (seat_of me) i rs e) (λ q. probes q (λ l. told (rank_of me i t) m bs rest (branch_for me.n (seat_of me) i (x ∷ xs) l))) else undefined)
          ≡ when_some (if a then Some (source_of me.n (seat_of me) i rs e) else None) go
      by_fit true = found_source (source_of me.n (seat_of me) i rs e)
      by_fit false = refl

chosen_is : (p : Program) (places : List Formula) (me : Me) (i : ℤ) (t rest : Todo) (who : Guard) (kernel : ℕ) (rs : List Relay) (e : Peer) (ts : List Test) (m : ℕ) (bs : Parts) → Knows p places me →
    (if all_fit (guard_numbers me.n (seat_of me) i who)
    then (if is_for me.n (seat_of me) i who
    then chooses kernel (count_parts bs) (λ b. with_todo (rank_of me i t) (entered m b bs rest))
    else asks p me.n (rank_of me i t) rs e ts m bs rest)
    else undefined)
    ≡ chosen places me i kernel (count_parts bs) rs e ts (λ k. pushed (part_number m k bs) (part_at k bs) rest) (guard_holds who me i)
chosen_is p places me i t rest who kernel rs e ts m bs h =
    by_fit (all_fit (guard_numbers me.n (seat_of me) i who)) (is_for me.n (seat_of me) i who)
    ∙ ap (chosen places me i kernel (count_parts bs) rs e ts (λ k. pushed (part_number m k bs) (part_at k bs) rest)) (sym (guard_is me i who)) where
      own_choice : chooses kernel (count_parts bs) (λ b. with_todo (rank_of me i t) (entered m b bs rest)) ≡ chooses kernel (count_parts bs) (λ b. rank_of me i (pushed (part_number m b bs) (part_at b bs) rest))
      own_choice = ap (chooses kernel (count_parts bs)) (fun_ext (λ b. ap (rank_of me i) (entered_is m b bs rest)))

      by_fit : (a b : Bool) → (if a then (if b then chooses kernel (count_parts bs) (λ b. with_todo (rank_of me i t) (entered m b bs rest)) else asks p me.n (rank_of me i t) rs e ts m bs rest) else undefined)
          ≡ chosen places me i kernel (count_parts bs) rs e ts (λ k. pushed (part_number m k bs) (part_at k bs) rest) (if a then Some b else None)
      by_fit true true = own_choice
      by_fit true false = asked_is p places me i t rest rs e ts m bs h
      by_fit false b = refl

pub step_is : (p : Program) (places : List Formula) (me : Me) (i : ℤ) (t rest : Todo) (k : ℕ) (c : Code) → Knows p places me →
    move_at p me.n (rank_of me i t) k c rest ≡ move_to places me i c (λ q. pushed (inner_number k q c) (inside q c) (marked k c rest)) rest (λ id. back_to id rest)
step_is p places me i t rest k (when gs x y) h = branched_is me i gs t (pushed (suc k) x rest) (pushed (suc k + size_all x) y rest) (λ q. pushed (inner_number k q (when gs x y)) (inside q (when gs x y)) rest) refl refl
step_is p places me i t rest k (for_each low high body) h = turned_is me.n me i (value low me.n i) high t (pushed (suc k) body (round_of high (suc k) body rest)) rest refl
step_is p places me i t rest k (own off) h = owned_is me i (me.index +ℤ off) t rest
step_is p places me i t rest k (loop id body) h = refl
step_is p places me i t rest k (again id) h = refl
step_is p places me i t rest k (choice who kernel rs e ts bs) h = chosen_is p places me i t rest who kernel rs e ts (suc k) bs h
step_is p places me i t rest k (send l e) h = peer_move p places me i t e (λ q. does (Sends q l) (rank_of me i rest)) h
step_is p places me i t rest k (recv l e) h = peer_move p places me i t e (λ q. does (Receives q l) (rank_of me i rest)) h
step_is p places me i t rest k (run kernel) h = refl
step_is p places me i t rest k barrier h = refl
step_is p places me i t rest k (broadcast l e) h = peer_move p places me i t e (λ q. enters me i (Broadcast l q) rest) h
step_is p places me i t rest k (reduce l op e) h = peer_move p places me i t e (λ q. enters me i (Reduce l (operation_of op) q) rest) h
step_is p places me i t rest k (allreduce l op) h = refl

-- a rank that isn't the chooser, where there are tests
pub asked_some : (places : List Formula) (me : Me) (i : ℤ) (rs : List Relay) (from e : Peer) (ts : List Test) (into : ℕ → Todo) → (length ts == 0) ≡ false → Some e ≡ source_at rs from me i →
    probed me i ts into (peer_at places e me i) ≡ asked places me i rs from ts into
asked_some places me i rs from e [] into some is = cc
asked_some places me i rs from e (t ∷ ts) into some is = ap (λ o. when_some o (λ z. probed me i (t ∷ ts) into (peer_at places z me i))) is

-- ---- places

-- behind the last statement of the whole tree nothing is left
pub ended_at : (body : List Stmt) (path : List Step) (n : ℕ) → n ≡ length body → goes (plain_all body) path (Stay 0 n) ≡ finished
ended_at body path n h = ap (λ z. pushed (number_at 0 n (plain_all body)) z finished) (from_none body n (omega (arith, h)))

pub count-parts : (bs : List (Vec Stmt Global)) → count_parts (parts bs) ≡ length bs
count-parts [] = refl
count-parts (b ∷ bs) = ap suc (count-parts bs)

-- the ends of loops that were reached are passed
pub move-settled : (p : Program) (n : ℤ) (x : Rank) (t : Todo) → move_from p n x t ≡ move_from p n x (settled t)
move-settled p n x finished = refl
move-settled p n x (do_next k c rest) = refl
move-settled p n x (round_of high k body rest) = refl
move-settled p n x (end_of id k body rest) = move-settled p n x rest
move-settled p n x (leave joint rest) = refl

to_same : (places : List Formula) (me : Me) (i : ℤ) (c : Code) (f g : ℕ → Todo) (s t : Todo) (h k : ℕ → Todo) → f ≡ g → s ≡ t → h ≡ k → move_to places me i c f s h ≡ move_to places me i c g t k
to_same places me i c f g s t h k e1 e2 e3 = cc

front_is : (path : List Step) (d : ℕ) (front : List Step) → IsFront path d front → take d path ≡ front
front_is path d front h = rw (h.joined, ← h.long) (take-append_seam front h.others)

spot_in : (b : Codes) (path front : List Step) (d k q : ℕ) (c : Code) → take d path ≡ front →
    block_from k (spot (root b) front).block ≡ more c (block_from (suc k) (spot (root b) front).block) →
    goes b path (Enter d k q) ≡ pushed (inner_number (number_at (spot (root b) front).number k (spot (root b) front).block) q c) (inside q c) (marked (number_at (spot (root b) front).number k (spot (root b) front).block) c (beyond (spot (root b) front) k))
spot_in b path front d k q c h there =
    let f : Step = record { at = k; part = q } in
    let s : Spot = spot (root b) front in
    let inner : spot (root b) (front ++ f ∷ []) ≡ enter s f = spot-append (root b) front (f ∷ []) in
    let first : head (block_from k s.block) ≡ c = ap head there in
    ap (λ z. on_from (spot (root b) (z ++ f ∷ [])) 0) h
    ∙ ap (λ (z : Spot). on_from z 0) inner
    ∙ ap (λ z. on_from (enter_at s k q z) 0) first

back_is : (b : Codes) (path : List Step) (d : ℕ) (front : List Step) (id : ℕ) (t : Todo) (o : Option ℕ) → IsFront path d front → IsBack b front id t o → back_by b path o ≡ back_to id t
back_is b path d front id t None h back = sym back
back_is b path d front id t (Some e) h back =
    let short : take e path ≡ back.front = front_is path e back.front (record { others = back.is_front.others ++ h.others; joined = h.joined ∙ ap (λ z. z ++ h.others) back.is_front.joined ∙ append_assoc back.front back.is_front.others h.others; long = back.is_front.long }) in
    ap (λ z. todo b z 0) short ∙ sym back.todo_is

pub code_next : (p : Program) (places : List Formula) (me : Me) (i : ℤ) (b : Codes) (path : List Step) (t : Todo) (d k after : ℕ) (c : Code) → Knows p places me → IsCode b path t d k after c →
    move_to places me i c (λ q. goes b path (Enter d k q)) (goes b path (Stay d after)) (λ id. back_by b path (looped b (take d path) id 0 None)) ≡ move_from p me.n (rank_of me i t) t
code_next p places me i b path t d k after c knows h =
    let short : take d path ≡ h.front = front_is path d h.front h.is_front in
    let s : Spot = spot (root b) h.front in
    let m : ℕ = number_at s.number k s.block in
    let into : (q : ℕ) → goes b path (Enter d k q) ≡ pushed (inner_number m q c) (inside q c) (marked m c (beyond s k)) = λ (q : ℕ). spot_in b path h.front d k q c short h.there in
    let stay : goes b path (Stay d after) ≡ beyond s k = ap (λ z. todo b z after) short ∙ ap (todo b h.front) h.after_is in
    let back : (id : ℕ) → back_by b path (looped b (take d path) id 0 None) ≡ back_to id (beyond s k) =
    λ (id : ℕ). ap (λ z. back_by b path (looped b z id 0 None)) short ∙ back_is b path d h.front id s.rest (looped b h.front id 0 None) h.is_front (looped_whole b h.front id) ∙ sym (back-passed id s k) in
    let first : move_to places me i c (λ q. goes b path (Enter d k q)) (goes b path (Stay d after)) (λ id. back_by b path (looped b (take d path) id 0 None))
    ≡ move_to places me i c (λ q. pushed (inner_number m q c) (inside q c) (marked m c (beyond s k))) (beyond s k) (λ id. back_to id (beyond s k)) =
    to_same places me i c _ _ _ _ _ _ (fun_ext into) stay (fun_ext back) in
    first ∙ sym (step_is p places me i t (beyond s k) m c knows) ∙ sym (move-settled p me.n (rank_of me i t) t ∙ ap (move_from p me.n (rank_of me i t)) h.todo_is)

pub round_next : (p : Program) (me : Me) (i : ℤ) (b : Codes) (path : List Step) (t : Todo) (d after : ℕ) (high : Lin) → IsRound b path t d after high →
    turned me (i +ℤ pos 1) high (goes b path (Stay (d + 1) 0)) (goes b path (Stay d after)) ≡ move_from p me.n (rank_of me i t) t
round_next p me i b path t d after high h =
    let short : take d path ≡ h.front = front_is path d h.front h.is_front in
    let longer : take (d + 1) path ≡ h.front ++ h.step ∷ [] = ap (λ z. take z path) (add-one d) ∙ front_is path (suc d) (h.front ++ h.step ∷ []) h.is_path in
    let s : Spot = spot (root b) h.front in
    let m : ℕ = number_at s.number h.step.at s.block in
    let inner : spot (root b) (h.front ++ h.step ∷ []) ≡ record { number = suc m; block = h.body; rest = round_of high (suc m) h.body (beyond s h.step.at) } = h.inner ∙ ap (enter_at s h.step.at h.step.part) h.code_is in
    let round : goes b path (Stay (d + 1) 0) ≡ pushed (suc m) h.body (round_of high (suc m) h.body (beyond s h.step.at)) = ap (λ z. todo b z 0) longer ∙ ap (λ (z : Spot). on_from z 0) inner in
    let stay : goes b path (Stay d after) ≡ beyond s h.step.at = ap (λ z. todo b z after) short ∙ ap (todo b h.front) h.after_is in
    (rw (round, stay) refl)
    ∙ sym (turned_is me.n me i (i +ℤ pos 1) high t (pushed (suc m) h.body (round_of high (suc m) h.body (beyond s h.step.at))) (beyond s h.step.at) refl)
    ∙ sym (move-settled p me.n (rank_of me i t) t ∙ ap (move_from p me.n (rank_of me i t)) h.todo_is)

-- ---- what was found

pub is_code : (b : Codes) (path : List Step) (k d at after : ℕ) (c : Code) → at_code d at after c ≡ found b path 0 k nowhere → IsCode b path (todo b path k) d at after c
is_code b path k d at after c h = subst (IsAt b path (todo b path k)) (sym h) (found_whole b path k)

pub is_round : (b : Codes) (path : List Step) (k d after : ℕ) (high : Lin) → at_round d after high ≡ found b path 0 k nowhere → IsRound b path (todo b path k) d after high
is_round b path k d after high h = subst (IsAt b path (todo b path k)) (sym h) (found_whole b path k)

front_short : (path front : List Step) (d : ℕ) → IsFront path d front → d ≤ length path
front_short path front d h = let e : length path ≡ length front + length h.others = ap length h.joined ∙ length-append front h.others in omega (arith, e, h.long)

pub code_short : (b : Codes) (path : List Step) (t : Todo) (d at after : ℕ) (c : Code) → IsCode b path t d at after c → d ≤ length path
code_short b path t d at after c h = front_short path h.front d h.is_front

pub round_short : (b : Codes) (path : List Step) (t : Todo) (d after : ℕ) (high : Lin) → IsRound b path t d after high → d < length path
round_short b path t d after high h = let e = front_short path (h.front ++ h.step ∷ []) (suc d) h.is_path in omega (arith, e)

pub code_high : (b : Codes) (path : List Step) (t : Todo) (d at after : ℕ) (c : Code) → IsCode b path t d at after c → d + height c ≤ height_all b
code_high b path t d at after c h = let e = path_low b h.front at c _ h.there in omega (arith, e, h.is_front.long)

pub code_narrow : (b : Codes) (path : List Step) (t : Todo) (d at after : ℕ) (c : Code) → IsCode b path t d at after c → breadth_all b ≤ 64 → breadth c ≤ 64
code_narrow b path t d at after c h few = let e = path_narrow b h.front at c _ h.there in omega (arith, e, few)

-- the tests of the statement at a place
pub code_tests : (b : Codes) (path : List Step) (t : Todo) (d at after : ℕ) (c : Code) → IsCode b path t d at after c → tests_at b (take d path) at ≡ tests_of c
code_tests b path t d at after c h =
    ap (λ z. tests_of (head (block_from at (block_at b z)))) (front_is path d h.front h.is_front)
    ∙ ap (λ z. tests_of (head (block_from at z))) (block_is (root b) h.front)
    ∙ ap (λ z. tests_of (head z)) h.there

pub ended_next : (p : Program) (n : ℤ) (x : Rank) (b : Codes) (path : List Step) (k : ℕ) → nowhere ≡ found b path 0 k nowhere → ends ≡ move_from p n x (todo b path k)
ended_next p n x b path k h =
    let e : settled (todo b path k) ≡ finished = subst (IsAt b path (todo b path k)) (sym h) (found_whole b path k) in
    sym (move-settled p n x (todo b path k) ∙ ap (move_from p n x) e)

pub no_loop : (body : List Stmt) (path front : List Step) (id : ℕ) → None ≡ looped (plain_all body) front id 0 None → todo (plain_all body) [] (length body) ≡ back_by (plain_all body) path (looped (plain_all body) front id 0 None)
no_loop body path front id h = ended_at body path (length body) refl ∙ ap (back_by (plain_all body) path) h

pub back_short : (b : Codes) (path : List Step) (d e id : ℕ) → d ≤ length path → Some e ≡ looped b (take d path) id 0 None → e ≤ length path
back_short b path d e id le h =
    let back : IsLoop b (take d path) id (spot (root b) (take d path)).rest e = subst (IsBack b (take d path) id (spot (root b) (take d path)).rest) (sym h) (looped_whole b (take d path) id) in
    let short = front_short (take d path) back.front e back.is_front in
    let same : length (take d path) ≡ d = length-take-le d path le in
    omega (arith, le, short, same)

-- ---- statements with blocks

pub choice_is : (s : Stmt) (who : Guard) (k : ℕ) (rs : Vec Relay Global) (e : Peer) (ts : Vec Test Global) (bs : Vec (Vec Stmt Global) Global) → s ≡ Choice who k rs e ts bs →
    plain s ≡ choice who k rs.items e ts.items (parts bs.items)
choice_is s who k rs e ts bs is = ap plain is ∙ choice_plain who k rs e ts bs

pub choice_high : (s : Stmt) (who : Guard) (k : ℕ) (rs : Vec Relay Global) (e : Peer) (ts : Vec Test Global) (bs : Vec (Vec Stmt Global) Global) (d h : ℕ) →
    s ≡ Choice who k rs e ts bs → d + height (plain s) ≤ h → d < h
choice_high s who k rs e ts bs d h is le =
    let f : height (plain s) ≡ height (choice who k rs.items e ts.items (parts bs.items)) = ap height (choice_is s who k rs e ts bs is) in
    omega (arith, le, f)

pub choice_few : (s : Stmt) (who : Guard) (k : ℕ) (rs : Vec Relay Global) (e : Peer) (ts : Vec Test Global) (bs : Vec (Vec Stmt Global) Global) →
    s ≡ Choice who k rs e ts bs → breadth (plain s) ≤ 64 → length bs.items ≤ 64
choice_few s who k rs e ts bs is le =
    let f : breadth (plain s) ≡ breadth (choice who k rs.items e ts.items (parts bs.items)) = ap breadth (choice_is s who k rs e ts bs is) in
    let g = count-parts bs.items in
    omega (arith, le, f, g)

pub choice_does : (places : List Formula) (me : Me) (i : ℤ) (s : Stmt) (who : Guard) (k : ℕ) (rs : Vec Relay Global) (e : Peer) (ts : Vec Test Global) (bs : Vec (Vec Stmt Global) Global) (into back : ℕ → Todo) (stay : Todo)
    (n : ℕ) (relays : List Relay) (tests : List Test) → s ≡ Choice who k rs e ts bs → n ≡ length bs.items → relays ≡ rs.items → tests ≡ ts.items →
    chosen places me i k n relays e tests into (guard_holds who me i) ≡ move_to places me i (plain s) into stay back
choice_does places me i s who k rs e ts bs into back stay n relays tests is count same tested =
    let f : plain s ≡ choice who k rs.items e ts.items (parts bs.items) = choice_is s who k rs e ts bs is in
    let m : count_parts (parts bs.items) ≡ n = count-parts bs.items ∙ sym count in
    rw (f, m, same, tested) refl

pub if_high : (s : Stmt) (gs : List Guard) (x y : Vec Stmt Global) (d h : ℕ) → s ≡ If gs x y → d + height (plain s) ≤ h → d < h
if_high s gs x y d h is le =
    let f : height (plain s) ≡ height (when gs (plain_all x.items) (plain_all y.items)) = ap (λ z. height (plain z)) is ∙ ap height (when_plain gs x y) in
    omega (arith, le, f)

pub for_high : (s : Stmt) (low high : Lin) (x : Vec Stmt Global) (d h : ℕ) → s ≡ For low high x → d + height (plain s) ≤ h → d < h
for_high s low high x d h is le =
    let f : height (plain s) ≡ height (for_each low high (plain_all x.items)) = ap (λ z. height (plain z)) is ∙ ap height (for_plain low high x) in
    omega (arith, le, f)

pub loop_high : (s : Stmt) (id : ℕ) (x : Vec Stmt Global) (d h : ℕ) → s ≡ Loop id x → d + height (plain s) ≤ h → d < h
loop_high s id x d h is le =
    let f : height (plain s) ≡ height (loop id (plain_all x.items)) = ap (λ z. height (plain z)) is ∙ ap height (loop_plain id x) in
    omega (arith, le, f)
