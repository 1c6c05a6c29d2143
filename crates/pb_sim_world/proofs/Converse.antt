-- Where the world has an event of a rank, `can` is true.
use Rattle.std.proofs.Common.{◌≡◌, ◌<◌, ◌≤◌, ℕ, zero, suc, ◌+◌, Bool, true, false, ◌||◌, not, nat_eq, nat_lt, if◌then◌else◌, ◌⊎◌, inl, inr, Option, Some, None, List, [], ◌∷◌, map, length, get_or, refl, ap, sym, ◌∙◌, subst, arith}
use Rattle.std.specs.List.{slice_get, sum_by}
use Rattle.std.proofs.lemmas.Bool.{cases_lt, eq-eqb, or_right}
use Rattle.std.proofs.lemmas.Bool.Decides.{nat_tests}
use Rattle.std.proofs.lemmas.List.{length-map}
use Rattle.std.proofs.lemmas.List.Sums.{sum_by-cons}
use Rattle.std.proofs.lemmas.Option.{slice_get-get_or, slice_get_within}
use Rattle.pb_text.specs.declared.mode.Mode.{Mode}
use Rattle.pb_text.specs.declared.mode.Mode.TheVariants.{Eager, Waiting}
use Rattle.pb_world.specs.Actions.{Action, Sends, Receives, Enters, Leaves, Collective, Barrier, Broadcast, Reduce, Allreduce, kind_of}
use Rattle.pb_world.specs.Family.{IsInternal, choosing, running}
use Rattle.pb_world.specs.Machine as N
use Rattle.pb_world.specs.World as W
use Rattle.pb_world.specs.Counted.{Counted}
use Rattle.pb_local.specs.Machine as M
use Rattle.pb_local.specs.Collectives.{needs}
use Rattle.pb_local.specs.Family.{is_allowed, text_machine, Sequence, family}
use Rattle.pb_chan.specs.declared.message.Message.{Message}
use Rattle.pb_chan.specs.Lists.{messages, label_of, position}
use Rattle.pb_sim_collectives.specs.declared.call.Call.{Call}
use Rattle.pb_sim_collectives.specs.declared.call.Call.TheVariants as C
use Rattle.pb_sim_collectives.specs.Calls.{collective_of}
use Rattle.pb_sim_collectives.specs.Joined.{Joined, words_of, number, collectives, entries, fits_with, agrees, has_entered, came_to, came, all_entered}
use Rattle.pb_sim_collectives.specs.Outcomes.{words_at}
use Rattle.pb_machine.specs.Acts.{act_of, entry_of}
use Rattle.pb_machine.specs.Steps.{is_there, next_of}
use Rattle.pb_sim_world.specs.declared.stand.Waits.{Waits}
use Rattle.pb_sim_world.specs.declared.state.State.{State}
use Rattle.pb_sim_world.specs.States.{program, total_of, stand, state_at, next_step}
use Rattle.pb_sim_world.specs.Worlds.{moded, is_to, world_of}
use Rattle.pb_sim_world.specs.Can.{reads, has_needed, leaves_in, may_leave, can_act, can_next, unless_waiting, can}
use Rattle.pb_sim_world.specs.Sound.{IsIn, IsRooted, IsState}
use Rattle.pb_sim_world.proofs.Free.{unfree}
use Rattle.pb_sim_world.proofs.Entries.{same_it, paired_long, operation_back}
use Rattle.pb_sim_world.proofs.Joining.{get_map}
use Rattle.pb_sim_world.proofs.Exits.{inside, entry_there}

-- ---- lists of messages

pub first_label : (b : Bool) (ms : List Message) (m : W.Message) (rest : List W.Message) → moded b ms ≡ m ∷ rest → label_of ms ≡ Some m.label
first_label b [] m rest e = absurd (clash e) where
  clash : ◌≡◌ {A = List W.Message} [] (m ∷ rest) → ⊥
  clash z = cc
first_label b (x ∷ ms) m rest e = ap (λ y. Some y) (same _ _ _ _ e) where
  same : (x y : W.Message) (xs ys : List W.Message) → ◌≡◌ {A = List W.Message} (x ∷ xs) (y ∷ ys) → x.label ≡ y.label
  same x y xs ys z = cc

has_label : ℕ → List W.Message → Bool
has_label label [] = false
has_label label (m ∷ ms) = nat_eq label m.label || has_label label ms

taken_has : (label : ℕ) (xs : List W.Message) (m : W.Message) (rest : List W.Message) → W.Takes label xs m rest → has_label label xs ≡ true
unfolding has_label
taken_has label xs m rest (W.first e) = let b : nat_eq label m.label ≡ true = eq-eqb label m.label (sym e) in rw b refl
taken_has label xs n rest (W.later {m = m} e t) = or_right (nat_eq label m.label) _ (taken_has label _ n _ t)

has_is : (label i : ℕ) (b : Bool) (ms : List Message) → has_label label (moded b ms) ≡ true → is_there (position label i ms) ≡ true
unfolding has_label
has_is label i b [] e = absurd (clash e) where
  clash : false ≡ true → ⊥
  clash z = cc
has_is label i b (m ∷ ms) e = by_label (nat_eq label m.label) refl (has_is label (suc i) b ms) where
  by_label : (c : Bool) → nat_eq label m.label ≡ c → (has_label label (moded b ms) ≡ true → is_there (position label (suc i) ms) ≡ true) → is_there (if c then Some i else position label (suc i) ms) ≡ true
  by_label true f again = refl
  by_label false f again = again (ap (λ c. c || has_label label (moded b ms)) (sym f) ∙ e)

-- ---- who has entered

all_came : (k : ℕ) (xs : List (List (List ℕ))) → ((q : ℕ) → q < length xs → k < length (get_or xs q [])) → sum_by (came_to k) xs ≡ length xs
all_came k [] h = refl
all_came k (x ∷ xs) h =
    let c : sum_by (came_to k) (x ∷ xs) ≡ came_to k x + sum_by (came_to k) xs = sum_by-cons (came_to k) x xs in
    let u : sum_by (came_to k) xs ≡ length xs = all_came k xs (λ q lt. h (suc q) (omega (arith, lt))) in
    let l : k < length x = h 0 (omega arith) in
    let o : came_to k x ≡ 1 = one l in
    omega (arith, c, u, o) where
      one : k < length x → came_to k x ≡ 1
      one l = let b : nat_lt k (length x) ≡ true = grind (arith, nat_tests) in ap (λ v. if v then 1 else 0) b

pub all_are_in : (x : Joined) (k : ℕ) → ((q : ℕ) → q < length x.words → k < number x q) → all_entered x k ≡ true
all_are_in x k h = eq-eqb (came x k) (length x.words) (all_came k x.words h)

is_in : (x : Joined) (q k : ℕ) → k < number x q → has_entered x q k ≡ true
is_in x q k h = grind (arith, nat_tests)

-- whom a rank needs has entered
needed_are_in : (x : Joined) (r k : ℕ) (call : Call) → IsRooted (length x.words) (collective_of call) → ((q : ℕ) → q < length x.words → needs (collective_of call) r q ≡ true → k < number x q) → has_needed x r k call ≡ true
needed_are_in x r k C.Barrier root h = all_are_in x k (λ q lt. h q lt refl)
needed_are_in x r k (C.Broadcast label at) root h = is_in x at k (h at root (eq-eqb at at refl))
needed_are_in x r k (C.Reduce label op at) root h = by_rank (nat_eq r at) refl where
  by_rank : (b : Bool) → nat_eq r at ≡ b → (not b || all_entered x k) ≡ true
  by_rank true e = all_are_in x k (λ q lt. h q lt e)
  by_rank false e = refl
needed_are_in x r k (C.Allreduce label op) root h = all_are_in x k (λ q lt. h q lt refl)

-- a rank that has entered is there
there_of : (xs : List (List (List ℕ))) (p k : ℕ) → k < length (get_or xs p []) → p < length xs
there_of [] p k h = absurd (omega (arith, h))
there_of (x ∷ xs) zero k h = omega arith
there_of (x ∷ xs) (suc p) k h = let l : p < length xs = there_of xs p k h in omega (arith, l)

past_map : {A B : Type 0} (f : A → B) (xs : List A) (k : ℕ) → length xs ≤ k → slice_get (map f xs) k ≡ None
past_map f [] k h = refl
past_map f (x ∷ xs) zero h = absurd (omega (arith, h))
past_map f (x ∷ xs) (suc k) h = past_map f xs k (omega (arith, h))

module _ (s : State) (r : ℕ) (sequence : Sequence) (sound : IsState s) where
  long : (q : ℕ) → length (entries s.joins q) ≡ number s.joins q
  long q =
      let u : number s.joins q ≤ length s.joins.calls = sound.joined q in
      let c : length (collectives s.joins) ≡ length s.joins.calls = length-map s.joins.calls collective_of in
      paired_long (collectives s.joins) (words_of s.joins q) (omega (arith, u, c))

  -- the collective that it may enter
  pub may_enter : (j : Collective) → W.Agrees (family (program s) s.n sequence) (world_of s) r j → agrees s.joins r j ≡ true
  may_enter j agreed = by_place (cases_lt (number s.joins r) (length s.joins.calls)) where
    by_place : (number s.joins r < length s.joins.calls) ⊎ (length s.joins.calls ≤ number s.joins r) → agrees s.joins r j ≡ true
    by_place (inr h) = ap (λ o. fits_with o j) (past_map collective_of s.joins.calls (number s.joins r) h)
    by_place (inl h) =
        let call : Call = get_or s.joins.calls (number s.joins r) C.Barrier in
        let g : slice_get s.joins.calls (number s.joins r) ≡ Some (get_or s.joins.calls (number s.joins r) C.Barrier) = slice_get-get_or s.joins.calls (number s.joins r) C.Barrier h in
        let p = sound.opened.some (number s.joins r) h in
        let lt : p.0 < total_of s = subst (λ (k : ℕ). p.0 < k) sound.joins (there_of s.joins.words p.0 (number s.joins r) p.1) in
        let e : slice_get (entries s.joins p.0) (number s.joins r) ≡ Some (collective_of (get_or s.joins.calls (number s.joins r) C.Barrier), words_at s.joins (number s.joins r) p.0) = entry_there s.joins p.0 (number s.joins r) (get_or s.joins.calls (number s.joins r) C.Barrier) g p.1 in
        let f : collective_of (get_or s.joins.calls (number s.joins r) C.Barrier) ≡ j = agreed p.0 lt (collective_of (get_or s.joins.calls (number s.joins r) C.Barrier), words_at s.joins (number s.joins r) p.0) (ap (slice_get (entries s.joins p.0)) (long r) ∙ e) in
        ap (λ o. fits_with o j) (get_map collective_of s.joins.calls (number s.joins r) (get_or s.joins.calls (number s.joins r) C.Barrier) g ∙ ap Some f) ∙ same_it j

  -- the collective that it may leave
  may_go : (j : Collective) (words : ℕ → List ℕ) → r < total_of s → next_step s r ≡ N.Does (Leaves j) → W.HasEntered (family (program s) s.n sequence) (world_of s) r j words → ((stand s r).mode ≡ Waiting → W.AllEntered (family (program s) s.n sequence) (world_of s) r) → may_leave s.joins r (stand s r).left (stand s r).mode (slice_get s.joins.calls (stand s r).left) ≡ true
  may_go j words h e entered all = ap (may_leave s.joins r (stand s r).left (stand s r).mode) place.there ∙ by_mode (stand s r).mode refl where
    place : IsIn s.joins r (stand s r).left j (inside s r j sound h e).0
    place = (inside s r j sound h e).2

    few : (q : ℕ) → q < length s.joins.words → q < total_of s
    few q lt = subst (λ (k : ℕ). q < k) sound.joins lt

    root : IsRooted (length s.joins.words) (collective_of place.call)
    root = subst (λ (k : ℕ). IsRooted k (collective_of place.call)) (sym sound.joins) (sound.opened.rooted (stand s r).left place.call place.there)

    came_in : (q : ℕ) → q < length s.joins.words → needs (collective_of place.call) r q ≡ true → (stand s r).left < number s.joins q
    came_in q lt n =
        let g = entered q (few q lt) (ap (λ i. needs i r q) (sym place.same) ∙ n) in
        let l : (stand s r).left < length (entries s.joins q) = slice_get_within (entries s.joins q) (stand s r).left (j, words q) g in
        let k : length (entries s.joins q) ≡ number s.joins q = long q in
        omega (arith, l, k)

    by_mode : (mode : Mode) → (stand s r).mode ≡ mode → leaves_in s.joins r (stand s r).left place.call mode ≡ true
    by_mode Waiting m = all_are_in s.joins (stand s r).left (λ q lt. let l = all m q (few q lt) in let k : length (entries s.joins q) ≡ number s.joins q = long q in omega (arith, l, k))
    by_mode Eager m = needed_are_in s.joins r (stand s r).left place.call root came_in

  -- a rank that may make an event waits for no message of its own
  pub waits_none : W.IsFree (family (program s) s.n sequence) (world_of s) r → (stand s r).waits ≡ None
  waits_none free = by_waits (stand s r).waits refl where
    by_waits : (w : Option Waits) → (stand s r).waits ≡ w → (stand s r).waits ≡ None
    by_waits None e = e
    by_waits (Some w) e = absurd (unfree s sequence r w free.within sound e free)

  -- what comes next
  by_next : (next : N.Next) → W.IsFree (family (program s) s.n sequence) (world_of s) r → next_step s r ≡ next → can_next s r (state_at s r) (next_of next) ≡ true → can s r ≡ true
  by_next next free e h = ap (λ w. unless_waiting w (can_next s r (state_at s r) (next_of (next_step s r)))) (waits_none free) ∙ ap (λ y. can_next s r (state_at s r) (next_of y)) e ∙ h

  pub enter_can : (j : Collective) → agrees s.joins r j ≡ true → can_act s r (entry_of j) ≡ true
  enter_can Barrier h = h
  enter_can (Broadcast label root) h = h
  enter_can (Reduce label operation root) h = ap (λ o. agrees s.joins r (Reduce label o root)) (operation_back operation) ∙ h
  enter_can (Allreduce label operation) h = ap (λ o. agrees s.joins r (Allreduce label o)) (operation_back operation) ∙ h

  internal_can : (a : Action) → IsInternal a → is_allowed (program s) s.n r a ≡ true → can_act s r (act_of (kind_of a)) ≡ true
  internal_can a (choosing {branches = branches} {branch = branch}) h = some h where
    some : nat_lt branch branches ≡ true → nat_lt 0 branches ≡ true
    some h = grind (arith, nat_tests)
  internal_can a running h = refl

  read_can : (from : ℕ) (m : W.Message) (rest : List W.Message) (y : Counted M.Rank) → (world_of s).channel from r ≡ m ∷ rest → (text_machine (program s) s.n).read (state_at s r) m.label ≡ Some y → reads s (state_at s r) (label_of (messages s.channels from r)) ≡ true
  read_can from m rest y c f = ap (reads s (state_at s r)) (first_label (is_to (stand s from).waits r) (messages s.channels from r) m rest c) ∙ ap is_there f

  step_can : (acts : List Action) (V : W.World (Counted M.Rank)) → W.Step (family (program s) s.n sequence) (world_of s) r acts V → can s r ≡ true
  step_can acts V (W.silent free e) = by_next N.Silent free e refl
  step_can acts V (W.probe {p = p} {m = m} {rest = rest} {y = y} free e c f) = by_next (N.Probe p) free e (read_can p m rest y c f)
  step_can acts V (W.internal {a = a} free e i h) = by_next (N.Does (kind_of a)) free e (internal_can a i h)
  step_can acts V (W.send {q = q} {label = label} mode free e h) = by_next (N.Does (Sends q label)) free e refl
  step_can acts V (W.receive {p = p} {label = label} {m = m} {rest = rest} free e t) = by_next (N.Does (Receives p label)) free e (has_is label 0 (is_to (stand s p).waits r) (messages s.channels p r) (taken_has label ((world_of s).channel p r) m rest t))
  step_can acts V (W.enter {j = j} mode free e g h) = by_next (N.Does (Enters j)) free e (enter_can j (may_enter j g))
  step_can acts V (W.leave {j = j} words free e h g) = by_next (N.Does (Leaves j)) free e (may_go j words free.within e h g)

  -- a rank that has a step can make one
  pub can_of : W.CanStep (family (program s) s.n sequence) (world_of s) r → can s r ≡ true
  can_of h = step_can h.0 h.1 h.2
