-- A collective is entered, or left.
use Rattle.std.proofs.Common.{◌≡◌, ◌<◌, ◌≤◌, ℕ, zero, suc, ◌+◌, true, false, nat_lt, if◌then◌else◌, ◌⊎◌, inl, inr, Option, Some, None, List, [], ◌∷◌, ◌++◌, map, length, get_or, refl, ap, sym, ◌∙◌, subst, arith, length-append}
use Rattle.std.specs.Global.{Vec}
use Rattle.std.specs.List.{slice_set, slice_get}
use Rattle.std.proofs.lemmas.Bool.{cases_eq, cases_lt, eq-eqb}
use Rattle.std.proofs.lemmas.Bool.Decides.{nat_tests}
use Rattle.std.proofs.lemmas.List.{length-map, length-set, map-append}
use Rattle.std.proofs.lemmas.Option.{slice_get-get_or, slice_get_within, same_Some}
use Rattle.pb_text.specs.declared.mode.Mode.{Mode}
use Rattle.pb_world.specs.Actions.{Enter, Kind, Enters, Leaves, Collective}
use Rattle.pb_world.specs.Machine as N
use Rattle.pb_world.specs.World as W
use Rattle.pb_world.specs.Counted.{Counted}
use Rattle.pb_local.specs.Machine as M
use Rattle.pb_local.specs.Collectives.{weight}
use Rattle.pb_local.specs.Family.{is_allowed, text_machine, Sequence, family}
use Rattle.pb_chan.specs.Lists.{messages}
use Rattle.pb_sim_collectives.specs.declared.call.Call.{Call}
use Rattle.pb_sim_collectives.specs.Calls.{collective_of, is_same}
use Rattle.pb_sim_collectives.specs.Joined.{Joined, words_of, number, collectives, paired, entries, fits_with, agrees, entered, IsJoined}
use Rattle.pb_machine.specs.declared.act.Input.TheVariants.{Plain}
use Rattle.pb_machine.specs.declared.rank.Rank.{Rank}
use Rattle.pb_machine.specs.declared.act.Next.{Next}
use Rattle.pb_sim_world.specs.declared.stand.Stand.{Stand}
use Rattle.pb_sim_world.specs.declared.state.State.{State}
use Rattle.pb_sim_world.specs.States.{program, total_of, stand, state_at, next_step}
use Rattle.pb_sim_world.specs.Worlds.{moded, is_to, world_of}
use Rattle.pb_sim_world.specs.Sound.{IsWaiting, IsJoining, IsRooted, AreOpened, IsState}
use Rattle.pb_sim_world.specs.Events.{remade, IsAdvanced, IsMoved, IsEvent, MayStep}
use Rattle.pb_sim_world.proofs.Lists.{at_set, get_pushed}
use Rattle.pb_sim_world.proofs.Parts.{same_world}
use Rattle.pb_sim_world.proofs.Free.{free}
use Rattle.pb_sim_world.proofs.Advancing.{act_moved}
use Rattle.pb_sim_world.proofs.Leaving.{IsExit}
use Rattle.pb_sim_world.proofs.Near.{near}
use Rattle.pb_sim_world.proofs.Entries.{same_of, paired_get, paired_long, paired_more, paired_next}
use Rattle.pb_sim_world.proofs.Kept.{state_moved, stand_moved, kept, each_but, at_other, at_it, acts_out}

get_end : {A : Type 0} (xs : List A) (x : A) → slice_get (xs ++ x ∷ []) (length xs) ≡ Some x
get_end [] x = refl
get_end (y ∷ xs) x = get_end xs x

get_front : {A : Type 0} (xs : List A) (x y : A) (k : ℕ) → slice_get xs k ≡ Some y → slice_get (xs ++ x ∷ []) k ≡ Some y
get_front {A} [] x y k e = absurd (clash e) where
  clash : ◌≡◌ {A = Option A} None (Some y) → ⊥
  clash z = cc
get_front (z ∷ xs) x y zero e = e
get_front (z ∷ xs) x y (suc k) e = get_front xs x y k e

pub get_map : {A B : Type 0} (f : A → B) (xs : List A) (k : ℕ) (y : A) → slice_get xs k ≡ Some y → slice_get (map f xs) k ≡ Some (f y)
get_map {A} f [] k y e = absurd (clash e) where
  clash : ◌≡◌ {A = Option A} None (Some y) → ⊥
  clash z = cc
get_map f (x ∷ xs) zero y e = ap (λ z. Some (f z)) (same_Some x y e)
get_map f (x ∷ xs) (suc k) y e = get_map f xs k y e

-- of a rank that enters this call, where nobody has entered another there
module _ (x : Joined) (r : ℕ) (call : Call) (w : List ℕ) (joined : IsJoined x) (h : r < length x.words) (fit : agrees x r (collective_of call) ≡ true) where
  new_words : (q : ℕ) → words_of (entered x r call w) q ≡ W.updated (words_of x) r (words_of x r ++ w ∷ []) q
  new_words q = at_set x.words r (words_of x r ++ w ∷ []) q [] h

  words_it : words_of (entered x r call w) r ≡ words_of x r ++ w ∷ []
  words_it = new_words r ∙ at_it (words_of x) r (words_of x r ++ w ∷ [])

  words_other : (q : ℕ) → (q ≡ r → ⊥) → words_of (entered x r call w) q ≡ words_of x q
  words_other q n = new_words q ∙ at_other (words_of x) r (words_of x r ++ w ∷ []) q n

  pub number_it : number (entered x r call w) r ≡ suc (number x r)
  number_it = let n : length (words_of x r ++ w ∷ []) ≡ length (words_of x r) + 1 = length-append (words_of x r) (w ∷ []) in ap length words_it ∙ omega (arith, n)

  pub number_other : (q : ℕ) → (q ≡ r → ⊥) → number (entered x r call w) q ≡ number x q
  number_other q n = ap length (words_other q n)

  data IsNext : Type 0 where
    old : (entered x r call w).calls ≡ x.calls → (d : Call) → slice_get x.calls (number x r) ≡ Some d → collective_of d ≡ collective_of call → IsNext
    first : (entered x r call w).calls ≡ x.calls ++ call ∷ [] → number x r ≡ length x.calls → IsNext

  which : IsNext
  which = by_place (cases_lt (number x r) (length x.calls)) where
    by_place : (number x r < length x.calls) ⊎ (length x.calls ≤ number x r) → IsNext
    by_place (inl lt) =
        let e : nat_lt (number x r) (length x.calls) ≡ true = grind (arith, nat_tests) in
        let d : Call = get_or x.calls (number x r) call in
        let g : slice_get x.calls (number x r) ≡ Some (get_or x.calls (number x r) call) = slice_get-get_or x.calls (number x r) call lt in
        let k : fits_with (slice_get (collectives x) (number x r)) (collective_of call) ≡ is_same (collective_of (get_or x.calls (number x r) call)) (collective_of call) = ap (λ o. fits_with o (collective_of call)) (get_map collective_of x.calls (number x r) (get_or x.calls (number x r) call) g) in
        old (ap (λ b. if b then x.calls else x.calls ++ call ∷ []) e) (get_or x.calls (number x r) call) g (same_of (collective_of (get_or x.calls (number x r) call)) (collective_of call) (sym k ∙ fit))
    by_place (inr le) =
        let e : nat_lt (number x r) (length x.calls) ≡ false = grind (arith, nat_tests) in
        let u : number x r ≤ length x.calls = joined r in
        first (ap (λ b. if b then x.calls else x.calls ++ call ∷ []) e) (omega (arith, le, u))

  pub call_there : (d : Call) × (slice_get (entered x r call w).calls (number x r) ≡ Some d) × (collective_of d ≡ collective_of call)
  call_there = by_next which where
    by_next : IsNext → (d : Call) × (slice_get (entered x r call w).calls (number x r) ≡ Some d) × (collective_of d ≡ collective_of call)
    by_next (old e d g same) = (d, ap (λ cs. slice_get cs (number x r)) e ∙ g, same)
    by_next (first e n) = (call, ap (λ cs. slice_get cs (number x r)) e ∙ ap (slice_get (x.calls ++ call ∷ [])) n ∙ get_end x.calls call, refl)

  pub calls_kept : (k : ℕ) (d : Call) → slice_get x.calls k ≡ Some d → slice_get (entered x r call w).calls k ≡ Some d
  calls_kept k d e = by_next which where
    by_next : IsNext → slice_get (entered x r call w).calls k ≡ Some d
    by_next (old f y g same) = ap (λ cs. slice_get cs k) f ∙ e
    by_next (first f n) = ap (λ cs. slice_get cs k) f ∙ get_front x.calls call d k e

  more_calls : (length x.calls ≤ length (entered x r call w).calls) × (suc (number x r) ≤ length (entered x r call w).calls)
  more_calls =
      let within : number x r < length (entered x r call w).calls = slice_get_within (entered x r call w).calls (number x r) call_there.0 call_there.1 in
      (by_next which, within) where
        by_next : IsNext → length x.calls ≤ length (entered x r call w).calls
        by_next (old e d g same) = let n : length (entered x r call w).calls ≡ length x.calls = ap length e in omega (arith, n)
        by_next (first e n) = let m : length (entered x r call w).calls ≡ length x.calls + 1 = ap length e ∙ length-append x.calls (call ∷ []) in omega (arith, m)

  pub joined_then : IsJoined (entered x r call w)
  joined_then q = by_case (cases_eq q r) where
    by_case : (q ≡ r) ⊎ (q ≡ r → ⊥) → number (entered x r call w) q ≤ length (entered x r call w).calls
    by_case (inl e) =
        let n : number (entered x r call w) q ≡ suc (number x r) = ap (number (entered x r call w)) e ∙ number_it in
        let m : suc (number x r) ≤ length (entered x r call w).calls = more_calls.1 in
        omega (arith, n, m)
    by_case (inr e) =
        let n : number (entered x r call w) q ≡ number x q = number_other q e in
        let u : number x q ≤ length x.calls = joined q in
        let m : length x.calls ≤ length (entered x r call w).calls = more_calls.0 in
        omega (arith, n, u, m)

  long_enough : (q : ℕ) → length (words_of x q) ≤ length (collectives x)
  long_enough q = let u : number x q ≤ length x.calls = joined q in let m : length (collectives x) ≡ length x.calls = length-map x.calls collective_of in omega (arith, u, m)

  -- with the same front of collectives
  same_front : (ws : List (List ℕ)) → length ws ≤ length (collectives x) → paired (collectives (entered x r call w)) ws ≡ paired (collectives x) ws
  same_front ws l = by_next which where
    by_next : IsNext → paired (collectives (entered x r call w)) ws ≡ paired (collectives x) ws
    by_next (old e d g same) = ap (λ cs. paired (map collective_of cs) ws) e
    by_next (first e n) = ap (λ cs. paired (map collective_of cs) ws) e ∙ ap (λ js. paired js ws) (map-append collective_of x.calls (call ∷ [])) ∙ paired_more (collectives x) ws (collective_of call) l

  pub entries_then : (q : ℕ) → W.updated (entries x) r (entries x r ++ (collective_of call, w) ∷ []) q ≡ entries (entered x r call w) q
  entries_then q = by_case (cases_eq q r) where
    it : entries x r ++ (collective_of call, w) ∷ [] ≡ entries (entered x r call w) r
    it =
        let d = call_there in
        let g : slice_get (collectives (entered x r call w)) (length (words_of x r)) ≡ Some (collective_of call) = get_map collective_of (entered x r call w).calls (number x r) d.0 d.1 ∙ ap Some d.2 in
        ap (λ xs. xs ++ (collective_of call, w) ∷ []) (sym (same_front (words_of x r) (long_enough r))) ∙ sym (paired_next (collectives (entered x r call w)) (words_of x r) (collective_of call) w g)
        ∙ ap (paired (collectives (entered x r call w))) (sym words_it)

    by_case : (q ≡ r) ⊎ (q ≡ r → ⊥) → W.updated (entries x) r (entries x r ++ (collective_of call, w) ∷ []) q ≡ entries (entered x r call w) q
    by_case (inl e) = ap (W.updated (entries x) r (entries x r ++ (collective_of call, w) ∷ [])) e ∙ at_it (entries x) r (entries x r ++ (collective_of call, w) ∷ []) ∙ it ∙ ap (entries (entered x r call w)) (sym e)
    by_case (inr e) = at_other (entries x) r (entries x r ++ (collective_of call, w) ∷ []) q e ∙ sym (same_front (words_of x q) (long_enough q)) ∙ ap (paired (collectives (entered x r call w))) (sym (words_other q e))

  pub agreed : (p : ℕ) (entry : Collective × List ℕ) → slice_get (entries x p) (length (entries x r)) ≡ Some entry → entry.0 ≡ collective_of call
  agreed p entry e =
      let n : length (entries x r) ≡ number x r = paired_long (collectives x) (words_of x r) (long_enough r) in
      let g = paired_get (collectives x) (words_of x p) (number x r) entry (ap (slice_get (entries x p)) (sym n) ∙ e) in
      same_of entry.0 (collective_of call) (sym (ap (λ o. fits_with o (collective_of call)) g.0) ∙ fit)

  pub opened_then : (total : ℕ) → AreOpened x total → IsRooted total (collective_of call) → AreOpened (entered x r call w) total
  opened_then total opened root = record { some = λ k lt. by_some which k lt; rooted = λ k d e. by_root which k d e } where
    more_there : (k p : ℕ) → k < number x p → k < number (entered x r call w) p
    more_there k p lt = by_case (cases_eq p r) where
      by_case : (p ≡ r) ⊎ (p ≡ r → ⊥) → k < number (entered x r call w) p
      by_case (inl e) =
          let n : number (entered x r call w) p ≡ suc (number x r) = ap (number (entered x r call w)) e ∙ number_it in
          let m : number x p ≡ number x r = ap (number x) e in
          omega (arith, n, m, lt)
      by_case (inr e) = let n : number (entered x r call w) p ≡ number x p = number_other p e in omega (arith, n, lt)

    there : (k : ℕ) → k < length x.calls → (p : ℕ) × (k < number (entered x r call w) p)
    there k lt = let o = opened.some k lt in (o.0, more_there k o.0 o.1)

    by_some : IsNext → (k : ℕ) → k < length (entered x r call w).calls → (p : ℕ) × (k < number (entered x r call w) p)
    by_some (old e d g same) k lt = there k (subst (λ (cs : List Call). k < length cs) e lt)
    by_some (first e n) k lt = by_place (cases_lt k (length x.calls)) where
      m : length (entered x r call w).calls ≡ length x.calls + 1
      m = ap length e ∙ length-append x.calls (call ∷ [])

      by_place : (k < length x.calls) ⊎ (length x.calls ≤ k) → (p : ℕ) × (k < number (entered x r call w) p)
      by_place (inl h) = there k h
      by_place (inr h) = let i : number (entered x r call w) r ≡ suc (number x r) = number_it in (r, omega (arith, h, lt, m, n, i))

    by_root : IsNext → (k : ℕ) (d : Call) → slice_get (entered x r call w).calls k ≡ Some d → IsRooted total (collective_of d)
    by_root (old e c g same) k d f = opened.rooted k d (ap (λ cs. slice_get cs k) (sym e) ∙ f)
    by_root (first e n) k d f = by_place (get_pushed x.calls call k d (ap (λ cs. slice_get cs k) (sym e) ∙ f)) where
      by_place : (slice_get x.calls k ≡ Some d) ⊎ ((k ≡ length x.calls) × (call ≡ d)) → IsRooted total (collective_of d)
      by_place (inl g) = opened.rooted k d g
      by_place (inr g) = subst (λ (c : Call). IsRooted total (collective_of c)) g.1 root

  -- the places of the others are as they were
  pub still_joining : (q left : ℕ) (t : M.Todo) → (q ≡ r → ⊥) → IsJoining x q left t → IsJoining (entered x r call w) q left t
  still_joining q left M.finished n j = number_other q n ∙ j
  still_joining q left (M.do_next k code rest) n j = (j.0, number_other q n ∙ j.1)
  still_joining q left (M.round_of high k body rest) n j = (j.0, number_other q n ∙ j.1)
  still_joining q left (M.end_of id k body rest) n j = (j.0, number_other q n ∙ j.1)
  still_joining q left (M.leave joint rest) n j = record { out = j.out; one = number_other q n ∙ j.one; call = j.call; there = calls_kept left j.call j.there; same = j.same }

  pub now_inside : (left : ℕ) (t : M.Todo) → number x r ≡ left → IsExit (collective_of call) t → IsJoining (entered x r call w) r left t
  now_inside left M.finished n exit = absurd exit
  now_inside left (M.do_next k code rest) n exit = absurd exit
  now_inside left (M.round_of high k body rest) n exit = absurd exit
  now_inside left (M.end_of id k body rest) n exit = absurd exit
  now_inside left (M.leave joint rest) n exit =
      let d = call_there in
      record { out = exit.1; one = number_it ∙ ap suc n; call = d.0; there = ap (slice_get (entered x r call w).calls) (sym n) ∙ d.1; same = d.2 ∙ sym exit.0 }

module _ (s : State) (r : ℕ) (ranks : Vec Rank) (stands : Vec Stand) (call : Call) (words : List ℕ) (mode : Mode) (new : Stand) (next : Next) where
  pub enter_event : MayStep s r next → next_step s r ≡ N.Does (Enters (collective_of call)) → agrees s.joins r (collective_of call) ≡ true → length words ≡ weight (program s) s.n (collective_of call) r →
      IsAdvanced s r Plain ranks → stands.items ≡ slice_set s.stands.items r new → new.waits ≡ (stand s r).waits → new.left ≡ (stand s r).left → new.mode ≡ mode →
      IsEvent s r (Enter (collective_of call) words ∷ []) (remade s ranks stands s.channels (entered s.joins r call words))
  enter_event may e fit long a w ws ls ms = record { step = step; sound = sound; tree = refl; n = refl; flight = refl } where
    h : r < length s.joins.words
    h = subst (λ (k : ℕ). r < k) (sym may.sound.joins) may.there

    m : IsMoved s r ((text_machine (program s) s.n).act (state_at s r) (Enter (collective_of call) words)) ranks
    m = act_moved s r Plain ranks (Enter (collective_of call) words) a e refl

    never : (j : Collective) → ◌≡◌ {A = Kind} (Enters (collective_of call)) (Leaves j) → ⊥
    never j z = cc

    stands_at : (q : ℕ) → stand (remade s ranks stands s.channels (entered s.joins r call words)) q ≡ W.updated (stand s) r new q
    stands_at q = stand_moved s r ((text_machine (program s) s.n).act (state_at s r) (Enter (collective_of call) words)) ranks r new stands s.channels (entered s.joins r call words) may.sound may.there w q

    same_part : {A : Type 0} (f : Stand → A) → f new ≡ f (stand s r) → (q : ℕ) → f (stand (remade s ranks stands s.channels (entered s.joins r call words)) q) ≡ f (stand s q)
    same_part f g q = ap f (stands_at q) ∙ by_case (cases_eq q r) where
      by_case : (q ≡ r) ⊎ (q ≡ r → ⊥) → f (W.updated (stand s) r new q) ≡ f (stand s q)
      by_case (inl h) = ap (λ (k : ℕ). f (W.updated (stand s) r new k)) h ∙ ap f (at_it (stand s) r new) ∙ g ∙ ap (λ (k : ℕ). f (stand s k)) (sym h)
      by_case (inr h) = ap f (at_other (stand s) r new q h)

    modes : (q : ℕ) → W.updated (world_of s).mode r mode q ≡ (stand (remade s ranks stands s.channels (entered s.joins r call words)) q).mode
    modes q = by_case (cases_eq q r) where
      by_case : (q ≡ r) ⊎ (q ≡ r → ⊥) → W.updated (world_of s).mode r mode q ≡ (stand (remade s ranks stands s.channels (entered s.joins r call words)) q).mode
      by_case (inl h) =
          ap (W.updated (world_of s).mode r mode) h ∙ at_it (world_of s).mode r mode ∙ sym (ap (λ (v : Stand). v.mode) (stands_at r ∙ at_it (stand s) r new) ∙ ms)
          ∙ ap (λ (k : ℕ). (stand (remade s ranks stands s.channels (entered s.joins r call words)) k).mode) (sym h)
      by_case (inr h) = at_other (world_of s).mode r mode q h ∙ sym (ap (λ (v : Stand). v.mode) (stands_at q ∙ at_other (stand s) r new q h))

    step : (sequence : Sequence) → W.Step (family (program s) s.n sequence) (world_of s) r (Enter (collective_of call) words ∷ []) (world_of (remade s ranks stands s.channels (entered s.joins r call words)))
    step sequence =
        let d : is_allowed (program s) s.n r (Enter (collective_of call) words) ≡ true = eq-eqb (length words) (weight (program s) s.n (collective_of call) r) long in
        subst (λ V. W.Step (family (program s) s.n sequence) (world_of s) r (Enter (collective_of call) words ∷ []) V)
        (same_world (W.inside (family (program s) s.n sequence) (world_of s) r ((text_machine (program s) s.n).act (state_at s r) (Enter (collective_of call) words)) (collective_of call, words) mode) (remade s ranks stands s.channels (entered s.joins r call words))
        (λ q. sym (state_moved s r ((text_machine (program s) s.n).act (state_at s r) (Enter (collective_of call) words)) ranks r new stands s.channels (entered s.joins r call words) may.sound may.there m q))
        (λ p q. ap (λ o. moded (is_to o q) (messages s.channels p q)) (sym (same_part (λ v. v.waits) ws p)))
        (entries_then s.joins r call words may.sound.joined h fit) (λ q. sym (same_part (λ v. v.left) ls q)) modes)
        (W.enter mode (free s sequence r may.there may.free) e (λ p lt entry f. agreed s.joins r call words may.sound.joined h fit p entry f) d)

    sound : IsState (remade s ranks stands s.channels (entered s.joins r call words))
    sound =
        let o = acts_out s r (Enter (collective_of call) words) may.sound may.there e never in
        kept s r ((text_machine (program s) s.n).act (state_at s r) (Enter (collective_of call) words)) ranks r new stands s.channels (entered s.joins r call words) may.sound may.there may.there m w
        (joined_then s.joins r call words may.sound.joined h fit) (length-set s.joins.words r (words_of s.joins r ++ words ∷ []) ∙ may.sound.joins) may.sound.words may.sound.within (opened_then s.joins r call words may.sound.joined h fit (total_of s) may.sound.opened (near (program s) s.n (state_at s r) (Enters (collective_of call)) e))
        (λ q lt. each_but (λ i v (u : Unit {0}). i < total_of s → IsWaiting s i v.waits) (stand s) (λ i. tt) r new tt (λ l. subst (IsWaiting s r) (sym ws) (may.sound.waits r l)) q (λ n l. may.sound.waits q l) lt)
        (λ q lt. each_but (λ i v (y : Counted M.Rank). i < total_of s → IsJoining (entered s.joins r call words) i v.left y.state.todo) (stand s) (state_at s) r new ((text_machine (program s) s.n).act (state_at s r) (Enter (collective_of call) words))
        (λ l. now_inside s.joins r call words may.sound.joined h fit new.left ((text_machine (program s) s.n).act (state_at s r) (Enter (collective_of call) words)).state.todo (o.1 ∙ sym ls) o.0) q
        (λ n l. still_joining s.joins r call words may.sound.joined h fit q (stand s q).left (state_at s q).state.todo n (may.sound.joining q l)) lt)
