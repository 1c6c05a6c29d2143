-- A collective is left.
use Rattle.std.proofs.Common.{◌≡◌, ◌<◌, ◌≤◌, ℕ, suc, Bool, true, false, ◌&&◌, ◌||◌, not, cond, nat_eq, nat_le, ◌⊎◌, inl, inr, Option, Some, List, [], ◌∷◌, length, refl, ap, sym, ◌∙◌, subst, arith}
use Rattle.std.specs.Global.{Vec}
use Rattle.std.specs.List.{slice_set, slice_get}
use Rattle.std.proofs.lemmas.Bool.{cases_eq}
use Rattle.std.proofs.lemmas.Bool.Decides.{nat_tests}
use Rattle.std.proofs.lemmas.List.{length-map}
use Rattle.std.proofs.lemmas.Option.{slice_get-get_or}
use Rattle.pb_text.specs.declared.mode.Mode.{Mode}
use Rattle.pb_text.specs.declared.mode.Mode.TheVariants.{Eager, Waiting}
use Rattle.pb_world.specs.Actions.{Leave, Kind, Chooses, Runs, Sends, Receives, Enters, Leaves, Collective, Barrier, Broadcast, Reduce, Allreduce}
use Rattle.pb_world.specs.Machine as N
use Rattle.pb_world.specs.World as W
use Rattle.pb_world.specs.Counted.{Counted, is_quiet}
use Rattle.pb_local.specs.Machine as M
use Rattle.pb_local.specs.Tables.{label_at}
use Rattle.pb_local.specs.Collectives.{needs, outcome}
use Rattle.pb_local.specs.Family.{most_silent, text_machine, Sequence, family}
use Rattle.pb_chan.specs.Lists.{messages}
use Rattle.pb_sim_collectives.specs.declared.call.Call.{Call}
use Rattle.pb_sim_collectives.specs.declared.call.Call.TheVariants as C
use Rattle.pb_sim_collectives.specs.Calls.{collective_of, label_in}
use Rattle.pb_sim_collectives.specs.Joined.{Joined, words_of, number, collectives, entries, has_entered, came, all_entered}
use Rattle.pb_sim_collectives.specs.Outcomes.{words_at, outcome_of}
use Rattle.pb_sim_collectives.proofs.Entering.{each_came}
use Rattle.pb_machine.specs.declared.act.Act.{Act}
use Rattle.pb_machine.specs.declared.act.Act.TheVariants as A
use Rattle.pb_machine.specs.declared.act.Next.TheVariants as X
use Rattle.pb_machine.specs.declared.act.Input.TheVariants.{Plain}
use Rattle.pb_machine.specs.declared.rank.Rank.{Rank}
use Rattle.pb_machine.specs.Acts.{act_of}
use Rattle.pb_machine.specs.Steps.{next_of}
use Rattle.pb_sim_world.specs.declared.stand.Stand.{Stand}
use Rattle.pb_sim_world.specs.declared.state.State.{State}
use Rattle.pb_sim_world.specs.States.{program, total_of, stand, state_at, next_step}
use Rattle.pb_sim_world.specs.Worlds.{moded, is_to, world_of}
use Rattle.pb_sim_world.specs.Can.{leaves_in}
use Rattle.pb_sim_world.specs.Sound.{IsOut, IsWaiting, IsIn, IsJoining, IsState}
use Rattle.pb_sim_world.specs.Events.{remade, IsAdvanced, IsMoved, IsEvent, MayStep, IsOther}
use Rattle.pb_sim_world.proofs.Parts.{same_world}
use Rattle.pb_sim_world.proofs.Free.{free}
use Rattle.pb_sim_world.proofs.Advancing.{act_moved}
use Rattle.pb_sim_world.proofs.Alone.{acts_next}
use Rattle.pb_sim_world.proofs.Leaving.{fair_move, exit_move, never_exit, under_count}
use Rattle.pb_sim_world.proofs.Entries.{paired_there, paired_long}
use Rattle.pb_sim_world.proofs.Joining.{get_map}
use Rattle.pb_sim_world.proofs.Kept.{state_moved, stand_moved, kept, each_but, at_other, at_it, can_same, joining_out}

leave_kind : (kind : Kind) → act_of kind ≡ A.Leave → (j : Collective) × (kind ≡ Leaves j)
leave_kind (Leaves j) e = (j, refl)
leave_kind (Chooses kernel branches) e = absurd (clash e) where
  clash : ◌≡◌ {A = Act} (A.Choose kernel branches) A.Leave → ⊥
  clash z = cc
leave_kind (Runs kernel) e = absurd (clash e) where
  clash : ◌≡◌ {A = Act} (A.Run kernel) A.Leave → ⊥
  clash z = cc
leave_kind (Sends k l) e = absurd (clash e) where
  clash : ◌≡◌ {A = Act} (A.Send k l) A.Leave → ⊥
  clash z = cc
leave_kind (Receives k l) e = absurd (clash e) where
  clash : ◌≡◌ {A = Act} (A.Recv k l) A.Leave → ⊥
  clash z = cc
leave_kind (Enters j) e = absurd (by j e) where
  by : (j : Collective) → act_of (Enters j) ≡ A.Leave → ⊥
  by Barrier z = cc
  by (Broadcast label root) z = cc
  by (Reduce label operation root) z = cc
  by (Allreduce label operation) z = cc

pub leave_next : (x : N.Next) → next_of x ≡ X.Acts A.Leave → (j : Collective) × (x ≡ N.Does (Leaves j))
leave_next x e = let p = acts_next x A.Leave e in let q = leave_kind p.0 p.2 in (q.0, p.1 ∙ ap N.Does q.1)

same_exit : (i j : Collective) → ◌≡◌ {A = N.Next} (N.Does (Leaves i)) (N.Does (Leaves j)) → i ≡ j
same_exit i j e = cc

-- where an exit is next, the rank is in that collective
pub inside : (s : State) (r : ℕ) (j : Collective) → IsState s → r < total_of s → next_step s r ≡ N.Does (Leaves j) → (rest : M.Todo) × ((state_at s r).state.todo ≡ M.leave j rest) × IsIn s.joins r (stand s r).left j rest
inside s r j sound h e = by_todo (state_at s r).state.todo refl (sound.joining r h) where
  out : IsOut (state_at s r).state.todo → ⊥
  out o =
      let m = M.move (program s) s.n (state_at s r).state in
      never_exit m j (fair_move (program s) s.n (state_at s r).state o) (under_count (is_quiet (M.next_in m) && nat_le (most_silent (program s)) (state_at s r).count) (M.next_in m) (N.Does (Leaves j)) e lost) where
        lost : ◌≡◌ {A = N.Next} N.Lost (N.Does (Leaves j)) → ⊥
        lost z = cc

  by_todo : (t : M.Todo) → (state_at s r).state.todo ≡ t → IsJoining s.joins r (stand s r).left t → (rest : M.Todo) × ((state_at s r).state.todo ≡ M.leave j rest) × IsIn s.joins r (stand s r).left j rest
  by_todo M.finished f k = absurd (out (subst IsOut (sym f) tt))
  by_todo (M.do_next number code rest) f k = absurd (out (subst IsOut (sym f) k.0))
  by_todo (M.round_of high number body rest) f k = absurd (out (subst IsOut (sym f) k.0))
  by_todo (M.end_of id number body rest) f k = absurd (out (subst IsOut (sym f) k.0))
  by_todo (M.leave joint rest) f k =
      let d : next_step s r ≡ N.Does (Leaves joint) = ap (λ m. cond (is_quiet (M.next_in m) && nat_le (most_silent (program s)) (state_at s r).count) N.Lost (M.next_in m)) (exit_move (program s) s.n (state_at s r).state joint rest f) in
      let g : joint ≡ j = same_exit joint j (sym d ∙ e) in
      (rest, f ∙ ap (λ i. M.leave i rest) g, subst (λ i. IsIn s.joins r (stand s r).left i rest) g k)

-- the state behind an exit
pub exit_act : (s : State) (r : ℕ) (j : Collective) (rest : M.Todo) (words : List ℕ) → (state_at s r).state.todo ≡ M.leave j rest → ((text_machine (program s) s.n).act (state_at s r) (Leave j words)).state.todo ≡ rest
exit_act s r j rest words e = ap (λ m. (M.act_in (state_at s r).state m (Leave j words)).todo) (exit_move (program s) s.n (state_at s r).state j rest e)

-- ---- who has entered

pub all_there : (x : Joined) (k : ℕ) → all_entered x k ≡ true → (q : ℕ) → q < length x.words → k < number x q
all_there x k e q h = let f : came x k ≡ length x.words = equal_of e in each_came k x.words f q h where
  equal_of : nat_eq (came x k) (length x.words) ≡ true → came x k ≡ length x.words
  equal_of e = grind (arith, nat_tests)

less_of : (x : Joined) (q k : ℕ) → has_entered x q k ≡ true → k < number x q
less_of x q k e = grind (arith, nat_tests)

true_or : (a b : Bool) → (a || b) ≡ true → a ≡ false → b ≡ true
true_or true b e f = cc
true_or false b e f = e

-- whom a rank needs has entered
pub needed_there : (x : Joined) (r k : ℕ) (call : Call) (mode : Mode) → leaves_in x r k call mode ≡ true → (q : ℕ) → q < length x.words → needs (collective_of call) r q ≡ true → k < number x q
needed_there x r k call Waiting e q h n = all_there x k e q h
needed_there x r k C.Barrier Eager e q h n = all_there x k e q h
needed_there x r k (C.Broadcast label root) Eager e q h n = let f : q ≡ root = equal_of n in subst (λ (i : ℕ). k < number x i) (sym f) (less_of x root k e) where
  equal_of : nat_eq q root ≡ true → q ≡ root
  equal_of e = grind (arith, nat_tests)
needed_there x r k (C.Reduce label op root) Eager e q h n = all_there x k (true_or (not (nat_eq r root)) (all_entered x k) e (ap not n)) q h
needed_there x r k (C.Allreduce label op) Eager e q h n = all_there x k e q h

-- an entry with its words
pub entry_there : (x : Joined) (q k : ℕ) (call : Call) → slice_get x.calls k ≡ Some call → k < number x q → slice_get (entries x q) k ≡ Some (collective_of call, words_at x k q)
entry_there x q k call e h = paired_there (collectives x) (words_of x q) k (collective_of call) (words_at x k q) (get_map collective_of x.calls k call e) (slice_get-get_or (words_of x q) k [] h)

same_outcome : (s : State) (call : Call) (r : ℕ) (words : ℕ → List ℕ) → outcome_of (label_at (program s) (label_in (collective_of call))).payload (total_of s) call r words ≡ outcome (program s) s.n (collective_of call) r words
same_outcome s C.Barrier r words = refl
same_outcome s (C.Broadcast label root) r words = refl
same_outcome s (C.Reduce label op root) r words = refl
same_outcome s (C.Allreduce label op) r words = refl

-- the step that leaves, by the call that all have entered there
pub exit_step : (s : State) (r : ℕ) → IsState s → r < total_of s → (call : Call) (sequence : Sequence) → W.IsFree (family (program s) s.n sequence) (world_of s) r → next_step s r ≡ N.Does (Leaves (collective_of call)) → slice_get s.joins.calls (stand s r).left ≡ Some call → leaves_in s.joins r (stand s r).left call (stand s r).mode ≡ true →
    W.Step (family (program s) s.n sequence) (world_of s) r (Leave (collective_of call) (outcome (program s) s.n (collective_of call) r (words_at s.joins (stand s r).left)) ∷ [])
    (W.outside (family (program s) s.n sequence) (world_of s) r ((text_machine (program s) s.n).act (state_at s r) (Leave (collective_of call) (outcome (program s) s.n (collective_of call) r (words_at s.joins (stand s r).left)))))
exit_step s r sound h call sequence is_free next there let_out =
    W.leave (words_at s.joins (stand s r).left) is_free next
    (λ q lt n. entry_there s.joins q (stand s r).left call there (needed_there s.joins r (stand s r).left call (stand s r).mode let_out q (long q lt) n))
    (λ waiting q lt. all_in waiting q lt) where
      long : (q : ℕ) → q < total_of s → q < length s.joins.words
      long q h = subst (λ (k : ℕ). q < k) (sym sound.joins) h

      all_in : (stand s r).mode ≡ Waiting → (q : ℕ) → q < total_of s → (stand s r).left < length (entries s.joins q)
      all_in waiting q lt =
          let e : all_entered s.joins (stand s r).left ≡ true = sym (ap (leaves_in s.joins r (stand s r).left call) waiting) ∙ let_out in
          let n : (stand s r).left < number s.joins q = all_there s.joins (stand s r).left e q (subst (λ (k : ℕ). q < k) (sym sound.joins) lt) in
          let u : number s.joins q ≤ length s.joins.calls = sound.joined q in
          let c : length (collectives s.joins) ≡ length s.joins.calls = length-map s.joins.calls collective_of in
          let k : length (entries s.joins q) ≡ number s.joins q = paired_long (collectives s.joins) (words_of s.joins q) (omega (arith, u, c)) in
          omega (arith, n, k)

module _ (s : State) (r : ℕ) (ranks : Vec Rank) (stands : Vec Stand) (call : Call) (words : List ℕ) (new : Stand) where
  pub leave_event : MayStep s r (X.Acts A.Leave) → slice_get s.joins.calls (stand s r).left ≡ Some call → leaves_in s.joins r (stand s r).left call (stand s r).mode ≡ true →
      words ≡ outcome_of (label_at (program s) (label_in (collective_of call))).payload (length s.joins.words) call r (words_at s.joins (stand s r).left) →
      IsAdvanced s r Plain ranks → stands.items ≡ slice_set s.stands.items r new → new.waits ≡ (stand s r).waits → new.left ≡ suc (stand s r).left → new.mode ≡ (stand s r).mode →
      IsEvent s r (Leave (collective_of call) words ∷ []) (remade s ranks stands s.channels s.joins) × IsOther s r (remade s ranks stands s.channels s.joins)
  leave_event may there let_out is a w ws ls ms = (record { step = step; sound = sound; tree = refl; n = refl; flight = refl }, others) where
    same_call : (c d : Call) → ◌≡◌ {A = Option Call} (Some c) (Some d) → c ≡ d
    same_call c d z = cc

    next : next_step s r ≡ N.Does (Leaves (collective_of call))
    next =
        let p = leave_next (next_step s r) may.next_is in
        let q = inside s r p.0 may.sound may.there p.1 in
        p.1 ∙ ap (λ j. N.Does (Leaves j)) (sym q.2.same ∙ ap collective_of (same_call q.2.call call (sym q.2.there ∙ there)))

    place : (rest : M.Todo) × ((state_at s r).state.todo ≡ M.leave (collective_of call) rest) × IsIn s.joins r (stand s r).left (collective_of call) rest
    place = inside s r (collective_of call) may.sound may.there next

    m : IsMoved s r ((text_machine (program s) s.n).act (state_at s r) (Leave (collective_of call) words)) ranks
    m = act_moved s r Plain ranks (Leave (collective_of call) words) a next refl

    stands_at : (q : ℕ) → stand (remade s ranks stands s.channels s.joins) q ≡ W.updated (stand s) r new q
    stands_at q = stand_moved s r ((text_machine (program s) s.n).act (state_at s r) (Leave (collective_of call) words)) ranks r new stands s.channels s.joins may.sound may.there w q

    same_part : {A : Type 0} (f : Stand → A) → f new ≡ f (stand s r) → (q : ℕ) → f (stand (remade s ranks stands s.channels s.joins) q) ≡ f (stand s q)
    same_part f g q = ap f (stands_at q) ∙ by_case (cases_eq q r) where
      by_case : (q ≡ r) ⊎ (q ≡ r → ⊥) → f (W.updated (stand s) r new q) ≡ f (stand s q)
      by_case (inl h) = ap (λ (k : ℕ). f (W.updated (stand s) r new k)) h ∙ ap f (at_it (stand s) r new) ∙ g ∙ ap (λ (k : ℕ). f (stand s k)) (sym h)
      by_case (inr h) = ap f (at_other (stand s) r new q h)

    lefts : (q : ℕ) → W.updated (world_of s).left r (suc ((world_of s).left r)) q ≡ (stand (remade s ranks stands s.channels s.joins) q).left
    lefts q = by_case (cases_eq q r) where
      by_case : (q ≡ r) ⊎ (q ≡ r → ⊥) → W.updated (world_of s).left r (suc ((world_of s).left r)) q ≡ (stand (remade s ranks stands s.channels s.joins) q).left
      by_case (inl h) =
          ap (W.updated (world_of s).left r (suc ((world_of s).left r))) h ∙ at_it (world_of s).left r (suc ((world_of s).left r)) ∙ sym (ap (λ (v : Stand). v.left) (stands_at r ∙ at_it (stand s) r new) ∙ ls)
          ∙ ap (λ (k : ℕ). (stand (remade s ranks stands s.channels s.joins) k).left) (sym h)
      by_case (inr h) = at_other (world_of s).left r (suc ((world_of s).left r)) q h ∙ sym (ap (λ (v : Stand). v.left) (stands_at q ∙ at_other (stand s) r new q h))

    long : (q : ℕ) → q < total_of s → q < length s.joins.words
    long q h = subst (λ (k : ℕ). q < k) (sym may.sound.joins) h

    words_are : outcome (program s) s.n (collective_of call) r (words_at s.joins (stand s r).left) ≡ words
    words_are = sym (same_outcome s call r (words_at s.joins (stand s r).left)) ∙ ap (λ k. outcome_of (label_at (program s) (label_in (collective_of call))).payload k call r (words_at s.joins (stand s r).left)) (sym may.sound.joins) ∙ sym is

    step : (sequence : Sequence) → W.Step (family (program s) s.n sequence) (world_of s) r (Leave (collective_of call) words ∷ []) (world_of (remade s ranks stands s.channels s.joins))
    step sequence =
        subst (λ V. W.Step (family (program s) s.n sequence) (world_of s) r (Leave (collective_of call) words ∷ []) V)
        (same_world (W.outside (family (program s) s.n sequence) (world_of s) r ((text_machine (program s) s.n).act (state_at s r) (Leave (collective_of call) words))) (remade s ranks stands s.channels s.joins)
        (λ q. sym (state_moved s r ((text_machine (program s) s.n).act (state_at s r) (Leave (collective_of call) words)) ranks r new stands s.channels s.joins may.sound may.there m q))
        (λ p q. ap (λ o. moded (is_to o q) (messages s.channels p q)) (sym (same_part (λ v. v.waits) ws p)))
        (λ q. refl) lefts (λ q. sym (same_part (λ v. v.mode) ms q)))
        (subst (λ (ws : List ℕ). W.Step (family (program s) s.n sequence) (world_of s) r (Leave (collective_of call) ws ∷ []) (W.outside (family (program s) s.n sequence) (world_of s) r ((text_machine (program s) s.n).act (state_at s r) (Leave (collective_of call) ws)))) words_are
        (W.leave (words_at s.joins (stand s r).left) (free s sequence r may.there may.free) next
        (λ q lt n. entry_there s.joins q (stand s r).left call there (needed_there s.joins r (stand s r).left call (stand s r).mode let_out q (long q lt) n))
        (λ waiting q lt. all_in waiting q lt))) where
          all_in : (stand s r).mode ≡ Waiting → (q : ℕ) → q < total_of s → (stand s r).left < length (entries s.joins q)
          all_in waiting q lt =
              let e : all_entered s.joins (stand s r).left ≡ true = sym (ap (leaves_in s.joins r (stand s r).left call) waiting) ∙ let_out in
              let n : (stand s r).left < number s.joins q = all_there s.joins (stand s r).left e q (long q lt) in
              let u : number s.joins q ≤ length s.joins.calls = may.sound.joined q in
              let c : length (collectives s.joins) ≡ length s.joins.calls = length-map s.joins.calls collective_of in
              let k : length (entries s.joins q) ≡ number s.joins q = paired_long (collectives s.joins) (words_of s.joins q) (omega (arith, u, c)) in
              omega (arith, n, k)

    sound : IsState (remade s ranks stands s.channels s.joins)
    sound =
        kept s r ((text_machine (program s) s.n).act (state_at s r) (Leave (collective_of call) words)) ranks r new stands s.channels s.joins may.sound may.there may.there m w may.sound.joined may.sound.joins may.sound.words may.sound.within may.sound.opened
        (λ q lt. each_but (λ i v (u : Unit {0}). i < total_of s → IsWaiting s i v.waits) (stand s) (λ i. tt) r new tt (λ l. subst (IsWaiting s r) (sym ws) (may.sound.waits r l)) q (λ n l. may.sound.waits q l) lt)
        (λ q lt. each_but (λ i v (y : Counted M.Rank). i < total_of s → IsJoining s.joins i v.left y.state.todo) (stand s) (state_at s) r new ((text_machine (program s) s.n).act (state_at s r) (Leave (collective_of call) words))
        (λ l. subst (λ (t : M.Todo). IsJoining s.joins r new.left t) (sym (exit_act s r (collective_of call) place.0 words place.1)) (joining_out s.joins r new.left place.0 place.2.out (place.2.one ∙ sym ls))) q
        (λ n l. may.sound.joining q l) lt)

    others : IsOther s r (remade s ranks stands s.channels s.joins)
    others q n =
        can_same s ranks stands s.channels q
        (state_moved s r ((text_machine (program s) s.n).act (state_at s r) (Leave (collective_of call) words)) ranks r new stands s.channels s.joins may.sound may.there m q ∙ at_other (state_at s) r ((text_machine (program s) s.n).act (state_at s r) (Leave (collective_of call) words)) q n)
        (stands_at q ∙ at_other (stand s) r new q n)
        (λ p. refl)
