-- What a step that only the rank itself notices leaves.
use Rattle.std.proofs.Common.{◌≡◌, ◌<◌, ◌≤◌, List, ℕ, suc, true, false, cond, nat_eq, nat_le, ◌&&◌, ℤ, ◌⊎◌, inl, inr, Option, Some, None, length, refl, ap, sym, ◌∙◌, subst, length-set}
use Rattle.std.specs.Global.{Vec}
use Rattle.std.proofs.lemmas.Bool.{cases_eq, eq-eqb}
use Rattle.std.specs.List.{All, slice_set, slice_get}
use Rattle.std.proofs.lemmas.List.Elements.{All-set}
use Rattle.pb_world.specs.Actions.{Action, Choose, Run, Send, Recv, Enter, Leave, Kind, Chooses, Runs, Collective, Leaves, kind_of}
use Rattle.pb_world.specs.Family.{IsInternal}
use Rattle.pb_world.specs.Machine as N
use Rattle.pb_world.specs.World as W
use Rattle.pb_world.specs.Counted.{Counted, is_quiet, one_more}
use Rattle.pb_local.specs.Machine as M
use Rattle.pb_local.specs.Family.{most_silent, text_machine}
use Rattle.pb_local.specs.Tree.{Program}
use Rattle.pb_machine.specs.declared.rank.Rank.{Rank}
use Rattle.pb_machine.specs.declared.act.Act.{Act}
use Rattle.pb_machine.specs.declared.act.Act.TheVariants as A
use Rattle.pb_machine.specs.declared.act.Next.{Next}
use Rattle.pb_machine.specs.declared.act.Next.TheVariants as X
use Rattle.pb_chan.specs.Lists.{Entry, messages, label_of, position, words_in}
use Rattle.pb_sim_world.specs.declared.stand.Stand.{Stand}
use Rattle.pb_machine.specs.Steps.{is_there}
use Rattle.pb_sim_collectives.specs.Joined.{Joined, number, IsJoined}
use Rattle.pb_sim_world.specs.declared.state.State.{State}
use Rattle.pb_sim_world.specs.States.{program, total_of, stand, state_at, next_step, next_at}
use Rattle.pb_sim_world.specs.Can.{reads, may_leave, can_act, can_next, unless_waiting, can_in, can}
use Rattle.pb_sim_world.specs.Sound.{IsRank, IsOut, IsWaiting, IsJoining, AreOpened, AreWithin, IsState}
use Rattle.pb_sim_world.specs.Events.{remade, IsMoved}
use Rattle.pb_sim_world.proofs.Lists.{not_same}
use Rattle.pb_sim_world.proofs.Parts.{state_then, stand_then}
use Rattle.pb_sim_world.proofs.Leaving.{IsFair, IsFairDoes, IsFairAfter, act_out, fair_move, exit_move, quiet_out, read_out, under_count}

-- rank r is in state z, and what is kept of rank k besides is new
module _ (s : State) (r : ℕ) (z : Counted M.Rank) (ranks : Vec Rank) (k : ℕ) (new : Stand) (stands : Vec Stand) (channels : List Entry) (joins : Joined) where
  pub state_moved : IsState s → r < total_of s → IsMoved s r z ranks → (q : ℕ) → state_at (remade s ranks stands channels joins) q ≡ W.updated (state_at s) r z q
  state_moved sound h m q =
      let l : r < length s.ranks.items = rw sound.ranks h in
      state_then s ranks stands channels joins r m.rank l m.written q ∙ ap (λ y. W.updated (state_at s) r y q) m.state

  pub stand_moved : IsState s → k < total_of s → stands.items ≡ slice_set s.stands.items k new → (q : ℕ) → stand (remade s ranks stands channels joins) q ≡ W.updated (stand s) k new q
  stand_moved sound h w q =
      let l : k < length s.stands.items = rw sound.stands h in
      stand_then s ranks stands channels joins k new l w q

  pub kept : IsState s → r < total_of s → k < total_of s → IsMoved s r z ranks → stands.items ≡ slice_set s.stands.items k new → IsJoined joins → length joins.words ≡ total_of s → words_in channels ≤ 16777216 → AreWithin channels (total_of s) → AreOpened joins (total_of s) →
      ((q : ℕ) → q < total_of s → IsWaiting (remade s ranks stands channels joins) q (W.updated (stand s) k new q).waits) →
      ((q : ℕ) → q < total_of s → IsJoining joins q (W.updated (stand s) k new q).left (W.updated (state_at s) r z q).state.todo) →
      IsState (remade s ranks stands channels joins)
  kept sound h g m w joined long few within opened waits joining = record {
    tree = sound.tree;
    some = sound.some;
    range = sound.range;
    few = sound.few;
    ranks = ap length m.written ∙ length-set s.ranks.items r m.rank ∙ sound.ranks;
    stands = ap length w ∙ length-set s.stands.items k new ∙ sound.stands;
    joins = long;
    joined = joined;
    each = subst (All (IsRank s.tree s.n)) (sym m.written) (All-set (IsRank s.tree s.n) s.ranks.items r m.rank m.is_rank sound.each);
    words = few;
    within = within;
    opened = opened;
    waits = λ q lt. subst (λ (y : Stand). IsWaiting (remade s ranks stands channels joins) q y.waits) (sym (stand_moved sound g w q)) (waits q lt);
    joining = λ q lt. subst (λ (v : Stand). IsJoining joins q v.left (state_at (remade s ranks stands channels joins) q).state.todo) (sym (stand_moved sound g w q))
        (subst (λ (y : Counted M.Rank). IsJoining joins q (W.updated (stand s) k new q).left y.state.todo) (sym (state_moved sound h m q)) (joining q lt));
  }

-- what holds of each rank but one, and of that one
pub each_but : {A B : Type 0} (P : ℕ → A → B → Type 0) (f : ℕ → A) (g : ℕ → B) (r : ℕ) (x : A) (y : B) → P r x y → (q : ℕ) → ((q ≡ r → ⊥) → P q (f q) (g q)) → P q (W.updated f r x q) (W.updated g r y q)
each_but {A} {B} P f g r x y h q others = by_case (cases_eq q r) where
  by_case : (q ≡ r) ⊎ (q ≡ r → ⊥) → P q (W.updated f r x q) (W.updated g r y q)
  by_case (inl e) = let b : nat_eq q r ≡ true = eq-eqb q r e in rw b (subst (λ (i : ℕ). P i x y) (sym e) h)
  by_case (inr e) = let b : nat_eq q r ≡ false = not_same q r e in rw b (others e)

pub at_other : {A : Type 0} (f : ℕ → A) (r : ℕ) (x : A) (q : ℕ) → (q ≡ r → ⊥) → W.updated f r x q ≡ f q
at_other f r x q e = let b : nat_eq q r ≡ false = not_same q r e in rw b refl

pub at_it : {A : Type 0} (f : ℕ → A) (r : ℕ) (x : A) → W.updated f r x r ≡ x
at_it f r x = let b : nat_eq r r ≡ true = eq-eqb r r refl in rw b refl

-- nothing that a rank looks at has changed
act_same : (s : State) (ranks : Vec Rank) (stands : Vec Stand) (channels : List Entry) (q : ℕ) (act : Act) → stand (remade s ranks stands channels s.joins) q ≡ stand s q → ((p : ℕ) → messages channels p q ≡ messages s.channels p q) → can_act (remade s ranks stands channels s.joins) q act ≡ can_act s q act
act_same s ranks stands channels q (A.Choose kernel branches) e m = refl
act_same s ranks stands channels q (A.Run kernel) e m = refl
act_same s ranks stands channels q (A.Send to label) e m = refl
act_same s ranks stands channels q (A.Recv from label) e m = ap (λ ms. is_there (position label 0 ms)) (m from)
act_same s ranks stands channels q (A.Enter what root op) e m = refl
act_same s ranks stands channels q A.Leave e m = ap (λ (v : Stand). may_leave s.joins q v.left v.mode (slice_get s.joins.calls v.left)) e

next_same : (s : State) (ranks : Vec Rank) (stands : Vec Stand) (channels : List Entry) (q : ℕ) (x : Counted M.Rank) (next : Next) → stand (remade s ranks stands channels s.joins) q ≡ stand s q → ((p : ℕ) → messages channels p q ≡ messages s.channels p q) → can_next (remade s ranks stands channels s.joins) q x next ≡ can_next s q x next
next_same s ranks stands channels q x X.Silent e m = refl
next_same s ranks stands channels q x (X.Acts act) e m = act_same s ranks stands channels q act e m
next_same s ranks stands channels q x (X.Waits from) e m = ap (λ ms. reads s x (label_of ms)) (m from)
next_same s ranks stands channels q x X.Ended e m = refl
next_same s ranks stands channels q x X.Lost e m = refl
next_same s ranks stands channels q x X.Undefined e m = refl

pub can_same : (s : State) (ranks : Vec Rank) (stands : Vec Stand) (channels : List Entry) (q : ℕ) → state_at (remade s ranks stands channels s.joins) q ≡ state_at s q → stand (remade s ranks stands channels s.joins) q ≡ stand s q → ((p : ℕ) → messages channels p q ≡ messages s.channels p q) → can (remade s ranks stands channels s.joins) q ≡ can s q
can_same s ranks stands channels q a e m =
    let t : State = remade s ranks stands channels s.joins in
    ap (can_in (remade s ranks stands channels s.joins) q) a
    ∙ ap (λ (v : Stand). unless_waiting v.waits (can_next (remade s ranks stands channels s.joins) q (state_at s q) (next_at s q))) e
    ∙ ap (unless_waiting (stand s q).waits) (next_same s ranks stands channels q (state_at s q) (next_at s q) e m)

-- ---- the place among collectives

module _ (joins : Joined) (r left : ℕ) where
  pub joining_out : (t : M.Todo) → IsOut t → number joins r ≡ left → IsJoining joins r left t
  joining_out M.finished out e = e
  joining_out (M.do_next k first rest) out e = (out, e)
  joining_out (M.round_of high k body rest) out e = (out, e)
  joining_out (M.end_of id k body rest) out e = (out, e)
  joining_out (M.leave joint rest) out e = absurd out

  -- where no exit is next
  pub not_inside : (p : Program) (n : ℤ) (x : Counted M.Rank) → IsJoining joins r left x.state.todo → ((j : Collective) → (text_machine p n).next x ≡ N.Does (Leaves j) → ⊥) → IsOut x.state.todo × (number joins r ≡ left)
  not_inside p n x h never = by_todo x.state.todo refl h where
    by_todo : (t : M.Todo) → x.state.todo ≡ t → IsJoining joins r left t → IsOut t × (number joins r ≡ left)
    by_todo M.finished e h = (tt, h)
    by_todo (M.do_next k first rest) e h = h
    by_todo (M.round_of high k body rest) e h = h
    by_todo (M.end_of id k body rest) e h = h
    by_todo (M.leave joint rest) e h = absurd (never joint (ap (λ m. cond (is_quiet (M.next_in m) && nat_le (most_silent p) x.count) N.Lost (M.next_in m)) (exit_move p n x.state joint rest e)))

-- a silent step and a read label leave a rank out of collectives
pub quiet_joining : (s : State) (r : ℕ) → IsState s → r < total_of s → next_step s r ≡ N.Silent → IsJoining s.joins r (stand s r).left ((text_machine (program s) s.n).quiet (state_at s r)).state.todo
quiet_joining s r sound h e =
    let never : (j : Collective) → next_step s r ≡ N.Does (Leaves j) → ⊥ = λ j f. clash j (sym e ∙ f) in
    let o = not_inside s.joins r (stand s r).left (program s) s.n (state_at s r) (sound.joining r h) never in
    let m = M.move (program s) s.n (state_at s r).state in
    let f : IsFair (M.move (program s) s.n (state_at s r).state) = fair_move (program s) s.n (state_at s r).state o.0 in
    let q : M.next_in m ≡ N.Silent = under_count (is_quiet (M.next_in m) && nat_le (most_silent (program s)) (state_at s r).count) (M.next_in m) N.Silent e lost in
    joining_out s.joins r (stand s r).left (M.quiet_in (state_at s r).state m).todo (quiet_out (state_at s r).state m f q) o.1 where
      clash : (j : Collective) → ◌≡◌ {A = N.Next} N.Silent (N.Does (Leaves j)) → ⊥
      clash j z = cc

      lost : ◌≡◌ {A = N.Next} N.Lost N.Silent → ⊥
      lost z = cc

pub read_joining : (s : State) (r source label : ℕ) (z : Counted M.Rank) → IsState s → r < total_of s → next_step s r ≡ N.Probe source → (text_machine (program s) s.n).read (state_at s r) label ≡ Some z → IsJoining s.joins r (stand s r).left z.state.todo
read_joining s r source label z sound h e read =
    let never : (j : Collective) → next_step s r ≡ N.Does (Leaves j) → ⊥ = λ j f. clash j (sym e ∙ f) in
    let o = not_inside s.joins r (stand s r).left (program s) s.n (state_at s r) (sound.joining r h) never in
    let m = M.move (program s) s.n (state_at s r).state in
    let f : IsFair (M.move (program s) s.n (state_at s r).state) = fair_move (program s) s.n (state_at s r).state o.0 in
    let q : M.next_in m ≡ N.Probe source = under_count (is_quiet (M.next_in m) && nat_le (most_silent (program s)) (state_at s r).count) (M.next_in m) (N.Probe source) e lost in
    joining_out s.joins r (stand s r).left z.state.todo (told (M.read_in m label) (state_at s r).count z read (read_out m source label f q)) o.1 where
      clash : (j : Collective) → ◌≡◌ {A = N.Next} (N.Probe source) (N.Does (Leaves j)) → ⊥
      clash j z = cc

      lost : ◌≡◌ {A = N.Next} N.Lost (N.Probe source) → ⊥
      lost z = cc

      told : (o : Option M.Rank) (count : ℕ) (z : Counted M.Rank) → one_more count o ≡ Some z → IsFairAfter o → IsOut z.state.todo
      told None count z e f = absurd (none z e) where
        none : (z : Counted M.Rank) → ◌≡◌ {A = Option (Counted M.Rank)} None (Some z) → ⊥
        none z h = cc
      told (Some y) count z e f = subst (λ (w : Counted M.Rank). IsOut w.state.todo) (same (record { state = y; count = suc count }) z e) f where
        same : (v z : Counted M.Rank) → Some v ≡ Some z → v ≡ z
        same v z h = cc

-- where an action comes next that is no exit, no exit is still to do
pub acts_out : (s : State) (r : ℕ) (act : Action) → IsState s → r < total_of s → next_step s r ≡ N.Does (kind_of act) → ((j : Collective) → kind_of act ≡ Leaves j → ⊥) → IsFairDoes (kind_of act) ((text_machine (program s) s.n).act (state_at s r) act).state.todo × (number s.joins r ≡ (stand s r).left)
acts_out s r act sound h e other =
    let never : (j : Collective) → next_step s r ≡ N.Does (Leaves j) → ⊥ = λ j f. other j (same j (sym e ∙ f)) in
    let o = not_inside s.joins r (stand s r).left (program s) s.n (state_at s r) (sound.joining r h) never in
    let m = M.move (program s) s.n (state_at s r).state in
    let f : IsFair (M.move (program s) s.n (state_at s r).state) = fair_move (program s) s.n (state_at s r).state o.0 in
    let q : M.next_in m ≡ N.Does (kind_of act) = under_count (is_quiet (M.next_in m) && nat_le (most_silent (program s)) (state_at s r).count) (M.next_in m) (N.Does (kind_of act)) e lost in
    (act_out (state_at s r).state m act f q, o.1) where
      same : (j : Collective) → ◌≡◌ {A = N.Next} (N.Does (kind_of act)) (N.Does (Leaves j)) → kind_of act ≡ Leaves j
      same j z = cc

      lost : ◌≡◌ {A = N.Next} N.Lost (N.Does (kind_of act)) → ⊥
      lost z = cc

pub own_joining : (s : State) (r : ℕ) (act : Action) → IsState s → r < total_of s → next_step s r ≡ N.Does (kind_of act) → IsInternal act → IsJoining s.joins r (stand s r).left ((text_machine (program s) s.n).act (state_at s r) act).state.todo
own_joining s r (Choose kernel branches branch) sound h e internal =
    let o = acts_out s r (Choose kernel branches branch) sound h e clash in joining_out s.joins r (stand s r).left _ o.0 o.1 where
      clash : (j : Collective) → ◌≡◌ {A = Kind} (Chooses kernel branches) (Leaves j) → ⊥
      clash j z = cc
own_joining s r (Run kernel) sound h e internal =
    let o = acts_out s r (Run kernel) sound h e clash in joining_out s.joins r (stand s r).left _ o.0 o.1 where
      clash : (j : Collective) → ◌≡◌ {A = Kind} (Runs kernel) (Leaves j) → ⊥
      clash j z = cc
own_joining s r (Send to label words) sound h e internal = elim internal [ ]
own_joining s r (Recv from label words) sound h e internal = elim internal [ ]
own_joining s r (Enter joint words) sound h e internal = elim internal [ ]
own_joining s r (Leave joint words) sound h e internal = elim internal [ ]
