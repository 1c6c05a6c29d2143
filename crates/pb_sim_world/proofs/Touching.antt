-- Whom an entry into a collective touches.
use Rattle.std.proofs.Common.{◌≡◌, ◌<◌, ◌≤◌, ℕ, suc, ◌+◌, Bool, true, false, ◌||◌, not, nat_eq, nat_lt, if◌then◌else◌, ◌⊎◌, inl, inr, Option, Some, None, List, [], ◌∷◌, ◌++◌, length, map, add-zero, refl, ap, sym, ◌∙◌, subst, arith}
use Rattle.std.specs.Global.{Vec}
use Rattle.std.specs.List.{slice_set, slice_get}
use Rattle.std.proofs.lemmas.Bool.{cases_eq, eq-eqb}
use Rattle.std.proofs.lemmas.Bool.Decides.{nat_tests}
use Rattle.std.proofs.lemmas.List.{length-set}
use Rattle.std.proofs.lemmas.Option.{slice_get_within}
use Rattle.pb_text.specs.declared.mode.Mode.{Mode}
use Rattle.pb_text.specs.declared.mode.Mode.TheVariants.{Eager, Waiting}
use Rattle.pb_world.specs.Actions.{Collective, Barrier, Broadcast, Reduce, Allreduce}
use Rattle.pb_world.specs.Counted.{Counted}
use Rattle.pb_local.specs.Machine as M
use Rattle.pb_local.specs.Collectives.{operation_of}
use Rattle.pb_sim_collectives.specs.declared.call.Call.{Call}
use Rattle.pb_sim_collectives.specs.declared.call.Call.TheVariants as C
use Rattle.pb_sim_collectives.specs.Calls.{collective_of, call_of}
use Rattle.pb_sim_collectives.specs.Joined.{Joined, words_of, number, collectives, fits_with, agrees, has_entered, came, all_entered, entered, IsJoined}
use Rattle.pb_sim_collectives.proofs.Entering.{came_set, came_few}
use Rattle.pb_machine.specs.declared.rank.Rank.{Rank}
use Rattle.pb_machine.specs.declared.act.Act.{Act}
use Rattle.pb_machine.specs.declared.act.Act.TheVariants as A
use Rattle.pb_machine.specs.declared.act.Next.{Next}
use Rattle.pb_machine.specs.declared.act.Next.TheVariants as X
use Rattle.pb_sim_world.specs.declared.stand.Stand.{Stand}
use Rattle.pb_sim_world.specs.declared.state.State.{State}
use Rattle.pb_sim_world.specs.States.{total_of, stand, state_at, next_at}
use Rattle.pb_sim_world.specs.Can.{has_needed, leaves_in, may_leave, can_act, can_next, unless_waiting, can_in, can, is_root, decides_in, decides}
use Rattle.pb_sim_world.specs.Events.{remade, IsMoved, IsOther}
use Rattle.pb_sim_world.specs.Sound.{IsState}
use Rattle.pb_sim_world.proofs.Lists.{not_same}
use Rattle.pb_sim_world.proofs.Kept.{state_moved, stand_moved, at_other}
use Rattle.pb_sim_world.proofs.Joining.{number_it, number_other, call_there, calls_kept}

module _ (x : Joined) (r : ℕ) (call : Call) (w : List ℕ) (joined : IsJoined x) (h : r < length x.words) (fit : agrees x r (collective_of call) ≡ true) (d : Call) (old : slice_get x.calls (number x r) ≡ Some d) (away : is_root r call ≡ false) (part : all_entered (entered x r call w) (number x r) ≡ false) where
  calls_same : (entered x r call w).calls ≡ x.calls
  calls_same = let l : number x r < length x.calls = slice_get_within x.calls (number x r) d old in let e : nat_lt (number x r) (length x.calls) ≡ true = grind (arith, nat_tests, l) in ap (λ b. if b then x.calls else x.calls ++ call ∷ []) e

  all_same : (i : ℕ) → all_entered (entered x r call w) i ≡ all_entered x i
  all_same i = by_case (cases_eq i (number x r)) where
    c : came (entered x r call w) i ≡ came x i + (if nat_eq i (number x r) then 1 else 0)
    c = came_set i x.words r w h

    n : length (entered x r call w).words ≡ length x.words
    n = length-set x.words r (words_of x r ++ w ∷ [])

    u : came (entered x r call w) i ≤ length (entered x r call w).words
    u = came_few i (entered x r call w).words

    by_case : (i ≡ number x r) ⊎ (i ≡ number x r → ⊥) → all_entered (entered x r call w) i ≡ all_entered x i
    by_case (inl e) =
        let b : nat_eq i (number x r) ≡ true = eq-eqb i (number x r) e in
        let m : came (entered x r call w) i ≡ came x i + 1 = c ∙ ap (λ (v : Bool). came x i + (if v then 1 else 0)) b in
        let z : all_entered x i ≡ false = not_same (came x i) (length x.words) (λ f. absurd (omega (arith, f, m, u, n))) in
        ap (all_entered (entered x r call w)) e ∙ part ∙ sym z
    by_case (inr e) =
        let b : nat_eq i (number x r) ≡ false = not_same i (number x r) e in
        let m : came (entered x r call w) i ≡ came x i = c ∙ ap (λ (v : Bool). came x i + (if v then 1 else 0)) b ∙ add-zero (came x i) in
        ap (λ k. nat_eq k (length (entered x r call w).words)) m ∙ ap (nat_eq (came x i)) n

  same_call : (a b : Call) → ◌≡◌ {A = Option Call} (Some a) (Some b) → a ≡ b
  same_call a b e = cc

  root_of : (label root : ℕ) → collective_of call ≡ Broadcast label root → r ≡ root → ⊥
  root_of label root e f = by call e away where
    by : (k : Call) → collective_of k ≡ Broadcast label root → is_root r k ≡ false → ⊥
    by C.Barrier e g = clash e where
      clash : ◌≡◌ {A = Collective} Barrier (Broadcast label root) → ⊥
      clash z = cc
    by (C.Broadcast l at) e g = clash (sym (eq-eqb r at (f ∙ sym (same e))) ∙ g) where
      same : ◌≡◌ {A = Collective} (Broadcast l at) (Broadcast label root) → at ≡ root
      same z = cc

      clash : true ≡ false → ⊥
      clash z = cc
    by (C.Reduce l op at) e g = clash e where
      clash : ◌≡◌ {A = Collective} (Reduce l (operation_of op) at) (Broadcast label root) → ⊥
      clash z = cc
    by (C.Allreduce l op) e g = clash e where
      clash : ◌≡◌ {A = Collective} (Allreduce l (operation_of op)) (Broadcast label root) → ⊥
      clash z = cc

  entered_same : (i label root : ℕ) → slice_get x.calls i ≡ Some (C.Broadcast label root) → has_entered (entered x r call w) root i ≡ has_entered x root i
  entered_same i label root e = by_case (cases_eq root r) where
    by_case : (root ≡ r) ⊎ (root ≡ r → ⊥) → has_entered (entered x r call w) root i ≡ has_entered x root i
    by_case (inr f) = ap (nat_lt i) (number_other x r call w joined h fit root f)
    by_case (inl f) = by_place (cases_eq i (number x r)) where
      by_place : (i ≡ number x r) ⊎ (i ≡ number x r → ⊥) → has_entered (entered x r call w) root i ≡ has_entered x root i
      by_place (inl g) =
          let t = call_there x r call w joined h fit in
          let same : C.Broadcast label root ≡ t.0 = same_call (C.Broadcast label root) t.0 (sym (calls_kept x r call w joined h fit i (C.Broadcast label root) e) ∙ ap (slice_get (entered x r call w).calls) g ∙ t.1) in
          absurd (root_of label root (sym t.2 ∙ ap collective_of (sym same)) (sym f))
      by_place (inr g) =
          let n : number (entered x r call w) root ≡ suc (number x r) = ap (number (entered x r call w)) f ∙ number_it x r call w joined h fit in
          let m : number x root ≡ number x r = ap (number x) f in
          ap (nat_lt i) n ∙ between i (number x r) g ∙ ap (nat_lt i) (sym m) where
            between : (i k : ℕ) → (i ≡ k → ⊥) → nat_lt i (suc k) ≡ nat_lt i k
            between i k g = grind (arith, nat_tests, g)

  needed_same : (q i : ℕ) (c : Call) → slice_get x.calls i ≡ Some c → has_needed (entered x r call w) q i c ≡ has_needed x q i c
  needed_same q i C.Barrier e = all_same i
  needed_same q i (C.Broadcast label root) e = entered_same i label root e
  needed_same q i (C.Reduce label op root) e = ap (λ b. not (nat_eq q root) || b) (all_same i)
  needed_same q i (C.Allreduce label op) e = all_same i

  leave_same : (q i : ℕ) (mode : Mode) → may_leave (entered x r call w) q i mode (slice_get (entered x r call w).calls i) ≡ may_leave x q i mode (slice_get x.calls i)
  leave_same q i mode = ap (λ (cs : List Call). may_leave (entered x r call w) q i mode (slice_get cs i)) calls_same ∙ by_call (slice_get x.calls i) refl where
    by_call : (o : Option Call) → slice_get x.calls i ≡ o → may_leave (entered x r call w) q i mode o ≡ may_leave x q i mode o
    by_call None e = refl
    by_call (Some c) e = by_mode mode where
      by_mode : (m : Mode) → leaves_in (entered x r call w) q i c m ≡ leaves_in x q i c m
      by_mode Waiting = all_same i
      by_mode Eager = needed_same q i c e

  enter_same : (q : ℕ) (j : Collective) → (q ≡ r → ⊥) → agrees (entered x r call w) q j ≡ agrees x q j
  enter_same q j n = ap (λ (k : ℕ). fits_with (slice_get (collectives (entered x r call w)) k) j) (number_other x r call w joined h fit q n) ∙ ap (λ (cs : List Call). fits_with (slice_get (map collective_of cs) (number x q)) j) calls_same

  module _ (s : State) (ranks : Vec Rank) (stands : Vec Stand) where
    act_same : (q : ℕ) (act : Act) → (q ≡ r → ⊥) → stand (remade s ranks stands s.channels (entered x r call w)) q ≡ stand s q → can_act (remade s ranks stands s.channels (entered x r call w)) q act ≡ can_act (remade s s.ranks s.stands s.channels x) q act
    act_same q (A.Choose kernel branches) n e = refl
    act_same q (A.Run kernel) n e = refl
    act_same q (A.Send to label) n e = refl
    act_same q (A.Recv from label) n e = refl
    act_same q (A.Enter what root op) n e = enter_same q (collective_of (call_of what root op)) n
    act_same q A.Leave n e = ap (λ (v : Stand). may_leave (entered x r call w) q v.left v.mode (slice_get (entered x r call w).calls v.left)) e ∙ leave_same q (stand s q).left (stand s q).mode

    next_same : (q : ℕ) (y : Counted M.Rank) (next : Next) → (q ≡ r → ⊥) → stand (remade s ranks stands s.channels (entered x r call w)) q ≡ stand s q → can_next (remade s ranks stands s.channels (entered x r call w)) q y next ≡ can_next (remade s s.ranks s.stands s.channels x) q y next
    next_same q y X.Silent n e = refl
    next_same q y (X.Acts act) n e = act_same q act n e
    next_same q y (X.Waits from) n e = refl
    next_same q y X.Ended n e = refl
    next_same q y X.Lost n e = refl
    next_same q y X.Undefined n e = refl

    pub untouched : (q : ℕ) → (q ≡ r → ⊥) → state_at (remade s ranks stands s.channels (entered x r call w)) q ≡ state_at s q → stand (remade s ranks stands s.channels (entered x r call w)) q ≡ stand s q → can (remade s ranks stands s.channels (entered x r call w)) q ≡ can (remade s s.ranks s.stands s.channels x) q
    untouched q n a e =
        ap (can_in (remade s ranks stands s.channels (entered x r call w)) q) a
        ∙ ap (λ (v : Stand). unless_waiting v.waits (can_next (remade s ranks stands s.channels (entered x r call w)) q (state_at s q) (next_at s q))) e
        ∙ ap (unless_waiting (stand s q).waits) (next_same q (state_at s q) (next_at s q) n e)

-- an entry that decides nothing
pub enter_others : (s : State) (r : ℕ) (ranks : Vec Rank) (stands : Vec Stand) (call : Call) (w : List ℕ) (z : Counted M.Rank) (new : Stand) → IsState s → r < total_of s → agrees s.joins r (collective_of call) ≡ true → IsMoved s r z ranks → stands.items ≡ slice_set s.stands.items r new → decides s.joins r call ≡ false → all_entered (entered s.joins r call w) (number s.joins r) ≡ false → IsOther s r (remade s ranks stands s.channels (entered s.joins r call w))
enter_others s r ranks stands call w z new sound lt fit m written nothing part q n = by_call (slice_get s.joins.calls (number s.joins r)) refl nothing where
  h : r < length s.joins.words
  h = subst (λ (k : ℕ). r < k) (sym sound.joins) lt

  a : state_at (remade s ranks stands s.channels (entered s.joins r call w)) q ≡ state_at s q
  a = state_moved s r z ranks r new stands s.channels (entered s.joins r call w) sound lt m q ∙ at_other (state_at s) r z q n

  e : stand (remade s ranks stands s.channels (entered s.joins r call w)) q ≡ stand s q
  e = stand_moved s r z ranks r new stands s.channels (entered s.joins r call w) sound lt written q ∙ at_other (stand s) r new q n

  by_call : (o : Option Call) → slice_get s.joins.calls (number s.joins r) ≡ o → decides_in r call o ≡ false → can (remade s ranks stands s.channels (entered s.joins r call w)) q ≡ can s q
  by_call None f g = absurd (clash g) where
    clash : true ≡ false → ⊥
    clash z = cc
  by_call (Some d) f g = untouched s.joins r call w sound.joined h fit d f g part s ranks stands q n a e
