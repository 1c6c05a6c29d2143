-- A message is sent, or taken.
use Rattle.std.proofs.Common.{◌≡◌, ◌<◌, ◌≤◌, ℕ, true, false, ◌&&◌, nat_eq, if◌then◌else◌, ◌⊎◌, inl, inr, Option, Some, None, List, [], ◌∷◌, ◌++◌, length, ◌+◌, arith, refl, ap, sym, ◌∙◌, subst}
use Rattle.std.specs.Global.{Vec}
use Rattle.std.specs.List.{slice_set}
use Rattle.std.proofs.lemmas.Bool.{cases_eq, eq-eqb, and_right}
use Rattle.pb_text.specs.declared.mode.Mode.{Mode}
use Rattle.pb_text.specs.declared.mode.Mode.TheVariants.{Eager, Waiting}
use Rattle.pb_world.specs.Actions.{Action, Send, Kind, Chooses, Runs, Sends, Receives, Enters, Leaves, Collective, Barrier, Broadcast, Reduce, Allreduce}
use Rattle.pb_world.specs.Machine as N
use Rattle.pb_world.specs.World as W
use Rattle.pb_world.specs.Counted.{Counted}
use Rattle.pb_local.specs.Machine as M
use Rattle.pb_local.specs.Collectives.{words_of}
use Rattle.pb_local.specs.Family.{is_allowed, text_machine, Sequence, family}
use Rattle.pb_chan.specs.declared.message.Message.{Message}
use Rattle.pb_chan.specs.Lists.{Entry, messages, words_in}
use Rattle.pb_machine.specs.declared.act.Act.TheVariants as A
use Rattle.pb_machine.specs.declared.act.Next.TheVariants as X
use Rattle.pb_machine.specs.declared.act.Input.TheVariants.{Plain}
use Rattle.pb_machine.specs.declared.rank.Rank.{Rank}
use Rattle.pb_machine.specs.Acts.{act_of}
use Rattle.pb_machine.specs.Steps.{next_of}
use Rattle.pb_sim_world.specs.declared.stand.Stand.{Stand}
use Rattle.pb_sim_world.specs.declared.stand.Waits.{Waits}
use Rattle.pb_sim_world.specs.declared.state.State.{State}
use Rattle.pb_sim_world.specs.States.{program, total_of, stand, state_at, next_step}
use Rattle.pb_sim_world.specs.Worlds.{moded, mode_if, is_to, world_of, waits_for}
use Rattle.pb_sim_world.specs.Sound.{IsLast, IsWaiting, IsJoining, AreWithin, IsState}
use Rattle.pb_sim_world.specs.Events.{remade, IsAdvanced, IsMoved, IsEvent, MayStep, IsOtherThan}
use Rattle.pb_sim_world.proofs.Lists.{not_same}
use Rattle.pb_sim_world.proofs.Parts.{same_world}
use Rattle.pb_sim_world.proofs.Free.{free, moded_more}
use Rattle.pb_sim_world.proofs.Advancing.{act_moved}
use Rattle.pb_sim_world.proofs.Alone.{acts_next}
use Rattle.pb_sim_world.proofs.Near.{near}
use Rattle.pb_sim_world.proofs.Kept.{state_moved, stand_moved, kept, each_but, at_other, at_it, can_same, acts_out, joining_out}

send_kind : (kind : Kind) (to label : ℕ) → act_of kind ≡ A.Send to label → kind ≡ Sends to label
send_kind (Chooses kernel branches) to label e = cc
send_kind (Runs kernel) to label e = cc
send_kind (Sends k l) to label e = cc
send_kind (Receives from l) to label e = cc
send_kind (Enters Barrier) to label e = cc
send_kind (Enters (Broadcast l root)) to label e = cc
send_kind (Enters (Reduce l operation root)) to label e = cc
send_kind (Enters (Allreduce l operation)) to label e = cc
send_kind (Leaves joint) to label e = cc

receive_kind : (kind : Kind) (from label : ℕ) → act_of kind ≡ A.Recv from label → kind ≡ Receives from label
receive_kind (Chooses kernel branches) from label e = cc
receive_kind (Runs kernel) from label e = cc
receive_kind (Sends k l) from label e = cc
receive_kind (Receives k l) from label e = cc
receive_kind (Enters Barrier) from label e = cc
receive_kind (Enters (Broadcast l root)) from label e = cc
receive_kind (Enters (Reduce l operation root)) from label e = cc
receive_kind (Enters (Allreduce l operation)) from label e = cc
receive_kind (Leaves joint) from label e = cc

pub send_next : (x : N.Next) (to label : ℕ) → next_of x ≡ X.Acts (A.Send to label) → x ≡ N.Does (Sends to label)
send_next x to label e = let p = acts_next x (A.Send to label) e in p.1 ∙ ap N.Does (send_kind p.0 to label p.2)

pub receive_next : (x : N.Next) (from label : ℕ) → next_of x ≡ X.Acts (A.Recv from label) → x ≡ N.Does (Receives from label)
receive_next x from label e = let p = acts_next x (A.Recv from label) e in p.1 ∙ ap N.Does (receive_kind p.0 from label p.2)

-- the list from a to b is changed by f, and no other
abbrev pub IsChanged : List Entry → ℕ → ℕ → (List Message → List Message) → List Entry → Type 0
IsChanged old a b f new = (p q : ℕ) → messages new p q ≡ (if nat_eq a p && nat_eq b q then f (messages old p q) else messages old p q)

module _ (old : List Entry) (a b : ℕ) (f : List Message → List Message) (new : List Entry) (c : IsChanged old a b f new) where
  pub changed_it : messages new a b ≡ f (messages old a b)
  changed_it = let e : nat_eq a a ≡ true = eq-eqb a a refl in let g : nat_eq b b ≡ true = eq-eqb b b refl in c a b ∙ rw (e, g) refl

  pub kept_from : (p q : ℕ) → (p ≡ a → ⊥) → messages new p q ≡ messages old p q
  kept_from p q n = let e : nat_eq a p ≡ false = not_same a p (λ h. n (sym h)) in c p q ∙ rw e refl

  pub kept_to : (p q : ℕ) → (q ≡ b → ⊥) → messages new p q ≡ messages old p q
  kept_to p q n =
      let e : nat_eq b q ≡ false = not_same b q (λ h. n (sym h)) in
      let g : nat_eq a p && nat_eq b q ≡ false = and_right (nat_eq a p) (nat_eq b q) e in
      c p q ∙ rw g refl

-- only between ranks still
pub within_changed : (old : List Entry) (a b : ℕ) (f : List Message → List Message) (new : List Entry) (total : ℕ) → IsChanged old a b f new → a < total → b < total → AreWithin old total → AreWithin new total
within_changed old a b f new total c here there within p q some = by_case (cases_eq p a) (cases_eq q b) where
  by_case : (p ≡ a) ⊎ (p ≡ a → ⊥) → (q ≡ b) ⊎ (q ≡ b → ⊥) → (p < total) × (q < total)
  by_case (inr e) g = within p q (λ h. some (kept_from old a b f new c p q e ∙ h))
  by_case (inl e) (inr g) = within p q (λ h. some (kept_to old a b f new c p q g ∙ h))
  by_case (inl e) (inl g) = (subst (λ (k : ℕ). k < total) (sym e) here, subst (λ (k : ℕ). k < total) (sym g) there)

-- a channel of a world is written
pub wrote : {A : Type 0} (f : ℕ → ℕ → A) (p q : ℕ) (x : A) (u v : ℕ) (P : A → Type 0) → (u ≡ p → v ≡ q → P x) → ((u ≡ p → v ≡ q → ⊥) → P (f u v)) → P (W.updated f p (W.updated (f p) q x) u v)
wrote {A} f p q x u v P here away = by_case (cases_eq u p) (cases_eq v q) where
  by_case : (u ≡ p) ⊎ (u ≡ p → ⊥) → (v ≡ q) ⊎ (v ≡ q → ⊥) → P (W.updated f p (W.updated (f p) q x) u v)
  by_case (inl e) (inl g) = let a : nat_eq u p ≡ true = eq-eqb u p e in let b : nat_eq v q ≡ true = eq-eqb v q g in rw (a, b) (here e g)
  by_case (inl e) (inr g) = let a : nat_eq u p ≡ true = eq-eqb u p e in let b : nat_eq v q ≡ false = not_same v q g in rw (a, b) (subst (λ (k : ℕ). P (f k v)) e (away (λ _ h. g h)))
  by_case (inr e) g = let a : nat_eq u p ≡ false = not_same u p e in rw a (away (λ h _. e h))

to_mode : (mode : Mode) (to label : ℕ) → mode_if (is_to (waits_for mode to label) to) ≡ mode
to_mode Eager to label = refl
to_mode Waiting to label = let e : nat_eq to to ≡ true = eq-eqb to to refl in rw e refl

not_to : (mode : Mode) (to label q : ℕ) → (q ≡ to → ⊥) → is_to (waits_for mode to label) q ≡ false
not_to Eager to label q h = refl
not_to Waiting to label q h = not_same to q (λ e. h (sym e))

module _ (s : State) (r : ℕ) (ranks : Vec Rank) (stands : Vec Stand) (channels : List Entry) (to label : ℕ) (words : List ℕ) (mode : Mode) (new : Stand) where
  sent : State
  sent = remade s ranks stands channels s.joins

  pub send_event : MayStep s r (X.Acts (A.Send to label)) → length words ≡ words_of (program s) s.n label → IsAdvanced s r Plain ranks → stands.items ≡ slice_set s.stands.items r new → new.waits ≡ waits_for mode to label → new.left ≡ (stand s r).left → new.mode ≡ (stand s r).mode →
      IsChanged s.channels r to (λ ms. ms ++ record { label = label; words = words } ∷ []) channels → words_in channels ≤ 16777216 → words_in channels ≡ words_in s.channels + length words →
      IsEvent s r (Send to label words ∷ []) (remade s ranks stands channels s.joins) × IsOtherThan s r to (remade s ranks stands channels s.joins)
  send_event may long a w ws ls ms c few more = (record { step = step; sound = sound; tree = refl; n = refl; flight = omega (arith, more) }, others) where
    act : Action
    act = Send to label words

    message : Message
    message = record { label = label; words = words }

    z : Counted M.Rank
    z = (text_machine (program s) s.n).act (state_at s r) (Send to label words)

    e : next_step s r ≡ N.Does (Sends to label)
    e = send_next (next_step s r) to label may.next_is

    m : IsMoved s r ((text_machine (program s) s.n).act (state_at s r) (Send to label words)) ranks
    m = act_moved s r Plain ranks (Send to label words) a e refl

    there : to < total_of s
    there = near (program s) s.n (state_at s r) (Sends to label) e

    never : (j : Collective) → ◌≡◌ {A = Kind} (Sends to label) (Leaves j) → ⊥
    never j h = cc

    o : M.Todo
    o = (state_at s r).state.todo

    waits : (q : ℕ) → is_to (stand s r).waits q ≡ false
    waits q = ap (λ (v : Option Waits). is_to v q) may.free

    stands_at : (q : ℕ) → stand (remade s ranks stands channels s.joins) q ≡ W.updated (stand s) r new q
    stands_at q = stand_moved s r ((text_machine (program s) s.n).act (state_at s r) (Send to label words)) ranks r new stands channels s.joins may.sound may.there w q

    same_of : {A : Type 0} (f : Stand → A) → f new ≡ f (stand s r) → (q : ℕ) → f (stand (remade s ranks stands channels s.joins) q) ≡ f (stand s q)
    same_of f g q = ap f (stands_at q) ∙ by_case (cases_eq q r) where
      by_case : (q ≡ r) ⊎ (q ≡ r → ⊥) → f (W.updated (stand s) r new q) ≡ f (stand s q)
      by_case (inl h) = ap (λ (k : ℕ). f (W.updated (stand s) r new k)) h ∙ ap f (at_it (stand s) r new) ∙ g ∙ ap (λ (k : ℕ). f (stand s k)) (sym h)
      by_case (inr h) = ap f (at_other (stand s) r new q h)

    channel : (sequence : Sequence) (p q : ℕ) → W.updated (world_of s).channel r (W.updated ((world_of s).channel r) to ((world_of s).channel r to ++ record { label = label; words = words; mode = mode } ∷ [])) p q ≡ moded (is_to (stand (remade s ranks stands channels s.joins) p).waits q) (messages channels p q)
    channel sequence p q =
        wrote (world_of s).channel r to ((world_of s).channel r to ++ record { label = label; words = words; mode = mode } ∷ []) p q (λ (x : List W.Message). x ≡ moded (is_to (stand (remade s ranks stands channels s.joins) p).waits q) (messages channels p q)) here away where
          here : p ≡ r → q ≡ to → (world_of s).channel r to ++ record { label = label; words = words; mode = mode } ∷ [] ≡ moded (is_to (stand (remade s ranks stands channels s.joins) p).waits q) (messages channels p q)
          here f g =
              let k : moded (is_to (stand (remade s ranks stands channels s.joins) r).waits to) (messages channels r to) ≡ moded (is_to (waits_for mode to label) to) (messages s.channels r to ++ message ∷ []) =
              ap (λ (v : Stand). moded (is_to v.waits to) (messages channels r to)) (stands_at r ∙ at_it (stand s) r new) ∙ ap (λ (v : Option Waits). moded (is_to v to) (messages channels r to)) ws ∙ ap (moded (is_to (waits_for mode to label) to)) (changed_it s.channels r to (λ ms. ms ++ message ∷ []) channels c) in
              let l : (world_of s).channel r to ≡ moded false (messages s.channels r to) = ap (λ b. moded b (messages s.channels r to)) (waits to) in
              ap (λ xs. xs ++ record { label = label; words = words; mode = mode } ∷ []) l
              ∙ ap (λ (v : Mode). moded false (messages s.channels r to) ++ record { label = label; words = words; mode = v } ∷ []) (sym (to_mode mode to label))
              ∙ sym (moded_more (is_to (waits_for mode to label) to) (messages s.channels r to) message) ∙ sym k
              ∙ ap (λ (i : ℕ). moded (is_to (stand (remade s ranks stands channels s.joins) i).waits to) (messages channels i to)) (sym f) ∙ ap (λ (i : ℕ). moded (is_to (stand (remade s ranks stands channels s.joins) p).waits i) (messages channels p i)) (sym g)

          away : (p ≡ r → q ≡ to → ⊥) → (world_of s).channel p q ≡ moded (is_to (stand (remade s ranks stands channels s.joins) p).waits q) (messages channels p q)
          away h = by_case (cases_eq p r) where
            by_case : (p ≡ r) ⊎ (p ≡ r → ⊥) → (world_of s).channel p q ≡ moded (is_to (stand (remade s ranks stands channels s.joins) p).waits q) (messages channels p q)
            by_case (inl f) =
                let k : is_to (stand s p).waits q ≡ false = ap (λ (i : ℕ). is_to (stand s i).waits q) f ∙ waits q in
                let l : is_to (stand (remade s ranks stands channels s.joins) p).waits q ≡ false = ap (λ (i : ℕ). is_to (stand (remade s ranks stands channels s.joins) i).waits q) f ∙ ap (λ (v : Stand). is_to v.waits q) (stands_at r ∙ at_it (stand s) r new) ∙ ap (λ (v : Option Waits). is_to v q) ws ∙ not_to mode to label q (h f) in
                ap (λ b. moded b (messages s.channels p q)) (k ∙ sym l) ∙ ap (moded (is_to (stand (remade s ranks stands channels s.joins) p).waits q)) (sym (kept_to s.channels r to (λ ms. ms ++ message ∷ []) channels c p q (h f)))
            by_case (inr f) =
                ap (λ (v : Stand). moded (is_to v.waits q) (messages s.channels p q)) (sym (stands_at p ∙ at_other (stand s) r new p f)) ∙ ap (moded (is_to (stand (remade s ranks stands channels s.joins) p).waits q)) (sym (kept_from s.channels r to (λ ms. ms ++ message ∷ []) channels c p q f))

    step : (sequence : Sequence) → W.Step (family (program s) s.n sequence) (world_of s) r (Send to label words ∷ []) (world_of (remade s ranks stands channels s.joins))
    step sequence =
        let d : is_allowed (program s) s.n r (Send to label words) ≡ true = eq-eqb (length words) (words_of (program s) s.n label) long in
        subst (λ V. W.Step (family (program s) s.n sequence) (world_of s) r (Send to label words ∷ []) V)
        (same_world (W.posted (family (program s) s.n sequence) (world_of s) r ((text_machine (program s) s.n).act (state_at s r) (Send to label words)) to (record { label = label; words = words; mode = mode })) (remade s ranks stands channels s.joins)
        (λ q. sym (state_moved s r _ ranks r new stands channels s.joins may.sound may.there m q)) (channel sequence) (λ q. refl) (λ q. sym (same_of (λ v. v.left) ls q)) (λ q. sym (same_of (λ v. v.mode) ms q)))
        (W.send mode (free s sequence r may.there may.free) e d)

    waiting : (v : Option Waits) → v ≡ waits_for mode to label → IsWaiting (remade s ranks stands channels s.joins) r v
    waiting v h = subst (IsWaiting (remade s ranks stands channels s.joins) r) (sym h) (by_mode mode) where
      by_mode : (o : Mode) → IsWaiting (remade s ranks stands channels s.joins) r (waits_for o to label)
      by_mode Eager = tt
      by_mode Waiting = (there, record { front = messages s.channels r to; words = words; is = changed_it s.channels r to (λ ms. ms ++ message ∷ []) channels c })

    others_wait : (q : ℕ) → (q ≡ r → ⊥) → (v : Option Waits) → IsWaiting s q v → IsWaiting (remade s ranks stands channels s.joins) q v
    others_wait q n None h = tt
    others_wait q n (Some v) h = (h.0, subst (IsLast v.label) (sym (kept_from s.channels r to (λ ms. ms ++ message ∷ []) channels c q v.by n)) h.1)

    sound : IsState (remade s ranks stands channels s.joins)
    sound =
        let o = acts_out s r (Send to label words) may.sound may.there e never in
        kept s r _ ranks r new stands channels s.joins may.sound may.there may.there m w may.sound.joined may.sound.joins few (within_changed s.channels r to (λ ms. ms ++ message ∷ []) channels (total_of s) c may.there there may.sound.within) may.sound.opened
        (λ q lt. each_but (λ i v (u : Unit {0}). i < total_of s → IsWaiting (remade s ranks stands channels s.joins) i v.waits) (stand s) (λ i. tt) r new tt (λ l. waiting new.waits ws) q (λ n l. others_wait q n (stand s q).waits (may.sound.waits q l)) lt)
        (λ q lt. each_but (λ i v (y : Counted M.Rank). i < total_of s → IsJoining s.joins i v.left y.state.todo) (stand s) (state_at s) r new _ (λ l. joining_out s.joins r new.left _ o.0 (o.1 ∙ sym ls)) q (λ n l. may.sound.joining q l) lt)

    others : IsOtherThan s r to (remade s ranks stands channels s.joins)
    others q n h =
        can_same s ranks stands channels q
        (state_moved s r _ ranks r new stands channels s.joins may.sound may.there m q ∙ at_other (state_at s) r _ q n)
        (stands_at q ∙ at_other (stand s) r new q n)
        (λ p. kept_to s.channels r to (λ ms. ms ++ message ∷ []) channels c p q h)
