-- A message is taken.
use Rattle.std.proofs.Common.{◌≡◌, ◌<◌, ◌≤◌, ℕ, suc, ◌+◌, Bool, true, false, nat_eq, ◌⊎◌, inl, inr, Option, Some, None, List, [], ◌∷◌, length, refl, ap, sym, ◌∙◌, subst, arith, zero-add, length-append}
use Rattle.std.specs.Global.{Vec}
use Rattle.std.specs.List.{slice_set, slice_get, remove}
use Rattle.std.proofs.lemmas.Bool.{cases_eq, eq-eqb}
use Rattle.std.proofs.lemmas.Bool.Decides.{nat_tests}
use Rattle.std.proofs.lemmas.Option.{get_or_from_slice_get}
use Rattle.std.proofs.lemmas.List.Edits.{remove-append_left}
use Rattle.pb_world.specs.Actions.{Recv, Kind, Receives, Leaves, Collective}
use Rattle.pb_world.specs.Machine as N
use Rattle.pb_world.specs.World as W
use Rattle.pb_world.specs.Counted.{Counted}
use Rattle.pb_local.specs.Machine as M
use Rattle.pb_local.specs.Family.{text_machine, Sequence, family}
use Rattle.pb_chan.specs.declared.message.Message.{Message}
use Rattle.pb_chan.specs.Lists.{Entry, messages, position, words_in}
use Rattle.pb_machine.specs.declared.act.Act.TheVariants as A
use Rattle.pb_machine.specs.declared.act.Next.TheVariants as X
use Rattle.pb_machine.specs.declared.act.Input.TheVariants.{Plain}
use Rattle.pb_machine.specs.declared.rank.Rank.{Rank}
use Rattle.pb_machine.specs.Steps.{is_there}
use Rattle.pb_sim_world.specs.declared.stand.Stand.{Stand}
use Rattle.pb_sim_world.specs.declared.stand.Waits.{Waits}
use Rattle.pb_sim_world.specs.declared.state.State.{State}
use Rattle.pb_sim_world.specs.States.{program, total_of, stand, state_at, next_step}
use Rattle.pb_sim_world.specs.Worlds.{moded, is_to, world_of, released}
use Rattle.pb_sim_world.specs.Sound.{IsLast, IsWaiting, IsJoining, IsState}
use Rattle.pb_sim_world.specs.Events.{remade, IsAdvanced, IsMoved, IsEvent, MayStep, IsOtherThan}
use Rattle.pb_sim_world.proofs.Parts.{same_world}
use Rattle.pb_sim_world.proofs.Free.{free}
use Rattle.pb_sim_world.proofs.Advancing.{act_moved}
use Rattle.pb_sim_world.proofs.Near.{near}
use Rattle.pb_sim_world.proofs.Taking.{IsTaken, takes, IsReleased, release_none, release_other, release_it}
use Rattle.pb_sim_world.proofs.Sending.{receive_next, IsChanged, changed_it, kept_from, kept_to, within_changed, wrote}
use Rattle.pb_sim_world.proofs.Kept.{state_moved, stand_moved, kept, each_but, at_other, at_it, can_same, acts_out, joining_out}

-- a sender of the world is let go as it should be
pub let_go : (s : State) (p r label at : ℕ) (left : Bool) → IsState s → p < total_of s → position label 0 (messages s.channels p r) ≡ Some at → left ≡ is_there (position label 0 (remove (messages s.channels p r) at)) → IsReleased (stand s p).waits r label (messages s.channels p r) at (released (stand s p).waits r label left)
let_go s p r label at left sound h found l = by_waits (stand s p).waits (sound.waits p h) where
  by_waits : (w : Option Waits) → IsWaiting s p w → IsReleased w r label (messages s.channels p r) at (released w r label left)
  by_waits None k = release_none r label (messages s.channels p r) at left
  by_waits (Some w) k = by_rank (nat_eq w.by r) refl where
    by_rank : (b : Bool) → nat_eq w.by r ≡ b → IsReleased (Some w) r label (messages s.channels p r) at (released (Some w) r label left)
    by_rank false e = release_other w r label (messages s.channels p r) at left e
    by_rank true e = release_it w r label (messages s.channels p r) at left e (subst (λ (i : ℕ). IsLast w.label (messages s.channels p i)) (equal w.by r e) k.1) found l where
      equal : (a b : ℕ) → nat_eq a b ≡ true → a ≡ b
      equal a b e = grind (arith, nat_tests)

last_of : (w : Waits) (ms : List Message) (at : ℕ) → IsLast w.label ms → suc at < length ms → IsLast w.label (remove ms at)
last_of w ms at last lt =
    let x : Message = record { label = w.label; words = last.words } in
    let n : length ms ≡ length last.front + 1 = ap length last.is ∙ length-append last.front (x ∷ []) in
    let k : at < length last.front = omega (arith, n, lt) in
    record { front = remove last.front at; words = last.words; is = ap (λ xs. remove xs at) last.is ∙ remove-append_left last.front (x ∷ []) at k }

module _ (s : State) (r : ℕ) (ranks : Vec Rank) (stands : Vec Stand) (channels : List Entry) (p label at : ℕ) (words : List ℕ) (left : Bool) (new : Stand) where
  pub receive_event : MayStep s r (X.Acts (A.Recv p label)) → position label 0 (messages s.channels p r) ≡ Some at → (l : ℕ) × (slice_get (messages s.channels p r) at ≡ Some (record { label = l; words = words })) → left ≡ is_there (position label 0 (messages channels p r)) →
      IsAdvanced s r Plain ranks → stands.items ≡ slice_set s.stands.items p new → new.waits ≡ released (stand s p).waits r label left → new.left ≡ (stand s p).left → new.mode ≡ (stand s p).mode →
      IsChanged s.channels p r (λ ms. remove ms at) channels → words_in channels ≤ 16777216 → words_in channels + length words ≡ words_in s.channels →
      IsEvent s r (Recv p label words ∷ []) (remade s ranks stands channels s.joins) × IsOtherThan s r p (remade s ranks stands channels s.joins)
  receive_event may found got l a w ws ls ms c few fewer = (record { step = step; sound = sound; tree = refl; n = refl; flight = omega (arith, fewer) }, others) where
    e : next_step s r ≡ N.Does (Receives p label)
    e = receive_next (next_step s r) p label may.next_is

    m : IsMoved s r ((text_machine (program s) s.n).act (state_at s r) (Recv p label words)) ranks
    m = act_moved s r Plain ranks (Recv p label words) a e refl

    there : p < total_of s
    there = near (program s) s.n (state_at s r) (Receives p label) e

    never : (j : Collective) → ◌≡◌ {A = Kind} (Receives p label) (Leaves j) → ⊥
    never j h = cc

    go : IsReleased (stand s p).waits r label (messages s.channels p r) at (released (stand s p).waits r label left)
    go = let_go s p r label at left may.sound there found (l ∙ ap (λ xs. is_there (position label 0 xs)) (changed_it s.channels p r (λ xs. remove xs at) channels c))

    b : Bool
    b = is_to (stand s p).waits r

    taken : IsTaken label (is_to (stand s p).waits r) (is_to (released (stand s p).waits r label left) r) (messages s.channels p r) at
    taken = takes label 0 at (is_to (stand s p).waits r) (is_to (released (stand s p).waits r label left) r) (messages s.channels p r) at found (sym (zero-add at)) go.last go.other

    words_are : taken.message.words ≡ words
    words_are = taken.words (record { label = got.0; words = words }) ∙ ap (λ (x : Message). x.words) (get_or_from_slice_get (messages s.channels p r) at (record { label = got.0; words = words }) (record { label = got.0; words = words }) got.1)

    stands_at : (q : ℕ) → stand (remade s ranks stands channels s.joins) q ≡ W.updated (stand s) p new q
    stands_at q = stand_moved s r ((text_machine (program s) s.n).act (state_at s r) (Recv p label words)) ranks p new stands channels s.joins may.sound there w q

    waits_at : is_to (stand (remade s ranks stands channels s.joins) p).waits r ≡ is_to (released (stand s p).waits r label left) r
    waits_at = ap (λ (v : Stand). is_to v.waits r) (stands_at p ∙ at_it (stand s) p new) ∙ ap (λ (v : Option Waits). is_to v r) ws

    same_of : {A : Type 0} (f : Stand → A) → f new ≡ f (stand s p) → (q : ℕ) → f (stand (remade s ranks stands channels s.joins) q) ≡ f (stand s q)
    same_of f g q = ap f (stands_at q) ∙ by_case (cases_eq q p) where
      by_case : (q ≡ p) ⊎ (q ≡ p → ⊥) → f (W.updated (stand s) p new q) ≡ f (stand s q)
      by_case (inl h) = ap (λ (k : ℕ). f (W.updated (stand s) p new k)) h ∙ ap f (at_it (stand s) p new) ∙ g ∙ ap (λ (k : ℕ). f (stand s k)) (sym h)
      by_case (inr h) = ap f (at_other (stand s) p new q h)

    channel : (u v : ℕ) → W.updated (world_of s).channel p (W.updated ((world_of s).channel p) r (moded (is_to (released (stand s p).waits r label left) r) (remove (messages s.channels p r) at))) u v ≡ moded (is_to (stand (remade s ranks stands channels s.joins) u).waits v) (messages channels u v)
    channel u v =
        wrote (world_of s).channel p r (moded (is_to (released (stand s p).waits r label left) r) (remove (messages s.channels p r) at)) u v (λ (x : List W.Message). x ≡ moded (is_to (stand (remade s ranks stands channels s.joins) u).waits v) (messages channels u v)) here away where
          here : u ≡ p → v ≡ r → moded (is_to (released (stand s p).waits r label left) r) (remove (messages s.channels p r) at) ≡ moded (is_to (stand (remade s ranks stands channels s.joins) u).waits v) (messages channels u v)
          here f g =
              ap (λ k. moded k (remove (messages s.channels p r) at)) (sym waits_at)
              ∙ ap (moded (is_to (stand (remade s ranks stands channels s.joins) p).waits r)) (sym (changed_it s.channels p r (λ xs. remove xs at) channels c))
              ∙ ap (λ (i : ℕ). moded (is_to (stand (remade s ranks stands channels s.joins) i).waits r) (messages channels i r)) (sym f) ∙ ap (λ (i : ℕ). moded (is_to (stand (remade s ranks stands channels s.joins) u).waits i) (messages channels u i)) (sym g)

          away : (u ≡ p → v ≡ r → ⊥) → (world_of s).channel u v ≡ moded (is_to (stand (remade s ranks stands channels s.joins) u).waits v) (messages channels u v)
          away h = by_case (cases_eq u p) where
            by_case : (u ≡ p) ⊎ (u ≡ p → ⊥) → (world_of s).channel u v ≡ moded (is_to (stand (remade s ranks stands channels s.joins) u).waits v) (messages channels u v)
            by_case (inl f) =
                let k : is_to (stand (remade s ranks stands channels s.joins) u).waits v ≡ is_to (stand s u).waits v =
                ap (λ (i : ℕ). is_to (stand (remade s ranks stands channels s.joins) i).waits v) f ∙ ap (λ (x : Stand). is_to x.waits v) (stands_at p ∙ at_it (stand s) p new) ∙ ap (λ (x : Option Waits). is_to x v) ws ∙ go.away v (h f) ∙ ap (λ (i : ℕ). is_to (stand s i).waits v) (sym f) in
                ap (λ x. moded x (messages s.channels u v)) (sym k) ∙ ap (moded (is_to (stand (remade s ranks stands channels s.joins) u).waits v)) (sym (kept_to s.channels p r (λ xs. remove xs at) channels c u v (h f)))
            by_case (inr f) =
                ap (λ (x : Stand). moded (is_to x.waits v) (messages s.channels u v)) (sym (stands_at u ∙ at_other (stand s) p new u f)) ∙ ap (moded (is_to (stand (remade s ranks stands channels s.joins) u).waits v)) (sym (kept_from s.channels p r (λ xs. remove xs at) channels c u v f))

    step : (sequence : Sequence) → W.Step (family (program s) s.n sequence) (world_of s) r (Recv p label words ∷ []) (world_of (remade s ranks stands channels s.joins))
    step sequence =
        subst (λ V. W.Step (family (program s) s.n sequence) (world_of s) r (Recv p label words ∷ []) V)
        (same_world (W.taken (family (program s) s.n sequence) (world_of s) r ((text_machine (program s) s.n).act (state_at s r) (Recv p label words)) p (moded (is_to (released (stand s p).waits r label left) r) (remove (messages s.channels p r) at))) (remade s ranks stands channels s.joins)
        (λ q. sym (state_moved s r _ ranks p new stands channels s.joins may.sound may.there m q)) channel (λ q. refl) (λ q. sym (same_of (λ x. x.left) ls q)) (λ q. sym (same_of (λ x. x.mode) ms q)))
        (subst (λ (ws : List ℕ). W.Step (family (program s) s.n sequence) (world_of s) r (Recv p label ws ∷ []) (W.taken (family (program s) s.n sequence) (world_of s) r ((text_machine (program s) s.n).act (state_at s r) (Recv p label ws)) p (moded (is_to (released (stand s p).waits r label left) r) (remove (messages s.channels p r) at)))) words_are
        (W.receive (free s sequence r may.there may.free) e taken.taken))

    others_wait : (q : ℕ) → (q ≡ p → ⊥) → (v : Option Waits) → IsWaiting s q v → IsWaiting (remade s ranks stands channels s.joins) q v
    others_wait q n None h = tt
    others_wait q n (Some v) h = (h.0, subst (IsLast v.label) (sym (kept_from s.channels p r (λ xs. remove xs at) channels c q v.by n)) h.1)

    still : (v : Option Waits) → (is_to v r ≡ true → suc at < length (messages s.channels p r)) → IsWaiting s p v → IsWaiting (remade s ranks stands channels s.joins) p v
    still None f h = tt
    still (Some v) f h = by_case (cases_eq v.by r) where
      by_case : (v.by ≡ r) ⊎ (v.by ≡ r → ⊥) → IsWaiting (remade s ranks stands channels s.joins) p (Some v)
      by_case (inl g) =
          let last : IsLast v.label (messages s.channels p r) = subst (λ (i : ℕ). IsLast v.label (messages s.channels p i)) g h.1 in
          let k = last_of v (messages s.channels p r) at last (f (eq-eqb v.by r g)) in
          (h.0, subst (λ (i : ℕ). IsLast v.label (messages channels p i)) (sym g) (subst (IsLast v.label) (sym (changed_it s.channels p r (λ xs. remove xs at) channels c)) k))
      by_case (inr g) = (h.0, subst (IsLast v.label) (sym (kept_to s.channels p r (λ xs. remove xs at) channels c p v.by g)) h.1)

    waiting : IsWaiting (remade s ranks stands channels s.joins) p new.waits
    waiting = subst (IsWaiting (remade s ranks stands channels s.joins) p) (sym ws) (by_again go.again) where
      by_again : ((released (stand s p).waits r label left ≡ None) ⊎ ((released (stand s p).waits r label left ≡ (stand s p).waits) × (is_to (stand s p).waits r ≡ true → suc at < length (messages s.channels p r)))) → IsWaiting (remade s ranks stands channels s.joins) p (released (stand s p).waits r label left)
      by_again (inl g) = subst (IsWaiting (remade s ranks stands channels s.joins) p) (sym g) tt
      by_again (inr g) = subst (IsWaiting (remade s ranks stands channels s.joins) p) (sym g.0) (still (stand s p).waits g.1 (may.sound.waits p there))

    sound : IsState (remade s ranks stands channels s.joins)
    sound =
        let o = acts_out s r (Recv p label words) may.sound may.there e never in
        kept s r ((text_machine (program s) s.n).act (state_at s r) (Recv p label words)) ranks p new stands channels s.joins may.sound may.there there m w may.sound.joined may.sound.joins few (within_changed s.channels p r (λ xs. remove xs at) channels (total_of s) c there may.there may.sound.within) may.sound.opened
        (λ q lt. each_but (λ i v (u : Unit {0}). i < total_of s → IsWaiting (remade s ranks stands channels s.joins) i v.waits) (stand s) (λ i. tt) p new tt (λ l. waiting) q (λ n l. others_wait q n (stand s q).waits (may.sound.waits q l)) lt)
        (λ q lt. subst (λ (k : ℕ). IsJoining s.joins q k (W.updated (state_at s) r ((text_machine (program s) s.n).act (state_at s r) (Recv p label words)) q).state.todo) (sym (left_same q))
        (each_but (λ i (u : Unit {0}) (y : Counted M.Rank). i < total_of s → IsJoining s.joins i (stand s i).left y.state.todo) (λ i. tt) (state_at s) r tt ((text_machine (program s) s.n).act (state_at s r) (Recv p label words)) (λ l. joining_out s.joins r (stand s r).left ((text_machine (program s) s.n).act (state_at s r) (Recv p label words)).state.todo o.0 o.1) q (λ n l. may.sound.joining q l) lt)) where
          left_same : (q : ℕ) → (W.updated (stand s) p new q).left ≡ (stand s q).left
          left_same q = by_case (cases_eq q p) where
            by_case : (q ≡ p) ⊎ (q ≡ p → ⊥) → (W.updated (stand s) p new q).left ≡ (stand s q).left
            by_case (inl h) = ap (λ (k : ℕ). (W.updated (stand s) p new k).left) h ∙ ap (λ (x : Stand). x.left) (at_it (stand s) p new) ∙ ls ∙ ap (λ (k : ℕ). (stand s k).left) (sym h)
            by_case (inr h) = ap (λ (x : Stand). x.left) (at_other (stand s) p new q h)

    others : IsOtherThan s r p (remade s ranks stands channels s.joins)
    others q n h =
        can_same s ranks stands channels q
        (state_moved s r _ ranks p new stands channels s.joins may.sound may.there m q ∙ at_other (state_at s) r _ q n)
        (stands_at q ∙ at_other (stand s) p new q h)
        (λ u. kept_to s.channels p r (λ xs. remove xs at) channels c u q n)
