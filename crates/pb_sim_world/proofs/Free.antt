-- Ranks that wait for no message of their own to be taken.
use Rattle.std.proofs.Common.{◌≡◌, ◌<◌, ℕ, Bool, true, false, Option, Some, None, List, [], ◌∷◌, ◌++◌, refl, ap, sym, ◌∙◌, subst}
use Rattle.std.proofs.lemmas.Bool.{eq-eqb}
use Rattle.pb_text.specs.declared.mode.Mode.TheVariants.{Eager, Waiting}
use Rattle.pb_world.specs.World as W
use Rattle.pb_local.specs.Family.{Sequence, family}
use Rattle.pb_chan.specs.declared.message.Message.{Message}
use Rattle.pb_chan.specs.Lists.{messages}
use Rattle.pb_sim_world.specs.declared.stand.Waits.{Waits}
use Rattle.pb_sim_world.specs.declared.state.State.{State}
use Rattle.pb_sim_world.specs.States.{program, total_of, stand}
use Rattle.pb_sim_world.specs.Worlds.{is_to, mode_if, mode_before, moded, world_of}
use Rattle.pb_sim_world.specs.Sound.{IsLast, IsWaiting, IsState}

eager_before : (ms : List Message) → mode_before false ms ≡ Eager
eager_before [] = refl
eager_before (m ∷ ms) = refl

pub all_eager : (ms : List Message) → W.AllEager (moded false ms)
all_eager [] = tt
all_eager (m ∷ ms) = (eager_before ms, all_eager ms)

-- the modes of a list with one more message
pub moded_more : (b : Bool) (ms : List Message) (m : Message) → moded b (ms ++ m ∷ []) ≡ moded false ms ++ record { label = m.label; words = m.words; mode = mode_if b } ∷ []
moded_more b [] m = refl
moded_more b (x ∷ []) m = refl
moded_more b (x ∷ y ∷ ms) m = ap (λ zs. record { label = x.label; words = x.words; mode = Eager } ∷ zs) (moded_more b (y ∷ ms) m)

not_eager : (ms : List W.Message) (m : W.Message) → m.mode ≡ Waiting → W.AllEager (ms ++ m ∷ []) → ⊥
not_eager [] m e h = clash (sym h.0 ∙ e) where
  clash : Eager ≡ Waiting → ⊥
  clash z = cc
not_eager (x ∷ ms) m e h = not_eager ms m e h.1

module _ (s : State) (sequence : Sequence) where
  pub free : (r : ℕ) → r < total_of s → (stand s r).waits ≡ None → W.IsFree (family (program s) s.n sequence) (world_of s) r
  free r h e = record {
    within = h;
    none = λ q _. subst (λ (w : Option Waits). W.AllEager (moded (is_to w q) (messages s.channels r q))) (sym e) (all_eager (messages s.channels r q));
  }

  pub unfree : (r : ℕ) (w : Waits) → r < total_of s → IsState s → (stand s r).waits ≡ Some w → W.IsFree (family (program s) s.n sequence) (world_of s) r → ⊥
  unfree r w h sound e f =
      let held : (w.by < total_of s) × IsLast w.label (messages s.channels r w.by) = subst (IsWaiting s r) e (sound.waits r h) in
      let last = held.1 in
      let all : W.AllEager (moded (is_to (stand s r).waits w.by) (messages s.channels r w.by)) = f.none w.by held.0 in
      let waits : is_to (stand s r).waits w.by ≡ true = ap (λ (o : Option Waits). is_to o w.by) e ∙ eq-eqb w.by w.by refl in
      let ends : moded (is_to (stand s r).waits w.by) (messages s.channels r w.by) ≡ moded false last.front ++ record { label = w.label; words = last.words; mode = Waiting } ∷ [] = ap (λ b. moded b (messages s.channels r w.by)) waits ∙ ap (moded true) last.is ∙ moded_more true last.front (record { label = w.label; words = last.words }) in
      not_eager (moded false last.front) (record { label = w.label; words = last.words; mode = Waiting }) refl (subst W.AllEager ends all)
