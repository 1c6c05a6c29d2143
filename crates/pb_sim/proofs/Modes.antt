-- A send leaves a message in its mode.
use Rattle.std.proofs.Common.{◌≡◌, ℕ, Bool, true, nat_eq, Option, List, [], ◌∷◌, ◌++◌, refl, ap, sym, ◌∙◌}
use Rattle.std.proofs.lemmas.Bool.{eq-eqb}
use Rattle.pb_text.specs.declared.mode.Mode.{Mode}
use Rattle.pb_text.specs.declared.mode.Mode.TheVariants.{Eager, Waiting}
use Rattle.pb_world.specs.Actions.{Action, Send, Recv, Enter, Leave}
use Rattle.pb_world.specs.Family.{Family, IsInternal, choosing, running}
use Rattle.pb_world.specs.World as W
use Rattle.pb_local.specs.Family.{Sequence, family}
use Rattle.pb_chan.specs.declared.message.Message.{Message}
use Rattle.pb_chan.specs.Lists.{messages}
use Rattle.pb_sim_world.specs.declared.stand.Waits.{Waits}
use Rattle.pb_sim_world.specs.declared.state.State.{State}
use Rattle.pb_sim_world.specs.States.{program, stand}
use Rattle.pb_sim_world.specs.Worlds.{is_to, mode_if, moded, world_of, waits_for}
use Rattle.pb_sim_world.specs.Events.{IsEvent}
use Rattle.pb_sim_world.proofs.Kept.{at_it}
use Rattle.pb_sim.specs.Scheduled.{IsInMode}

some_sequence : Sequence
some_sequence = record { run = λ A k. []; over = λ A k. true }

abbrev message : ℕ → List ℕ → Mode → W.Message
message label words mode = record { label = label; words = words; mode = mode }

-- the channel behind a send
abbrev IsPosted : {S : Type 0} → W.World S → ℕ → ℕ → ℕ → List ℕ → W.World S → Type 0
IsPosted X r q label words V = (mode : Mode) × (V.channel r q ≡ X.channel r q ++ message label words mode ∷ [])

module _ {S : Type 0} (F : Family S) (X : W.World S) (r q label : ℕ) (words : List ℕ) where
  internal_not : (a : Action) → IsInternal a → ◌≡◌ {A = List Action} (a ∷ []) (Send q label words ∷ []) → ⊥
  internal_not a choosing e = cc
  internal_not a running e = cc

  posted_at : (k l : ℕ) (ws : List ℕ) (mode : Mode) (y : S) → ◌≡◌ {A = List Action} (Send k l ws ∷ []) (Send q label words ∷ []) → (W.posted F X r y k (message l ws mode)).channel r q ≡ X.channel r q ++ message label words mode ∷ []
  posted_at k l ws mode y e = by k l ws q label words (same e) where
    same : ◌≡◌ {A = List Action} (Send k l ws ∷ []) (Send q label words ∷ []) → Send k l ws ≡ Send q label words
    same e = cc

    by : (k l : ℕ) (ws : List ℕ) (q label : ℕ) (words : List ℕ) → Send k l ws ≡ Send q label words → (W.posted F X r y k (message l ws mode)).channel r q ≡ X.channel r q ++ message label words mode ∷ []
    by k l ws q label words e =
        let a : k ≡ q = cc in let b : l ≡ label = cc in let d : ws ≡ words = cc in
        ap (λ f. f q) (at_it X.channel r (W.updated (X.channel r) k (X.channel r k ++ message l ws mode ∷ [])))
        ∙ ap (λ (i : ℕ). W.updated (X.channel r) k (X.channel r k ++ message l ws mode ∷ []) i) (sym a)
        ∙ at_it (X.channel r) k (X.channel r k ++ message l ws mode ∷ [])
        ∙ ap (λ (i : ℕ). X.channel r i ++ message l ws mode ∷ []) a
        ∙ ap (λ (i : ℕ). X.channel r q ++ message i ws mode ∷ []) b
        ∙ ap (λ (xs : List ℕ). X.channel r q ++ message label xs mode ∷ []) d

  posted_by : (acts : List Action) (V : W.World S) → W.Step F X r acts V → acts ≡ Send q label words ∷ [] → IsPosted X r q label words V
  posted_by acts V (W.silent free e) h = absurd (clash h) where
    clash : ◌≡◌ {A = List Action} [] (Send q label words ∷ []) → ⊥
    clash h = cc
  posted_by acts V (W.probe free e c f) h = absurd (clash h) where
    clash : ◌≡◌ {A = List Action} [] (Send q label words ∷ []) → ⊥
    clash h = cc
  posted_by acts V (W.internal {a = a} free e i g) h = absurd (internal_not a i h)
  posted_by acts V (W.send {q = k} {label = l} {words = ws} mode free e g) h = (mode, posted_at k l ws mode (F.machine.act (X.state r) (Send k l ws)) h)
  posted_by acts V (W.receive {p = p} {label = l} {m = m} free e t) h = absurd (clash h) where
    clash : ◌≡◌ {A = List Action} (Recv p l m.words ∷ []) (Send q label words ∷ []) → ⊥
    clash h = cc
  posted_by acts V (W.enter {j = j} {words = ws} mode free e a g) h = absurd (clash h) where
    clash : ◌≡◌ {A = List Action} (Enter j ws ∷ []) (Send q label words ∷ []) → ⊥
    clash h = cc
  posted_by acts V (W.leave {j = j} ws free e g a) h = absurd (clash h) where
    clash : ◌≡◌ {A = List Action} (Leave j (F.outcome j r ws) ∷ []) (Send q label words ∷ []) → ⊥
    clash h = cc

-- the last message of a list has the mode that its sender waits in
pub last_mode : (b : Bool) (ms : List Message) (front : List W.Message) (m : W.Message) → moded b ms ≡ front ++ m ∷ [] → m.mode ≡ mode_if b
last_mode b [] [] m e = absurd (clash e) where
  clash : ◌≡◌ {A = List W.Message} [] (m ∷ []) → ⊥
  clash z = cc
last_mode b [] (y ∷ front) m e = absurd (clash e) where
  clash : ◌≡◌ {A = List W.Message} [] (y ∷ (front ++ m ∷ [])) → ⊥
  clash z = cc
last_mode b (x ∷ []) [] m e = ap (λ (z : W.Message). z.mode) (sym (same _ _ _ _ e)) where
  same : (x y : W.Message) (xs ys : List W.Message) → ◌≡◌ {A = List W.Message} (x ∷ xs) (y ∷ ys) → x ≡ y
  same x y xs ys z = cc
last_mode b (x ∷ []) (y ∷ []) m e = absurd (clash _ _ _ e) where
  clash : (x y m : W.Message) → ◌≡◌ {A = List W.Message} (x ∷ []) (y ∷ m ∷ []) → ⊥
  clash x y m z = cc
last_mode b (x ∷ []) (y ∷ w ∷ front) m e = absurd (clash _ _ _ _ e) where
  clash : (x y w : W.Message) (ms : List W.Message) → ◌≡◌ {A = List W.Message} (x ∷ []) (y ∷ w ∷ ms) → ⊥
  clash x y w ms z = cc
last_mode b (x ∷ y ∷ ms) [] m e = absurd (clash _ _ _ _ e) where
  clash : (x y m : W.Message) (ms : List W.Message) → ◌≡◌ {A = List W.Message} (x ∷ y ∷ ms) (m ∷ []) → ⊥
  clash x y m ms z = cc
last_mode b (x ∷ y ∷ ms) (w ∷ front) m e = last_mode b (y ∷ ms) front m (tail _ _ _ _ e) where
  tail : (x y : W.Message) (xs ys : List W.Message) → ◌≡◌ {A = List W.Message} (x ∷ xs) (y ∷ ys) → xs ≡ ys
  tail x y xs ys z = cc

to_mode : (mode : Mode) (to label : ℕ) → mode_if (is_to (waits_for mode to label) to) ≡ mode
to_mode Eager to label = refl
to_mode Waiting to label = let e : nat_eq to to ≡ true = eq-eqb to to refl in rw e refl

pub sent_in_mode : (s t : State) (r to label : ℕ) (words : List ℕ) (mode : Mode) → IsEvent s r (Send to label words ∷ []) t → (stand t r).waits ≡ waits_for mode to label → IsInMode mode r (Send to label words ∷ []) (world_of t)
sent_in_mode s t r to label words mode e w =
    let p = posted_by (family (program s) s.n some_sequence) (world_of s) r to label words (Send to label words ∷ []) (world_of t) (e.step some_sequence) refl in
    let m : p.0 ≡ mode = last_mode (is_to (stand t r).waits to) (messages t.channels r to) ((world_of s).channel r to) (message label words p.0) p.1 ∙ ap (λ (v : Option Waits). mode_if (is_to v to)) w ∙ to_mode mode to label in
    ((world_of s).channel r to, p.1 ∙ ap (λ (o : Mode). (world_of s).channel r to ++ message label words o ∷ []) m)
