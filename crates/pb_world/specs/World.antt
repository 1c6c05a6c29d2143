-- All ranks together: their states, channels and collectives, one event, and the worlds that are reached.
use Rattle.std.specs.Prelude.{◌≡◌, ◌≢◌, ℕ, zero, suc, ◌<◌, ◌==◌, cond, true, List, [], ◌∷◌, ◌++◌, length, Some, slice_get, map, filter_map}
use Rattle.pb_text.specs.declared.mode.Mode.{Mode}
use Rattle.pb_text.specs.declared.mode.Mode.TheVariants.{Eager, Waiting}
use Rattle.pb_world.specs.Actions.{Action, Send, Recv, Enter, Leave, Collective, Sends, Receives, Enters, Leaves, kind_of, of_rank, sent_to, received_from, AnswerTable, Covers}
use Rattle.pb_world.specs.Machine.{Next, Silent, Does, Probe}
use Rattle.pb_world.specs.Family.{Family, IsInternal, IsSequential}

-- a message that wasn't received yet, and the mode of its send
pub record Message : Type 0 where
  pub label : ℕ
  pub words : List ℕ
  pub mode : Mode

-- the label and the words, which is what a receive gets
abbrev pub content : Message → ℕ × List ℕ
content m = (m.label, m.words)

pub record World (S : Type 0) : Type 0 where
  pub state : ℕ → S
  pub channel : ℕ → ℕ → List Message  -- from the first rank to the second, sent and not yet received
  pub entered : ℕ → List (Collective × List ℕ)  -- each collective that a rank has entered, with its words
  pub left : ℕ → ℕ  -- how many it has left
  pub mode : ℕ → Mode  -- the mode of its last entry

abbrev pub beginning : {S : Type 0} → Family S → World S
beginning F = record { state = F.start; channel = λ p q. []; entered = λ r. []; left = λ r. zero; mode = λ r. Eager }

-- a function with another value at one number
abbrev pub updated : {A : Type 0} → (ℕ → A) → ℕ → A → ℕ → A
updated f r x q = cond (q == r) x (f q)

-- no message of the list keeps its sender waiting
abbrev pub AllEager : List Message → Type 0
AllEager [] = Unit {0}
AllEager (m ∷ ms) = (m.mode ≡ Eager) × AllEager ms

-- the first message with the label, and the others
pub data Takes (label : ℕ) : List Message → Message → List Message → Type 0 where
  first : {m : Message} {ms : List Message} → m.label ≡ label → Takes label (m ∷ ms) m ms
  later : {m n : Message} {ms rest : List Message} → m.label ≢ label → Takes label ms n rest → Takes label (m ∷ ms) n (m ∷ rest)

module _ {S : Type 0} (F : Family S) (W : World S) where
  abbrev pub next_of : ℕ → Next
  next_of r = F.machine.next (W.state r)

  -- no rank has entered another collective as its k-th, where this rank enters this one as its k-th
  abbrev pub Agrees : ℕ → Collective → Type 0
  Agrees r j = (p : ℕ) → p < F.total → (entry : Collective × List ℕ) → slice_get (W.entered p) (length (W.entered r)) ≡ Some entry → entry.0 ≡ j

  -- each rank whose entry a rank needs has entered the collective that this one leaves, with these words
  abbrev pub HasEntered : ℕ → Collective → (ℕ → List ℕ) → Type 0
  HasEntered r j words = (p : ℕ) → p < F.total → F.needs j r p ≡ true → slice_get (W.entered p) (W.left r) ≡ Some (j, words p)

  -- all ranks have entered the collective that this one leaves
  abbrev pub AllEntered : ℕ → Type 0
  AllEntered r = (p : ℕ) → p < F.total → W.left r < length (W.entered p)

  -- ---- the world after an event of rank r, which is in state y then

  abbrev pub moved : ℕ → S → World S
  moved r y = record W { state = updated W.state r y }

  -- a message is appended to the channel to q
  abbrev pub posted : ℕ → S → ℕ → Message → World S
  posted r y q m = record W { state = updated W.state r y; channel = updated W.channel r (updated (W.channel r) q (W.channel r q ++ m ∷ [])) }

  -- a message was taken out of the channel from p, and these are left
  abbrev pub taken : ℕ → S → ℕ → List Message → World S
  taken r y p rest = record W { state = updated W.state r y; channel = updated W.channel p (updated (W.channel p) r rest) }

  -- it is in a collective
  abbrev pub inside : ℕ → S → Collective × List ℕ → Mode → World S
  inside r y entry mode = record W { state = updated W.state r y; entered = updated W.entered r (W.entered r ++ entry ∷ []); mode = updated W.mode r mode }

  -- it is out of it again
  abbrev pub outside : ℕ → S → World S
  outside r y = record W { state = updated W.state r y; left = updated W.left r (suc (W.left r)) }

  -- a rank of the world that waits for no message of its own to be taken
  pub record IsFree (r : ℕ) : Type 0 where
    pub within : r < F.total
    pub none : (q : ℕ) → q < F.total → AllEager (W.channel r q)

  -- One event: a step of one rank, with the actions that it is and the world behind it.
  -- What kernels answer is free, and so is the mode of a send or an entry.
  pub data Step (r : ℕ) : List Action → World S → Type 0 where
    silent : IsFree r → next_of r ≡ Silent → Step r [] (moved r (F.machine.quiet (W.state r)))
    probe : {p : ℕ} {m : Message} {rest : List Message} {y : S} → IsFree r → next_of r ≡ Probe p → W.channel p r ≡ m ∷ rest → F.machine.read (W.state r) m.label ≡ Some y → Step r [] (moved r y)
    internal : {a : Action} → IsFree r → next_of r ≡ Does (kind_of a) → IsInternal a → F.allowed r a ≡ true → Step r (a ∷ []) (moved r (F.machine.act (W.state r) a))
    send : {q label : ℕ} {words : List ℕ} (mode : Mode) → IsFree r → next_of r ≡ Does (Sends q label) → F.allowed r (Send q label words) ≡ true → Step r (Send q label words ∷ []) (posted r (F.machine.act (W.state r) (Send q label words)) q (record { label = label; words = words; mode = mode }))
    receive : {p label : ℕ} {m : Message} {rest : List Message} → IsFree r → next_of r ≡ Does (Receives p label) → Takes label (W.channel p r) m rest → Step r (Recv p label m.words ∷ []) (taken r (F.machine.act (W.state r) (Recv p label m.words)) p rest)
    enter : {j : Collective} {words : List ℕ} (mode : Mode) → IsFree r → next_of r ≡ Does (Enters j) → Agrees r j → F.allowed r (Enter j words) ≡ true → Step r (Enter j words ∷ []) (inside r (F.machine.act (W.state r) (Enter j words)) (j, words) mode)
    leave : {j : Collective} (words : ℕ → List ℕ) → IsFree r → next_of r ≡ Does (Leaves j) → HasEntered r j words → (W.mode r ≡ Waiting → AllEntered r) → Step r (Leave j (F.outcome j r words) ∷ []) (outside r (F.machine.act (W.state r) (Leave j (F.outcome j r words))))

  -- a rank has a step
  abbrev pub CanStep : ℕ → Type 0
  CanStep r = (acts : List Action) × (V : World S) × Step r acts V

-- The worlds that a run reaches, each with the actions that led there, in order
pub data Reached {S : Type 0} (F : Family S) : List (ℕ × Action) → World S → Type 0 where
  start : Reached F [] (beginning F)
  event : {w : List (ℕ × Action)} {W V : World S} {r : ℕ} {acts : List Action} → Reached F w W → Step F W r acts V → Reached F (w ++ map (λ a. (r, a)) acts) V

-- Each channel holds exactly what was sent and not yet received, in order
abbrev pub IsInFlight : List (ℕ × Action) → (ℕ → ℕ → List Message) → Type 0
IsInFlight w channel = (p q : ℕ) → filter_map (sent_to q) (of_rank p w) ≡ filter_map (received_from p) (of_rank q w) ++ map content (channel p q)

-- so it is where a sequential run covers what was done
abbrev pub InFlight : Type 0 → Type 0
InFlight S = (F : Family S) → IsSequential F → (A : AnswerTable) (m : ℕ) (w : List (ℕ × Action)) (W : World S) → Reached F w W → Covers (F.run A m) w → IsInFlight w W.channel
