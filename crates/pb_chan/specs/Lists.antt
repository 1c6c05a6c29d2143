-- The list of messages from one rank to another.
use Rattle.std.specs.Prelude.{◌≡◌, ◌<◌, ◌≤◌, ℕ, suc, ◌&&◌, ◌⊎◌, List, [], ◌∷◌, Option, Some, None, nat_eq, length, if◌then◌else◌}
use Rattle.std.specs.List.{sum_by}
use Rattle.pb_chan.specs.declared.message.Message.{Message}

-- for a sender and a receiver, what was sent and not taken, in order
abbrev pub Entry : Type 0
Entry = (ℕ × ℕ) × List Message

-- what p sent to q and q didn't take, in order
abbrev pub messages : List Entry → ℕ → ℕ → List Message
messages [] p q = []
messages (e ∷ es) p q = if nat_eq p e.0.0 && nat_eq q e.0.1 then e.1 else messages es p q

abbrev pub label_of : List Message → Option ℕ
label_of [] = None
label_of (m ∷ ms) = Some m.label

-- the position of the first message with the label, in a list that begins at position i
abbrev pub position : ℕ → ℕ → List Message → Option ℕ
position label i [] = None
position label i (m ∷ ms) = if nat_eq label m.label then Some i else position label (suc i) ms

abbrev pub words_of : List Message → ℕ
words_of ms = sum_by (λ m. length m.words) ms

-- the number of words in all lists
abbrev pub words_in : List Entry → ℕ
words_in es = sum_by (λ e. words_of e.1) es

-- of the lists that aren't empty, the one with the least receiver, and of these the one with the least sender, begins with the label
pub record IsFirstLeft (es : List Entry) (receiver sender label : ℕ) : Type 0 where
  pub begins : label_of (messages es sender receiver) ≡ Some label
  pub least : (p q : ℕ) → (messages es p q ≡ [] → ⊥) → (receiver < q) ⊎ ((receiver ≡ q) × (sender ≤ p))
