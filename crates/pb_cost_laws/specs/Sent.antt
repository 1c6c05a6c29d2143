-- How much a sequential run sends: how many messages, or how many words in them; and the least and the most of that, over
-- the runs under all answers.
--
-- At N = 3 the part
--     choice K at W[0] { B(int32[2]) from W[0] to W[i:1..N-1]; C() from W[1] to W[0]; } or { D() from W[0] to W[1]; }
-- sends 3 messages and 4 words, or 1 message and no word. So 1 is the least and 3 the most of its messages.
--
-- w is the setting, and k is a number of messages or words.
use Rattle.std.specs.Prelude.{◌≡◌, ℕ, ◌+◌, ◌≤◌, true, List, [], ◌∷◌, length, min, max}
use Rattle.pb_world.specs.Actions.{Action, Choose, Run, Send, Recv, Enter, Leave, AnswerTable}
use Rattle.pb_core_language.specs.Flat.{Block}
use Rattle.pb_core_language.specs.Run.{Setting, seq, is_over}

-- what is counted of a message: that it is one, or its words
pub data Counted : Type 0 where
  Messages : Counted
  Words : Counted

abbrev pub of_words : Counted → List ℕ → ℕ
of_words Messages words = 1
of_words Words words = length words

-- what a collective moves is no message
abbrev pub sent : Counted → Action → ℕ
sent what (Send to label words) = of_words what words
sent what (Choose kernel branches branch) = 0
sent what (Run kernel) = 0
sent what (Recv from label words) = 0
sent what (Enter collective words) = 0
sent what (Leave collective words) = 0

abbrev pub sent_in : Counted → List (ℕ × Action) → ℕ
sent_in what [] = 0
sent_in what (e ∷ actions) = sent what e.1 + sent_in what actions

-- under some answers a run of this block has ended, and has sent so much
pub record Sends (w : Setting) (what : Counted) (block : Block) (k : ℕ) : Type 0 where
  pub answers : AnswerTable
  pub steps : ℕ
  pub over : is_over w block answers steps ≡ true
  pub is : sent_in what (seq w block answers steps) ≡ k

-- the least or the most
pub data Way : Type 0 where
  Least : Way
  Most : Way

abbrev pub picked : Way → ℕ → ℕ → ℕ
picked Least x y = min x y
picked Most x y = max x y

abbrev pub Within : Way → ℕ → ℕ → Type 0
Within Least x y = x ≤ y
Within Most x y = y ≤ x

-- of the numbers with this property k is the least, or the most
pub record IsExtreme (way : Way) (P : ℕ → Type 0) (k : ℕ) : Type 0 where
  pub reached : P k
  pub bound : (j : ℕ) → P j → Within way k j
