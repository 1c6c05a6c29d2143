-- The machines of all ranks beside the sequential runs for all answers, and the laws that tie them.
use Rattle.std.specs.Prelude.{◌≡◌, ◌≢◌, ℕ, zero, suc, ◌<◌, ◌≤◌, Bool, true, false, List, [], ◌∷◌, ◌++◌, ◌⊎◌, filter_map}
use Rattle.pb_world.specs.Actions.{Action, Choose, Run, Send, Recv, Enter, Leave, Collective, kind_of, of_rank, sent_to, received_from, AnswerTable, IsAnswered, IsPrefixOf}
use Rattle.pb_world.specs.Machine.{Machine, Follows}

pub record Family (S : Type 0) : Type 0 where
  pub total : ℕ  -- the ranks are the numbers below it
  pub machine : Machine S
  pub start : ℕ → S
  pub allowed : ℕ → Action → Bool  -- whether a rank may do this: a branch that is there, words of the right length
  pub needs : Collective → ℕ → ℕ → Bool  -- whether a rank (first) needs another's entry to leave the collective
  pub outcome : Collective → ℕ → (ℕ → List ℕ) → List ℕ  -- the words with which a rank leaves, by what each entered with
  pub run : AnswerTable → ℕ → List (ℕ × Action)  -- the actions of so many steps of the sequential run
  pub over : AnswerTable → ℕ → Bool  -- whether it has ended by then

-- the same family with other machines
abbrev pub on_machine : {S D : Type 0} → Family S → Machine D → (ℕ → D) → Family D
on_machine F machine start = record {
  total = F.total;
  machine = machine;
  start = start;
  allowed = F.allowed;
  needs = F.needs;
  outcome = F.outcome;
  run = F.run;
  over = F.over;
}

-- an action that no other rank takes part in
pub data IsInternal : Action → Type 0 where
  choosing : {kernel branches branch : ℕ} → IsInternal (Choose kernel branches branch)
  running : {kernel : ℕ} → IsInternal (Run kernel)

-- an action whose branch or words, if it has any, come from the rank's own kernel
pub data IsOwn : Action → Type 0 where
  own_internal : {a : Action} → IsInternal a → IsOwn a
  own_send : {to label : ℕ} {words : List ℕ} → IsOwn (Send to label words)
  own_enter : {j : Collective} {words : List ℕ} → IsOwn (Enter j words)

-- one action of each rank below n, ascending
abbrev pub each : ℕ → (ℕ → Action) → List (ℕ × Action)
each zero f = []
each (suc n) f = each n f ++ (n, f n) ∷ []

-- the actions of one step of the sequential run
pub data Statement {S : Type 0} (F : Family S) : List (ℕ × Action) → Type 0 where
  nothing : Statement F []
  internal : {r : ℕ} {a : Action} → r < F.total → IsInternal a → Statement F ((r, a) ∷ [])
  message : {p q label : ℕ} {words : List ℕ} → p < F.total → q < F.total → p ≢ q → Statement F ((p, Send q label words) ∷ (q, Recv p label words) ∷ [])
  joint : (j : Collective) (words : ℕ → List ℕ) → Statement F (each F.total (λ p. Enter j (words p)) ++ each F.total (λ p. Leave j (F.outcome j p words)))

-- the run begins with nothing, and each step adds the actions of one statement
pub record IsSequential {S : Type 0} (F : Family S) : Type 0 where
  pub starts : (A : AnswerTable) → F.run A zero ≡ []
  pub steps : (A : AnswerTable) (m : ℕ) → (st : List (ℕ × Action)) × Statement F st × (F.run A (suc m) ≡ F.run A m ++ st)

-- What ties the machines to the sequential runs
pub record Laws {S : Type 0} (F : Family S) : Type 0 where
  pub sequential : IsSequential F
  -- each rank's machine follows its part of the run
  pub follows : (A : AnswerTable) (m r : ℕ) → r < F.total → Follows F.machine (F.allowed r) (F.start r) (of_rank r (F.run A m)) false
  -- then it ends, or the run has more for it
  pub goes_on : (A : AnswerTable) (m r : ℕ) → r < F.total → Follows F.machine (F.allowed r) (F.start r) (of_rank r (F.run A m)) true ⊎ ((n : ℕ) × (a : Action) × (s : List Action) × (of_rank r (F.run A n) ≡ of_rank r (F.run A m) ++ a ∷ s))
  -- the run ends, or has more for some rank
  pub goes_over : (A : AnswerTable) (m : ℕ) → ((n : ℕ) × (m ≤ n) × (F.over A n ≡ true)) ⊎ ((n : ℕ) × (r : ℕ) × (a : Action) × (s : List Action) × (r < F.total) × (of_rank r (F.run A n) ≡ of_rank r (F.run A m) ++ a ∷ s))
  -- an answer that is there, and is allowed, is used
  pub answered : (A : AnswerTable) (m r : ℕ) (s : List Action) (a : Action) (t : List Action) (b : Action) → r < F.total → of_rank r (F.run A m) ≡ s ++ a ∷ t → kind_of a ≡ kind_of b → IsOwn b → F.allowed r b ≡ true → IsAnswered (s ++ b ∷ []) (A r) → a ≡ b
  -- the words with which a rank leaves depend on the entries that it needs alone
  pub depends : (j : Collective) (r : ℕ) (f g : ℕ → List ℕ) → ((p : ℕ) → p < F.total → F.needs j r p ≡ true → f p ≡ g p) → F.outcome j r f ≡ F.outcome j r g

-- ---- laws of sequential runs

-- what a run has done, a longer run begins with
abbrev pub RunsBegin : Type 0 → Type 0
RunsBegin S = (F : Family S) → IsSequential F → (A : AnswerTable) (m n : ℕ) → m ≤ n → IsPrefixOf (F.run A m) (F.run A n)

-- what a rank receives from another is what that one sends to it, in order, with the same labels and words
abbrev pub ReceivesAreSends : Type 0 → Type 0
ReceivesAreSends S = (F : Family S) → IsSequential F → (A : AnswerTable) (m p q : ℕ) → filter_map (received_from p) (of_rank q (F.run A m)) ≡ filter_map (sent_to q) (of_rank p (F.run A m))
