-- What ranks do: actions, lists of them, one rank's part of a list, and the answers that its kernels gave.
use Rattle.std.specs.Prelude.{◌≡◌, ℕ, ◌==◌, cond, List, [], ◌∷◌, ◌++◌, Option, Some, None, filter_map}

-- how words are combined, word by word
pub data Operation : Type 0 where
  Max : Operation
  Min : Operation
  Sum : Operation

-- A collective call, with all that the ranks have to agree on
pub data Collective : Type 0 where
  Barrier : Collective
  Broadcast : (label root : ℕ) → Collective
  Reduce : (label : ℕ) (operation : Operation) (root : ℕ) → Collective
  Allreduce : (label : ℕ) (operation : Operation) → Collective

-- One action of one rank, in full: a choice says among how many branches it was
pub data Action : Type 0 where
  Choose : (kernel branches branch : ℕ) → Action
  Run : (kernel : ℕ) → Action
  Send : (to label : ℕ) (words : List ℕ) → Action
  Recv : (from label : ℕ) (words : List ℕ) → Action
  Enter : (collective : Collective) (words : List ℕ) → Action
  Leave : (collective : Collective) (words : List ℕ) → Action

-- An action without what a kernel or another rank puts into it
pub data Kind : Type 0 where
  Chooses : (kernel branches : ℕ) → Kind
  Runs : (kernel : ℕ) → Kind
  Sends : (to label : ℕ) → Kind
  Receives : (from label : ℕ) → Kind
  Enters : (collective : Collective) → Kind
  Leaves : (collective : Collective) → Kind

abbrev pub kind_of : Action → Kind
kind_of (Choose kernel branches branch) = Chooses kernel branches
kind_of (Run kernel) = Runs kernel
kind_of (Send to label words) = Sends to label
kind_of (Recv from label words) = Receives from label
kind_of (Enter collective words) = Enters collective
kind_of (Leave collective words) = Leaves collective

-- ---- one rank's part of a list of actions

abbrev pub done_by : ℕ → ℕ × Action → Option Action
done_by r step = cond (step.0 == r) (Some step.1) None

abbrev pub of_rank : ℕ → List (ℕ × Action) → List Action
of_rank r = filter_map (done_by r)

-- the first list begins the second
abbrev pub IsPrefixOf : {A : Type 0} → List A → List A → Type 0
IsPrefixOf {A} xs ys = (rest : List A) × (xs ++ rest ≡ ys)

-- g covers w where each rank's actions in w begin its actions in g
abbrev pub Covers : List (ℕ × Action) → List (ℕ × Action) → Type 0
Covers g w = (r : ℕ) → IsPrefixOf (of_rank r w) (of_rank r g)

-- ---- what an action shows to other ranks

-- the label and the words of a message to this rank
abbrev pub sent_to : ℕ → Action → Option (ℕ × List ℕ)
sent_to q (Send to label words) = cond (to == q) (Some (label, words)) None
sent_to q (Choose kernel branches branch) = None
sent_to q (Run kernel) = None
sent_to q (Recv from label words) = None
sent_to q (Enter collective words) = None
sent_to q (Leave collective words) = None

-- the label and the words of a message from this rank
abbrev pub received_from : ℕ → Action → Option (ℕ × List ℕ)
received_from p (Recv from label words) = cond (from == p) (Some (label, words)) None
received_from p (Choose kernel branches branch) = None
received_from p (Run kernel) = None
received_from p (Send to label words) = None
received_from p (Enter collective words) = None
received_from p (Leave collective words) = None

-- the collective that is entered, with the rank's words
abbrev pub entered_in : Action → Option (Collective × List ℕ)
entered_in (Enter collective words) = Some (collective, words)
entered_in (Choose kernel branches branch) = None
entered_in (Run kernel) = None
entered_in (Send to label words) = None
entered_in (Recv from label words) = None
entered_in (Leave collective words) = None

-- the collective that is left, with the words that the rank got
abbrev pub left_in : Action → Option (Collective × List ℕ)
left_in (Leave collective words) = Some (collective, words)
left_in (Choose kernel branches branch) = None
left_in (Run kernel) = None
left_in (Send to label words) = None
left_in (Recv from label words) = None
left_in (Enter collective words) = None

-- ---- what kernels answer

-- the branch of a choice
abbrev pub branch_in : Action → Option ℕ
branch_in (Choose kernel branches branch) = Some branch
branch_in (Run kernel) = None
branch_in (Send to label words) = None
branch_in (Recv from label words) = None
branch_in (Enter collective words) = None
branch_in (Leave collective words) = None

abbrev pub some_words : List ℕ → Option (List ℕ)
some_words [] = None
some_words (word ∷ words) = Some (word ∷ words)

-- the words of a send, also where it has none, and those of an entry that has some
abbrev pub words_in : Action → Option (List ℕ)
words_in (Send to label words) = Some words
words_in (Enter collective words) = some_words words
words_in (Choose kernel branches branch) = None
words_in (Run kernel) = None
words_in (Recv from label words) = None
words_in (Leave collective words) = None

-- The answers of one rank's kernels, in order: the branches of its choices, and the words that it makes
pub record Answers : Type 0 where
  pub branches : List ℕ
  pub words : List (List ℕ)

abbrev pub AnswerTable : Type 0
AnswerTable = ℕ → Answers

abbrev pub answer_of : List Action → Answers
answer_of s = record { branches = filter_map branch_in s; words = filter_map words_in s }

-- the answers that a list of actions used
abbrev pub answers_of : List (ℕ × Action) → AnswerTable
answers_of w r = answer_of (of_rank r w)

-- what these actions used begins what is there
pub record IsAnswered (s : List Action) (answers : Answers) : Type 0 where
  pub branches : IsPrefixOf (filter_map branch_in s) answers.branches
  pub words : IsPrefixOf (filter_map words_in s) answers.words
