-- Logs: the actions as programs record them. A log says less than the actions in full: of a choice the branch alone,
-- and of a collective its label. One map leads from the actions to the log.
use Rattle.std.specs.Prelude.{◌≡◌, ℕ, ◌==◌, cond, List, Option, Some, None, map, filter_map}
use Rattle.pb_text.specs.declared.action.Action.{Action as Entry}
use Rattle.pb_text.specs.declared.action.Action.TheVariants as E
use Rattle.pb_text.specs.declared.action.Joint.{Joint}
use Rattle.pb_text.specs.declared.action.Joint.TheVariants as J
use Rattle.pb_world.specs.Actions.{Action, Choose, Run, Send, Recv, Enter, Leave, Collective, Barrier, Broadcast, Reduce, Allreduce, of_rank, some_words, AnswerTable, answers_of, IsPrefixOf, Covers}

abbrev pub known_by : Collective → Joint
known_by Barrier = J.Barrier
known_by (Broadcast label root) = J.Labelled label
known_by (Reduce label operation root) = J.Labelled label
known_by (Allreduce label operation) = J.Labelled label

-- an action of a rank as it is recorded
abbrev pub recorded : ℕ → Action → Entry
recorded r (Choose kernel branches branch) = E.Choose r kernel branch
recorded r (Run kernel) = E.Run r kernel
recorded r (Send to label words) = E.Send r to label words
recorded r (Recv from label words) = E.Recv r from label words
recorded r (Enter collective words) = E.Enter r (known_by collective) words
recorded r (Leave collective words) = E.Leave r (known_by collective) words

abbrev pub log_of : List (ℕ × Action) → List Entry
log_of w = map (λ step. recorded step.0 step.1) w

-- ---- one rank's part of a log, and its answers

abbrev pub rank_of : Entry → ℕ
rank_of (E.Choose rank kernel answer) = rank
rank_of (E.Run rank kernel) = rank
rank_of (E.Send rank to label words) = rank
rank_of (E.Recv rank from label words) = rank
rank_of (E.Enter rank what words) = rank
rank_of (E.Leave rank what words) = rank

abbrev pub entry_by : ℕ → Entry → Option Entry
entry_by r e = cond (rank_of e == r) (Some e) None

abbrev pub log_of_rank : ℕ → List Entry → List Entry
log_of_rank r = filter_map (entry_by r)

-- each rank's entries in the second log begin its entries in the first
abbrev pub LogCovers : List Entry → List Entry → Type 0
LogCovers g w = (r : ℕ) → IsPrefixOf (log_of_rank r w) (log_of_rank r g)

abbrev pub branch_recorded : Entry → Option ℕ
branch_recorded (E.Choose rank kernel answer) = Some answer
branch_recorded (E.Run rank kernel) = None
branch_recorded (E.Send rank to label words) = None
branch_recorded (E.Recv rank from label words) = None
branch_recorded (E.Enter rank what words) = None
branch_recorded (E.Leave rank what words) = None

abbrev pub words_recorded : Entry → Option (List ℕ)
words_recorded (E.Send rank to label words) = Some words
words_recorded (E.Enter rank what words) = some_words words
words_recorded (E.Choose rank kernel answer) = None
words_recorded (E.Run rank kernel) = None
words_recorded (E.Recv rank from label words) = None
words_recorded (E.Leave rank what words) = None

-- the answers that a log shows
abbrev pub log_answers : List Entry → AnswerTable
log_answers log r = record { branches = filter_map branch_recorded (log_of_rank r log); words = filter_map words_recorded (log_of_rank r log) }

-- The map keeps what is said of one rank
pub record LogLaws : Type 0 where
  pub rank : (w : List (ℕ × Action)) (r : ℕ) → log_of_rank r (log_of w) ≡ map (recorded r) (of_rank r w)
  pub covers : (g w : List (ℕ × Action)) → Covers g w → LogCovers (log_of g) (log_of w)
  pub answers : (w : List (ℕ × Action)) (r : ℕ) → log_answers (log_of w) r ≡ answers_of w r
