-- What the program's values stand for.
use Rattle.std.specs.Prelude.{ℕ, List, map}
use Rattle.pb_world.specs.Actions as W
use Rattle.pb_plain.specs.View.{collective_of}
use Rattle.pb_plain_run.specs.Used.{table}
use Rattle.pb_plain_run.specs.declared.answers.Answers.{Answers}
use Rattle.pb_plain_run.specs.declared.answers.Left.{Left}
use Rattle.pb_plain_run.specs.declared.answers.Remaining.{Remaining}
use Rattle.pb_plain_run.specs.declared.action.FullAction.{FullAction}
use Rattle.pb_plain_run.specs.declared.action.FullAction.TheVariants as F
use Rattle.pb_plain_run.specs.declared.action.RankAction.{RankAction}

abbrev pub answers_of : Answers → W.Answers
answers_of a = record { branches = a.branches.items; words = a.words.items }

-- the table of these answers, from rank 0 on
abbrev pub table_of : List Answers → W.AnswerTable
table_of list = table (map answers_of list)

abbrev pub left_of : Left → W.Answers
left_of a = record { branches = a.branches.now; words = a.words.now }

abbrev pub left_table : List Left → W.AnswerTable
left_table list = table (map left_of list)

abbrev pub remaining : Remaining → W.AnswerTable
remaining r = left_table r.ranks.items

abbrev pub full_action : FullAction → W.Action
full_action (F.Choose kernel branches branch) = W.Choose kernel branches branch
full_action (F.Run kernel) = W.Run kernel
full_action (F.Send to label words) = W.Send to label words
full_action (F.Recv from label words) = W.Recv from label words
full_action (F.Enter joint words) = W.Enter (collective_of joint) words
full_action (F.Leave joint words) = W.Leave (collective_of joint) words

abbrev pub action_of : RankAction → ℕ × W.Action
action_of a = (a.rank, full_action a.action)

abbrev pub actions_of : List RankAction → List (ℕ × W.Action)
actions_of list = map action_of list
