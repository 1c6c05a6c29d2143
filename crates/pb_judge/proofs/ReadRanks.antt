-- The ranks of a log that was read.
use Rattle.std.proofs.Common.{◌<◌, ℕ, suc, List, [], ◌∷◌}
use Rattle.std.specs.List.{AllByRecursion}
use Rattle.pb_text.specs.declared.action.Action.{Action}
use Rattle.pb_text.specs.declared.action.Action.TheVariants.{Choose, Run, Send, Recv, Enter, Leave}
use Rattle.pb_world.specs.Log.{rank_of}
use Rattle.pb_local.specs.Tree.{Program}
use Rattle.pb_judge_log.specs.Entries.{IsTold, numbered_from}
use Rattle.pb_judge_ruling.specs.Laws.{HasRanks}
use Rattle.pb_judge.specs.Laws.{ReadLogsHaveRanks}

module _ (p : Program) (total : ℕ) where
  told_rank : (a : Action) → IsTold p total a → rank_of a < total
  told_rank (Choose rank kernel answer) h = h.0
  told_rank (Run rank kernel) h = h.0
  told_rank (Send rank to label words) h = h.0
  told_rank (Recv rank from label words) h = h.0
  told_rank (Enter rank what words) h = h.0
  told_rank (Leave rank what words) h = h.0

  told_ranks : (before : ℕ) (actions : List Action) → AllByRecursion (IsTold p total) actions → HasRanks total (numbered_from before actions)
  told_ranks before [] h = tt
  told_ranks before (a ∷ actions) h = (told_rank a h.0, told_ranks (suc before) actions h.1)

pub read_logs_have_ranks : ReadLogsHaveRanks
read_logs_have_ranks p total bytes actions log = told_ranks p total 0 actions log.1.each
