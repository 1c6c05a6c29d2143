-- What holds of logs that were read.
use Rattle.std.specs.Prelude.{ℕ, List}
use Rattle.pb_text.specs.declared.action.Action.{Action}
use Rattle.pb_local.specs.Tree.{Program}
use Rattle.pb_judge_log.specs.Entries.{IsLog, numbered}
use Rattle.pb_judge_ruling.specs.Laws.{HasRanks}

-- each entry of a log of so many ranks is of one of them
abbrev pub ReadLogsHaveRanks : Type 0
ReadLogsHaveRanks = (p : Program) (total : ℕ) (bytes : List ℕ) (actions : List Action) → IsLog p total bytes actions → HasRanks total (numbered actions)
