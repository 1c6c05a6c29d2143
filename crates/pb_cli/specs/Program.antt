-- What the program answers to the words after its name.
use Rattle.std.specs.Prelude.{ℕ, Bool, List, Option, Some, None}
use Rattle.pb_io.specs.Files.{File, IsSureOf}
use Rattle.pb_cli_words.specs.Request.{Request, check, gen, gen_with, project, sim, replay, run, demo, expand, strips, cost, judge}
use Rattle.pb_cli_simulate.specs.Commands.{SaysSim, SaysReplay}
use Rattle.pb_cli_status.specs.declared.status.Status.{Status}
use Rattle.pb_cli_demo.specs.Demo.{SaysDemo}
use Rattle.pb_cli_expand.specs.Expand.{IsExpandReply}
use Rattle.pb_cli_strips.specs.Strips.{IsStripsReply}
use Rattle.pb_cli_cost.specs.Cost.{IsCostReply}
use Rattle.pb_cli_judge.specs.Judge.{IsJudgedFile, IsJudgeReply}
use Rattle.pb_cli_file.specs.declared.answer.Wanted.TheVariants as W
use Rattle.pb_cli_file.specs.Files.{IsAcceptedFile, IsFileReply, Makes, OrUnread, SaysOf}
use Rattle.pb_cli_file.specs.Kernels.{IsMergeReply}
use Rattle.pb_cli.specs.Reply.{IsUsage}
use Rattle.pb_cli_run.specs.Run.{SaysRun}

-- What is said where words ask for this, but for a write that failed: a status and a text that belong to the words and the
-- files. Simulations take their words from `post`, by seed, rank and number, and `unread` says of which file it can be that it
-- couldn't be read
abbrev pub SaysReply : (ℕ → ℕ → ℕ → ℕ → Type 0) → (List ℕ → Type 0) → Option Request → Option (List File) → Status → Option (List ℕ) → Option (List ℕ) → Type 0
SaysReply post unread None holds result old new = SaysOf IsUsage result old new
SaysReply post unread (Some (check name)) holds result old new = SaysOf (OrUnread (unread name) (IsFileReply (Makes W.Verdict) name holds)) result old new
SaysReply post unread (Some (gen name)) holds result old new = SaysOf (OrUnread (unread name) (IsFileReply (Makes W.Text) name holds)) result old new
SaysReply post unread (Some (gen_with name kernels)) holds result old new = SaysOf (IsMergeReply name kernels holds) result old new
SaysReply post unread (Some (project name)) holds result old new = SaysOf (OrUnread (unread name) (IsFileReply (Makes W.Layout) name holds)) result old new
SaysReply post unread (Some (sim name options)) holds result old new = SaysSim post unread name options holds result old new
SaysReply post unread (Some (replay name schedule n)) holds result old new = SaysReplay post unread name schedule n holds result old new
SaysReply post unread (Some (run name options)) holds result old new = SaysRun post unread name options holds result old new
SaysReply post unread (Some (demo count)) holds result old new = SaysDemo (post count) count result old new
SaysReply post unread (Some (expand name)) holds result old new = SaysOf (OrUnread (unread name) (IsExpandReply name holds)) result old new
SaysReply post unread (Some (strips name)) holds result old new = SaysOf (OrUnread (unread name) (IsStripsReply name holds)) result old new
SaysReply post unread (Some (cost name)) holds result old new = SaysOf (IsCostReply unread name holds) result old new
SaysReply post unread (Some (judge name log n)) holds result old new = SaysOf (IsJudgeReply unread name log n holds) result old new

-- What is so where a file can't be read. A kernel file is read only where the protocol file is accepted, and a log only where N is
-- one of its range with at most 1,024 ranks, too: so where a steady folder holds the protocol file, it is
abbrev pub ReadsOn : Option Request → Bool → Option (List File) → Type 0
ReadsOn None steady holds = Unit {0}
ReadsOn (Some (check name)) steady holds = Unit {0}
ReadsOn (Some (gen name)) steady holds = Unit {0}
ReadsOn (Some (gen_with name kernels)) steady holds = IsSureOf steady holds name → IsAcceptedFile name holds
ReadsOn (Some (project name)) steady holds = Unit {0}
ReadsOn (Some (sim name options)) steady holds = Unit {0}
ReadsOn (Some (replay name schedule n)) steady holds = Unit {0}
ReadsOn (Some (run name options)) steady holds = Unit {0}
ReadsOn (Some (demo count)) steady holds = Unit {0}
ReadsOn (Some (expand name)) steady holds = Unit {0}
ReadsOn (Some (strips name)) steady holds = Unit {0}
ReadsOn (Some (cost name)) steady holds = Unit {0}
ReadsOn (Some (judge name log n)) steady holds = IsSureOf steady holds name → IsJudgedFile name n holds
