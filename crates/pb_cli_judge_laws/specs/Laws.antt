-- The logs that `run` writes, and how they are ruled.
--
-- file has the bytes of an accepted file, p is its protocol, tree one of those that may be printed for it, n is N, and text is what
-- `run` wrote. post tells what the answer function answers: for a seed, a rank and a number, a word.
use Rattle.std.specs.Prelude.{◌≡◌, ◌≢◌, ℕ, ◌<◌, ◌≤◌, ◌^◌, ◌⊎◌, pos, List, Some}
use Rattle.pb_text.specs.declared.action.Action.{Action}
use Rattle.pb_text.specs.declared.limits.TheConstants.{MOST_EVENTS}
use Rattle.pb_io.specs.Files.{File, content_of}
use Rattle.pb_core_language.specs.Collectives.{setting_of}
use Rattle.pb_core_language.specs.FlatOf.{flat}
use Rattle.pb_core_language.specs.Plain.{Protocol}
use Rattle.pb_core_language.specs.Ranks.{total}
use Rattle.pb_ctree.specs.declared.tree.CTree.{CTree}
use Rattle.pb_compile.specs.Compiled.{IsCompiled}
use Rattle.pb_sim_play.specs.Plans.{Source}
use Rattle.pb_judge_log.specs.Entries.{IsBadLine, IsLog, numbered, tables_of}
use Rattle.pb_judge_ruling.specs.Laws.{IsCovered}
use Rattle.pb_judge_ruling.specs.declared.ruling.Ruling.{Ruling}
use Rattle.pb_judge_ruling.specs.declared.ruling.Ruling.TheVariants.{Whole, Covered}
use Rattle.pb_cli_words.specs.declared.options.Shown.TheVariants.{Log}
use Rattle.pb_cli_status.specs.declared.status.Status.{Status}
use Rattle.pb_cli_status.specs.declared.status.Status.TheVariants as S
use Rattle.pb_cli_file.specs.Files.{MayRun}
use Rattle.pb_cli_run.specs.Run.{IsRunReply}
use Rattle.pb_cli_judge.specs.Judge.{IsJudgeAnswer, IsRuledAs}

-- each word that is answered fits 32 bits
abbrev pub AnswersFit : (ℕ → ℕ → ℕ → Type 0) → Type 0
AnswersFit answered = (rank number word : ℕ) → answered rank number word → word < 2 ^ 32

-- The bytes are a log of the protocol at this N, of which no line is malformed. Some steps of the sequential run cover it, and each
-- ruling on it is whole or covered
pub record IsKept (p : Protocol) (n : ℕ) (text : List ℕ) : Type 0 where
  pub actions : List Action
  pub log : IsLog (tables_of p) (total p.roles (pos n)) text actions
  pub fine : (line : ℕ) → IsBadLine (tables_of p) (total p.roles (pos n)) text line → ⊥
  pub covered : IsCovered (setting_of p (pos n)) (flat p.roles (pos n) p.body.block) (numbered actions)
  pub ruled : (x : Ruling) → IsRuledAs p n text x → (x ≡ Whole) ⊎ (x ≡ Covered)

-- What `run` writes without `--schedule`, whatever its status, is kept at each N at which the protocol can be run; and where all was
-- done, it is whole
pub record LogsAreRuled (post : ℕ → ℕ → ℕ → ℕ → Type 0) : Type 0 where
  pub kept : (file : List ℕ) (p : Protocol) (tree : CTree) (n seed most : ℕ) (source : Source) (status : Status) (text : List ℕ) → IsCompiled file p tree → MayRun p n → AnswersFit (post seed) →
      most ≤ MOST_EVENTS → IsRunReply p tree n (post seed) source most Log seed status text → IsKept p n text
  pub whole : (file : List ℕ) (p : Protocol) (tree : CTree) (n seed most : ℕ) (source : Source) (text : List ℕ) → IsCompiled file p tree → MayRun p n → AnswersFit (post seed) →
      IsRunReply p tree n (post seed) source most Log seed S.Done text → IsRuledAs p n text Whole

-- `judge` never tells of a log that is kept that it differs, goes beyond or is malformed
abbrev pub KeptLogsAreNotRefused : Type 0
KeptLogsAreNotRefused =
    (p : Protocol) (n : ℕ) (files : List File) (log line : List ℕ) (status : Status) → IsKept p n (content_of files log) → IsJudgeAnswer (λ name. Unit {0}) p n log (Some files) status line →
    (status ≢ S.NotCovered) × (status ≢ S.Log)
