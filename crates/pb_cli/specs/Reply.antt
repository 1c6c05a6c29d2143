-- What the words may name, and what words in no form are answered.
use Rattle.std.specs.Prelude.{◌≡◌, ℕ, Bool, List, Option, Some, None}
use Rattle.pb_io.specs.Files.{File, IsSureOf}
use Rattle.pb_cli_words.specs.Request.{Request, check, gen, gen_with, project, sim, replay, run, demo, expand, strips, cost, judge}
use Rattle.pb_cli_status.specs.Lines.{line_of}
use Rattle.pb_cli_status.specs.declared.refusal.Refusal.TheVariants as refusal
use Rattle.pb_cli_status.specs.declared.status.Status.{Status}
use Rattle.pb_cli_status.specs.declared.status.Status.TheVariants as S

-- words in no form
abbrev pub IsUsage : Status → List ℕ → Type 0
IsUsage S.Usage text = text ≡ line_of refusal.Usage
IsUsage S.NoMemory text = text ≡ line_of refusal.NoMemory
IsUsage other text = ⊥

-- a steady folder that holds each file that the words name
abbrev pub IsSureOfForm : Option Request → Bool → Option (List File) → Type 0
IsSureOfForm None steady holds = ⊥
IsSureOfForm (Some (check name)) steady holds = IsSureOf steady holds name
IsSureOfForm (Some (gen name)) steady holds = IsSureOf steady holds name
IsSureOfForm (Some (gen_with name kernels)) steady holds = IsSureOf steady holds name × IsSureOf steady holds kernels
IsSureOfForm (Some (project name)) steady holds = IsSureOf steady holds name
IsSureOfForm (Some (sim name options)) steady holds = IsSureOf steady holds name
IsSureOfForm (Some (replay name schedule n)) steady holds = IsSureOf steady holds name × IsSureOf steady holds schedule
IsSureOfForm (Some (run name options)) steady holds = IsSureOf steady holds name
IsSureOfForm (Some (demo count)) steady holds = Unit {0}
IsSureOfForm (Some (expand name)) steady holds = IsSureOf steady holds name
IsSureOfForm (Some (strips name)) steady holds = IsSureOf steady holds name
IsSureOfForm (Some (cost name)) steady holds = IsSureOf steady holds name
IsSureOfForm (Some (judge name log n)) steady holds = IsSureOf steady holds name × IsSureOf steady holds log
