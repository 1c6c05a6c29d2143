-- What an accepted file has that `cost_of` asks for.
use Rattle.std.specs.Prelude.{ℕ, List}
use Rattle.pb_syntax.specs.Tree.{PlainFile}
use Rattle.pb_core_language.specs.Meaning.{meaning}
use Rattle.pb_core_language.specs.Verdict.{IsAccepted}
use Rattle.pb_parse_laws.specs.Laws.{IsTreeOf}
use Rattle.pb_cost.specs.Costs.{IsCountable}

-- 4,000 messages of 1,024 words are 4,096,000
abbrev pub FileIsCountable : Type 0
FileIsCountable = (bytes : List ℕ) (file : PlainFile) → IsTreeOf bytes file → IsAccepted file → IsCountable (meaning file)
