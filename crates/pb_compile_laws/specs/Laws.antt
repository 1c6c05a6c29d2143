-- What the core of an accepted file keeps.
use Rattle.std.specs.Prelude.{ℕ, ◌≤◌, List}
use Rattle.pb_syntax.specs.Tree.{PlainFile}
use Rattle.pb_core_language.specs.Meaning.{meaning}
use Rattle.pb_core_language.specs.Verdict.{IsAccepted}
use Rattle.pb_parse_laws.specs.Laws.{IsTreeOf}
use Rattle.pb_core_endpoint.specs.Core.{IsProper}
use Rattle.pb_shape.specs.Sizes.{room_all, depth_all}
use Rattle.pb_shape.specs.Tabled.{IsTabled}
use Rattle.pb_compile_laws.specs.Messages.{messages_in}

-- the core keeps the rules on scopes and ends
abbrev pub FileIsProper : Type 0
FileIsProper = (bytes : List ℕ) (file : PlainFile) → IsTreeOf bytes file → IsAccepted file → IsProper (meaning file)

-- 12 statements of text for each of the 4,000 of the file, and a brace for each of the 64 that may be open in it
abbrev pub FileIsSmall : Type 0
FileIsSmall = (bytes : List ℕ) (file : PlainFile) → IsTreeOf bytes file → (room_all (meaning file).body.block ≤ 48000) × (depth_all (meaning file).body.block ≤ 64)

-- a message is a statement of the file, of which there are 4,000 at most
abbrev pub FileHasFewMessages : Type 0
FileHasFewMessages = (bytes : List ℕ) (file : PlainFile) → IsTreeOf bytes file → messages_in (meaning file).body.block ≤ 4000

-- its names, payloads, kernels and roles are as a text wants them
abbrev pub FileIsTabled : Type 0
FileIsTabled = (bytes : List ℕ) (file : PlainFile) → IsTreeOf bytes file → IsAccepted file → IsTabled (meaning file)
