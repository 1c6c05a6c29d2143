-- What a file has that was parsed within the limits.
use Rattle.std.specs.Prelude.{◌≡◌, ℕ, ◌≤◌, true, List, length, None}
use Rattle.pb_text.specs.declared.limits.TheConstants.{MOST_TEXT_BYTES}
use Rattle.pb_syntax.specs.Tree.{PlainFile}
use Rattle.pb_syntax.specs.Grammar.{IsFile}
use Rattle.pb_parse.specs.Limits.{AreWithin}
use Rattle.pb_parse.specs.Parsed.{OfTokens}
use Rattle.pb_core_language.specs.FileRules.{broken}
use Rattle.pb_core_language.specs.Meaning.{meaning}
use Rattle.pb_core_language.specs.Sound.{is_sound}
use Rattle.pb_core_file_rules.specs.Lowering.{IsCountable}

-- the bytes are a text of the grammar within the limits, and this is its tree
abbrev pub IsTreeOf : List ℕ → PlainFile → Type 0
IsTreeOf bytes file = OfTokens bytes (λ tokens. IsFile tokens file × AreWithin tokens)

-- what is counted in a file of at most 67,108,864 bytes has a number of 32 bits
abbrev pub ParsedIsCountable : Type 0
ParsedIsCountable = (bytes : List ℕ) (file : PlainFile) → length bytes ≤ MOST_TEXT_BYTES → IsTreeOf bytes file → IsCountable file

-- a file that keeps the rules 1 to 5 means a core with small numbers, known rows, and variables and continues in their scopes
abbrev pub ParsedIsSound : Type 0
ParsedIsSound = (bytes : List ℕ) (file : PlainFile) → IsTreeOf bytes file → broken file ≡ None → is_sound (meaning file) ≡ true
