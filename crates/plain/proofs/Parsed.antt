-- What was parsed can be counted, and means a sound core where it keeps the rules 1 to 5.
use Rattle.std.proofs.Common.{◌≡◌, ℕ, ◌≤◌, List, length, None, Ok, true, arith}
use Rattle.pb_syntax.specs.Plain.{plain_file}
use Rattle.pb_syntax.specs.declared.tree.FileTree.{FileTree}
use Rattle.pb_parse.specs.Parsed.{IsParsedText}
use Rattle.pb_core_language.specs.FileRules.{broken}
use Rattle.pb_core_language.specs.Meaning.{meaning}
use Rattle.pb_core_language.specs.Sound.{is_sound}
use Rattle.pb_core_file_rules.specs.Lowering.{IsCountable}
use Rattle.pb_parse_laws.proofs.Countable.{parsed_is_countable}
use Rattle.pb_parse_laws.proofs.Sound.{parsed_is_sound}

pub countable : (bytes : List ℕ) (file : FileTree) → length bytes ≤ 1048576 → IsParsedText bytes (Ok file) → IsCountable (plain_file file)
countable bytes file short found = parsed_is_countable bytes (plain_file file) (omega (arith, short)) found

pub sound : (bytes : List ℕ) (file : FileTree) → IsParsedText bytes (Ok file) → broken (plain_file file) ≡ None → is_sound (meaning (plain_file file)) ≡ true
sound bytes file found keeps = parsed_is_sound bytes (plain_file file) found keeps
