-- What the matches ask for, by the values that were found.
use Rattle.std.proofs.Common.{◌≡◌, ℕ, Bool, codes, List, Option, Some, None, ap, ◌∙◌, option_map}
use Rattle.clap.specs.Words.{Text, all_of, first_value, matched_of, raw_values, rows_of}
use Rattle.clap.specs.declared.parser.matches.Found.{Found}
use Rattle.clap.proofs.WalkLemmas.{first_value-rows, raw_values-rows}
use Rattle.pb_cli_words.specs.Said.{Given}
use Rattle.pb_cli_words.specs.Request.{Request}
use Rattle.pb_cli_words.specs.Reader.{IsFlag, asked_by, asked_for, files_or, listed_in}

pub asked_rows : (f : Found) (command : Text) (files : Option (List Text)) (options : List Given) (behind : ℕ) (r : Option Request) → Some command ≡ first_value f (codes "command")
    → files ≡ option_map raw_values (matched_of f (codes "files")) → ((schedule : Bool) → IsFlag (rows_of f) schedule → options ≡ listed_in (rows_of f) schedule)
    → r ≡ asked_for (Some command) (files_or files) options behind → (schedule : Bool) → IsFlag (rows_of f) schedule → r ≡ asked_by (rows_of f) schedule behind
asked_rows f command files options behind r named there given is schedule flag =
    is ∙ (λ i. asked_for ((named ∙ first_value-rows f (codes "command")) i) (files_or ((there ∙ raw_values-rows f (codes "files")) i)) (given schedule flag i) behind)

pub no_command_rows : (f : Found) (behind : ℕ) → None ≡ first_value f (codes "command") → (schedule : Bool) → IsFlag (rows_of f) schedule → None ≡ asked_by (rows_of f) schedule behind
no_command_rows f behind none schedule flag =
    ap (λ c. asked_for c (files_or (all_of (codes "files") (rows_of f))) (listed_in (rows_of f) schedule) behind) (none ∙ first_value-rows f (codes "command"))
