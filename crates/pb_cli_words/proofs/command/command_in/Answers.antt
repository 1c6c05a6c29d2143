use Rattle.std.proofs.Common.{rules, ◌≡◌, Some, map}
use Rattle.std.specs.String.{string_bytes}
use Rattle.clap.specs.Words.{found_of, rows_of}
use Rattle.pb_cli_words.specs.Request.{request_if}
use Rattle.pb_cli_words.specs.Reader.{matched}
use Rattle.pb_cli_words.proofs.Walked.{asks}
use Rattle.pb_cli_words.proofs.command.command_in.Goals as goal

pub returns-in-Some-clause-asked : goal.returns-in-Some-clause-asked
returns-in-Some-clause-asked c =
    let found : Some (rows_of (found_of c.in-Some.matches)) ≡ matched (map string_bytes c.args.words.now) = search rules in
    asks c.args.words.now (rows_of (found_of c.in-Some.matches)) c.words_behind.result (request_if c.asked_by.result) found c.words_behind.ensures c.asked_by.ensures.asked
