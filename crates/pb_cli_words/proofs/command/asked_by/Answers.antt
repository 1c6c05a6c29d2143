use Rattle.std.proofs.Common.{rules, ◌≡◌, Some, None, map, option_map, codes}
use Rattle.clap.specs.Words.{first_value, found_of, matched_of, raw_values}
use Rattle.pb_cli_words.specs.Request.{request_if}
use Rattle.pb_cli_words.specs.Reader.{asked_for, files_or}
use Rattle.pb_cli_words.specs.Shown.{options_of}
use Rattle.pb_cli_words.proofs.Rows.{asked_rows}
use Rattle.pb_cli_words.proofs.command.asked_by.Goals as goal

pub returns-in-None-clause-asked : goal.returns-in-None-clause-asked
returns-in-None-clause-asked c =
    let f = found_of c.args.matches.now in
    let named : Some c.in_ok-command.command.now ≡ first_value f (codes "command") = search rules in
    let there : None ≡ option_map raw_values (matched_of f (codes "files")) = search rules in
    let is : request_if c.asked_for.result ≡ asked_for (Some c.in_ok-command.command.now) (files_or None) (options_of c.new-given.result) c.args.behind = search rules in
    asked_rows f c.in_ok-command.command.now None (options_of c.new-given.result) c.args.behind (request_if c.asked_for.result) named there c.new-given.ensures is

pub returns-in-Some-clause-asked : goal.returns-in-Some-clause-asked
returns-in-Some-clause-asked c =
    let f = found_of c.args.matches.now in
    let named : Some c.in_ok-command.command.now ≡ first_value f (codes "command") = search rules in
    let there : Some (map (λ v. v.now) c.in-Some.files.now) ≡ option_map raw_values (matched_of f (codes "files")) = search rules in
    asked_rows f c.in_ok-command.command.now (Some (map (λ v. v.now) c.in-Some.files.now)) (options_of c.new-given.result) c.args.behind (request_if c.asked_for-in-Some.result) named there
    c.new-given.ensures c.asked_for-in-Some.ensures.asked
