use Rattle.std.proofs.Common.{codes, Some}
use Rattle.clap.specs.Words.{new_rule, with_rule}
use Rattle.clap.specs.declared.builder.action.ArgAction.TheVariants.{Append}
use Rattle.pb_cli_words.specs.Reader.{bare_app}
use Rattle.pb_cli_words.proofs.Added.{acts, acts_local, bare_is, with_one, with_one_if}
use Rattle.pb_cli_words.proofs.reader.with_words.Goals as goal

pub returns : goal.returns
returns c =
    let bare = bare_is _ _ _ _ c.disable_version_flag-bare.result c.new.ensures.app c.no_binary_name.ensures c.disable_help_flag.ensures c.disable_help_subcommand.ensures
    c.disable_version_flag-bare.ensures in
    let command = with_one c.disable_version_flag-bare.result c.in_ok-named.named c.new-2.result bare_app (new_rule (codes "command")) bare c.new-2.ensures.rule c.new-2.ensures.optional.1
    c.in_ok-named.ensures in
    with_one_if c.in_ok-named.named c.action-files.result c.arg-2.result (with_rule bare_app (new_rule (codes "command"))) (record (new_rule (codes "files")) { action = Some Append }) command
    (acts c.new-3.result c.action-files.result (new_rule (codes "files")) Append c.new-3.ensures.rule c.action-files.ensures)
    (acts_local c.new-3.result c.action-files.result Append c.new-3.ensures.optional.1 c.action-files.ensures) c.arg-2.ensures
