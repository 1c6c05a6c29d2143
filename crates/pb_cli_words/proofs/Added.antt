-- What the builders of a command and of its arguments make of it.
use Rattle.std.proofs.Common.{◌≡◌, true, false, codes, IfOk, Result, Ok, Err, Some, ap, ◌∙◌}
use Rattle.clap.specs.Words.{AddsArg, App, Rule, app_of, new_app, rule_of, with_rule}
use Rattle.clap.specs.Simple.{Shape, app_of_fields, on_top}
use Rattle.clap.specs.declared.builder.action.ArgAction.{ArgAction}
use Rattle.clap.specs.declared.builder.arg.Arg.{Arg}
use Rattle.clap.specs.declared.builder.command.Command.{Command}
use Rattle.clap.specs.declared.builder.command.Command.TheViews.{out-Command}
use Rattle.pb_cli_words.specs.Reader.{bare_app}

-- an argument more
pub with_one : (old new : Command) (a : Arg) (app : App) (rule : Rule) → app_of old ≡ app → rule_of a ≡ rule → a.global ≡ false → AddsArg old a new → app_of new ≡ with_rule app rule
with_one old new a app rule is one local added = added.shape local ∙ (λ i. with_rule (is i) (one i))

pub with_one_if : {E : Type 0} (old : Command) (a : Arg) (r : Result Command E) (app : App) (rule : Rule) → app_of old ≡ app → rule_of a ≡ rule → a.global ≡ false → IfOk r (AddsArg old a)
    → IfOk r (λ c. app_of c ≡ with_rule app rule)
with_one_if old a (Ok new) app rule is one local added = with_one old new a app rule is one local added
with_one_if old a (Err e) app rule is one local added = added

-- an argument's action
pub acts : (a b : Arg) (rule : Rule) (action : ArgAction) → rule_of a ≡ rule → b ≡ record a { action = Some action } → rule_of b ≡ record rule { action = Some action }
acts a b rule action one is = ap rule_of is ∙ ap {A = Rule} (λ r. record r { action = Some action }) one

pub acts_local : (a b : Arg) (action : ArgAction) → a.global ≡ false → b ≡ record a { action = Some action } → b.global ≡ false
acts_local a b action local is = ap {A = Arg} (λ x. x.global) is ∙ local

-- no help, no version, and no name of a program
abbrev no_name : Shape → Shape
no_name s = record s { no_binary_name = true }

abbrev no_help : Shape → Shape
no_help s = record s { disable_help_flag = true }

abbrev no_help_command : Shape → Shape
no_help_command s = record s { disable_help_subcommand = true }

abbrev no_version : Shape → Shape
no_version s = record s { disable_version_flag = true }

pub bare_is : (a b c d e : Command) → app_of a ≡ new_app (codes "pabble") → out-Command b ≡ record (out-Command a) { no_binary_name = true } → out-Command c ≡ record (out-Command b) { disable_help_flag = true }
    → out-Command d ≡ record (out-Command c) { disable_help_subcommand = true } → out-Command e ≡ record (out-Command d) { disable_version_flag = true } → app_of e ≡ bare_app
bare_is a b c d e new named help help_command version =
    let one : app_of b ≡ on_top no_name (app_of a) = ap app_of_fields named in
    let two : app_of c ≡ on_top no_help (app_of b) = ap app_of_fields help in
    let three : app_of d ≡ on_top no_help_command (app_of c) = ap app_of_fields help_command in
    let four : app_of e ≡ on_top no_version (app_of d) = ap app_of_fields version in
    four ∙ ap (on_top no_version) (three ∙ ap (on_top no_help_command) (two ∙ ap (on_top no_help) (one ∙ ap (on_top no_name) new)))
