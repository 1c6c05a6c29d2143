use Rattle.std.proofs.Common.{codes}
use Rattle.clap.specs.Words.{with_rule}
use Rattle.pb_cli_words.specs.Reader.{option_rule, words_app}
use Rattle.pb_cli_words.proofs.Added.{with_one, with_one_if}
use Rattle.pb_cli_words.proofs.reader.with_texts.Goals as goal

pub returns : goal.returns
returns c =
    let one = with_rule words_app (option_rule (codes "n")) in
    let two = with_rule one (option_rule (codes "seed")) in
    let three = with_rule two (option_rule (codes "turns")) in
    let first = with_one c.in_ok-with_words.field-0 c.in_ok-arg.field-0 c.text_option.result words_app (option_rule (codes "n")) c.in_ok-with_words.ensures c.text_option.ensures.rule
    c.text_option.ensures.local c.in_ok-arg.ensures in
    let second = with_one c.in_ok-arg.field-0 c.in_ok-arg-2.field-0 c.text_option-2.result one (option_rule (codes "seed")) first c.text_option-2.ensures.rule c.text_option-2.ensures.local
    c.in_ok-arg-2.ensures in
    let third = with_one c.in_ok-arg-2.field-0 c.in_ok-arg-3.field-0 c.text_option-3.result two (option_rule (codes "turns")) second c.text_option-3.ensures.rule c.text_option-3.ensures.local
    c.in_ok-arg-3.ensures in
    with_one_if c.in_ok-arg-3.field-0 c.text_option-4.result c.arg-4.result three (option_rule (codes "mode")) third c.text_option-4.ensures.rule c.text_option-4.ensures.local c.arg-4.ensures
