use Rattle.std.proofs.Common.{rules, ◌+◌, ◌-◌, ◌*◌, ◌<◌, ◌≤◌, ◌^◌, length, sym, ◌∙◌, slice_index_or}
use Rattle.pb_cli_words.proofs.Digits.{overflows}
use Rattle.pb_cli_words.proofs.number.digits.Goals as goal

pub returns-then-more-ge18446744073709551616 : goal.returns-then-more-ge18446744073709551616
returns-then-more-ge18446744073709551616 c =
    let there : c.loop-at.at < length c.args.text.now = search rules in
    let h : 2 ^ 64 ≤ 10 * c.loop-at.n + (slice_index_or c.args.text.now c.loop-at.at 0 - 48) = search rules in
    sym (overflows c.loop-at.n c.loop-at.at c.args.text.now there h) ∙ c.loop-at.invariant.same
