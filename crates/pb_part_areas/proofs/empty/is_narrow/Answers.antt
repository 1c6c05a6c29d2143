use Rattle.std.proofs.Common.{◌≡◌, pos, ◌+ℤ◌, int_le, true, false, rules}
use Rattle.pb_part_areas.specs.Areas.{is_param}
use Rattle.pb_part_areas.proofs.Wide.{wide_until}
use Rattle.pb_part_areas.proofs.empty.is_narrow.Goals as goal

pub returns-in-Some-clause-wide : goal.returns-in-Some-clause-wide
returns-in-Some-clause-wide c = λ no over.
    let still : is_param c.args.a.low.base ≡ false = search rules in
    let grows : is_param c.args.a.end.base ≡ true = search rules in
    let above : int_le (c.args.a.end.off +ℤ pos c.in-Some.until) (c.args.a.low.off +ℤ pos 1) ≡ false = search rules in
    wide_until c.args.a c.in-Some.until still grows c.in-Some.is above over
