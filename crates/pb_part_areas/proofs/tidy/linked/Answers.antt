use Rattle.std.proofs.Common.{◌≡◌, rules}
use Rattle.pb_part_areas.proofs.Chains.{linked}
use Rattle.pb_part_areas.proofs.tidy.linked.Goals as goal

pub returns-then-is_below-3 : goal.returns-then-is_below-3
returns-then-is_below-3 c =
    let eu : c.args.a.until ≡ c.args.b.until = search rules in
    linked c.args.a c.args.b c.if-a-b.true c.if-a-b-2.true eu
    (c.is_below.ensures c.if-is_below.true)
    (c.is_below-then-is_below.ensures c.if-is_below-2.true)
    (c.is_below-then-is_below-2.ensures c.if-is_below-3.true)
