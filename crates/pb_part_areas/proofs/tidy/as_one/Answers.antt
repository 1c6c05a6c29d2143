use Rattle.pb_part_areas.proofs.Chains.{first_covers, second_covers}
use Rattle.pb_part_areas.proofs.tidy.as_one.Goals as goal

pub returns-then-covers : goal.returns-then-covers
returns-then-covers c = first_covers c.args.a c.args.b (c.covers.ensures c.if-covers.true)

pub returns-then-covers-2 : goal.returns-then-covers-2
returns-then-covers-2 c = second_covers c.args.a c.args.b (c.covers-else-covers.ensures c.if-covers-2.true)
