use Rattle.pb_part_areas.proofs.Covers.{apart_second, over_first, over_second}
use Rattle.pb_part_areas.proofs.cover.is_apart.Goals as goal
use Rattle.pb_part_areas.proofs.cover.is_apart.Goals.{then-ends_by-via-then-ends_by, then-ends_by-via-else-ends_by+then-ends_by-2}

pub returns-then-ends_by : goal.returns-then-ends_by
returns-then-ends_by c = λ _ n role x. elim c.then-ends_by.branch [
  | then-ends_by-via-then-ends_by w ↦ over_first c.args.a c.args.b (c.ends_by.ensures w.if-ends_by.true) n role x
  | then-ends_by-via-else-ends_by+then-ends_by-2 w ↦ over_second c.args.a c.args.b (w.ends_by-else-ends_by.ensures w.if-ends_by-2.true) n role x
]

pub returns-else-is_below : goal.returns-else-is_below
returns-else-is_below c = λ h n role x. apart_second c.args.a c.args.b (c.is_below-else-is_below.ensures h) n role x
