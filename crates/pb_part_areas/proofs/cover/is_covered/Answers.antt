use Rattle.pb_part_areas.proofs.Covers.{have_at}
use Rattle.pb_part_areas.proofs.cover.is_covered.Goals as goal

pub returns-then-covers : goal.returns-then-covers
returns-then-covers c = λ _ n role x h. have_at c.args.list.now c.loop-b.b-index n role x c.loop-b-test.true (c.covers.ensures c.if-covers.true n role x h)
