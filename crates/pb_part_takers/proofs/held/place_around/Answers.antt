use Rattle.pb_part_areas.proofs.Covers.{have_at}
use Rattle.pb_part_takers.proofs.held.place_around.Goals as goal

pub returns-then-is_part : goal.returns-then-is_part
returns-then-is_part c = λ lt n role x h. have_at c.args.list.now c.loop-i.i n role x lt (c.is_part.ensures c.if-is_part.true n role x h)
