use Rattle.pb_part_areas.proofs.Covers.{have_at}
use Rattle.pb_part_areas.proofs.tidy.is_within.Goals as goal

pub returns-then-place-list : goal.returns-then-place-list
returns-then-place-list c = λ h n role x k. have_at c.args.list.now c.args.place n role x c.if-place-list.true (c.covers.ensures h n role x k)
