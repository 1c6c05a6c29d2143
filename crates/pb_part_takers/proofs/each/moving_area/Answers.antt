use Rattle.pb_part_takers.proofs.EndAreas.{moving_is}
use Rattle.pb_part_takers.proofs.each.moving_area.Goals as goal

pub returns : goal.returns
returns c = moving_is c.args.over c.args.end c.moved_by-low.result c.moved_by-high.result c.next_to.result c.requires c.moved_by-low.ensures c.moved_by-high.ensures c.next_to.ensures
