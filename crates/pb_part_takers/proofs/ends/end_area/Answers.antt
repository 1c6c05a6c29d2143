use Rattle.pb_part_takers.proofs.EndAreas.{end_is}
use Rattle.pb_part_takers.proofs.ends.end_area.Goals as goal

pub returns : goal.returns
returns c = end_is c.args.end c.next_to.result c.next_to.ensures
