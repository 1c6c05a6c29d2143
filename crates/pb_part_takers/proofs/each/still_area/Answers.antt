use Rattle.pb_part_takers.proofs.EndAreas.{still_is}
use Rattle.pb_part_takers.proofs.each.still_area.Goals as goal

pub returns : goal.returns
returns c = still_is c.args.over c.args.end c.end_area-area.result c.nonempty.result c.requires c.end_area-area.ensures c.nonempty.ensures.is c.nonempty.ensures.fits
