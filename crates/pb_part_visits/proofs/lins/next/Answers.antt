use Rattle.pb_part_visits.proofs.Narrowed.{narrow_is}
use Rattle.pb_part_visits.proofs.lins.next.Goals as goal

pub returns : goal.returns
returns c = λ h. narrow_is c.narrow.result _ _ _ _ c.narrow.ensures.base c.wide_next.ensures.base c.wide_next.ensures.off c.narrow.ensures.off h
