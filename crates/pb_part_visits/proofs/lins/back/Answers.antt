use Rattle.pb_part_visits.proofs.Narrowed.{narrow_is}
use Rattle.pb_part_visits.proofs.lins.back.Goals as goal

pub returns : goal.returns
returns c = λ h. narrow_is c.narrow.result _ _ _ _ c.narrow.ensures.base c.wide_back.ensures.base c.wide_back.ensures.off c.narrow.ensures.off h
