use Rattle.pb_part_visits.proofs.Narrowed.{narrow_is}
use Rattle.pb_part_visits.proofs.lins.moved.Goals as goal

pub returns-clause-is : goal.returns-clause-is
returns-clause-is c = λ h. narrow_is c.narrow.result _ _ _ _ c.narrow.ensures.base c.wide_moved.ensures.base c.wide_moved.ensures.off c.narrow.ensures.off h
