use Rattle.pb_part_areas.proofs.Chains.{added_twice}
use Rattle.pb_part_areas.proofs.tidy.attach_two.Goals as goal

pub returns-clause-is : goal.returns-clause-is
returns-clause-is c = λ n role x. added_twice _ _ _ _ _ (c.in_ok-attach.ensures.is n role x) (c.in_ok-attach-2.ensures.is n role x)

pub returns-clause-fits : goal.returns-clause-fits
returns-clause-fits c = λ range cuts h f. c.in_ok-attach-2.ensures.fits range cuts (c.in_ok-attach.ensures.fits range cuts h f.first) f.second

pub returns-clause-some : goal.returns-clause-some
returns-clause-some c = λ h. c.in_ok-attach-2.ensures.some (c.in_ok-attach.ensures.some h)
