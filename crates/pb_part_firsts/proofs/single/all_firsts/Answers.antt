use Rattle.std.proofs.Common.{refl}
use Rattle.pb_part_firsts.proofs.Singles.{all_stop}
use Rattle.pb_part_firsts.proofs.single.all_firsts.Goals as goal

pub returns-clause-gives : goal.returns-clause-gives
returns-clause-gives c = λ range roles k around. all_stop k (c.in_ok-left.ensures.gives roles around)

pub returns-clause-small : goal.returns-clause-small
returns-clause-small c = λ h. c.in_ok-left.ensures.small refl h

pub returns-clause-fits : goal.returns-clause-fits
returns-clause-fits c = λ range cuts w r s. c.in_ok-left.ensures.fits range cuts r w s
