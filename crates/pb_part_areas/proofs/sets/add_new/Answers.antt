use Rattle.pb_part_areas.proofs.sets.add_new.Goals as goal

pub returns-clause-fits : goal.returns-clause-fits
returns-clause-fits c = λ range cuts h f. (rw c.deref-3.ensures.value at (c.in_ok-list.ensures.fits range cuts)) h f

pub returns-clause-some : goal.returns-clause-some
returns-clause-some c = λ h. (rw c.deref-3.ensures.value at c.in_ok-list.ensures.some) h
