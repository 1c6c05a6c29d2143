use Rattle.pb_part_areas.proofs.sets.lessened.Goals as goal

pub returns-else-are_apart-clause-fits : goal.returns-else-are_apart-clause-fits
returns-else-are_apart-clause-fits c = rw c.deref-else-are_apart.ensures.value at c.less.ensures.fits

pub returns-else-are_apart-clause-some : goal.returns-else-are_apart-clause-some
returns-else-are_apart-clause-some c = rw c.deref-else-are_apart.ensures.value at c.less.ensures.some
