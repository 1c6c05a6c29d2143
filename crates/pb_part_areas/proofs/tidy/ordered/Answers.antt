use Rattle.pb_part_areas.proofs.tidy.ordered.Goals as goal

pub returns-clause-fits : goal.returns-clause-fits
returns-clause-fits c = λ range cuts h. c.sorted-areas.ensures.fits range cuts
    ((rw c.deref.ensures.value at (c.in_ok-few.ensures.fits range cuts)) (c.sorted_by_ends-by_ends.ensures.fits range cuts h))
