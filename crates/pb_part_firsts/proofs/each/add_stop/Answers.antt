use Rattle.pb_part_firsts.proofs.LastEntries.{rest_small, last_small, rest_fits, last_fits}
use Rattle.pb_part_firsts.proofs.each.add_stop.Goals as goal

pub returns-in_ok-put_behind-in-Some-clause-small : goal.returns-in_ok-put_behind-in-Some-clause-small
returns-in_ok-put_behind-in-Some-clause-small c = λ k h.
    c.in_ok-put_behind-in-Some.ensures.small (last_small _ _ c.in-Some.last c.in-Some.ensures.items h) k (rest_small _ _ c.in-Some.last c.in-Some.ensures.items h)

pub returns-in_ok-put_behind-in-Some-clause-fits : goal.returns-in_ok-put_behind-in-Some-clause-fits
returns-in_ok-put_behind-in-Some-clause-fits c = λ range cuts f h.
    c.in_ok-put_behind-in-Some.ensures.fits range cuts (last_fits range cuts _ _ c.in-Some.last c.in-Some.ensures.items h) f (rest_fits range cuts _ _ c.in-Some.last c.in-Some.ensures.items h)
