use Rattle.pb_part_areas.specs.Fits.{Fits}
use Rattle.pb_part_firsts.proofs.Flats.{pushed_around, pushed_fits}
use Rattle.pb_part_firsts.proofs.Asides.{met_added, aside_added, aside_apart}
use Rattle.pb_part_firsts.proofs.sides.put_aside.Goals as goal

pub returns-then-is_beside-clause-is : goal.returns-then-is_beside-clause-is
returns-then-is_beside-clause-is c = λ n role x. aside_added c.args.met.now.items _ _ c.args.part c.in_ok-push.ensures.items n role x

pub returns-then-is_beside-clause-apart : goal.returns-then-is_beside-clause-apart
returns-then-is_beside-clause-apart c = λ k n role x h.
    aside_apart _ _ c.args.part c.args.list.now c.in_ok-push.ensures.items n role x (c.is_beside.ensures c.if-is_beside.true k n role x) h

pub returns-then-is_beside-clause-around : goal.returns-then-is_beside-clause-around
returns-then-is_beside-clause-around c = λ k m o. (m, pushed_around _ _ c.args.part c.in_ok-push.ensures.items o k)

pub returns-then-is_beside-clause-fits : goal.returns-then-is_beside-clause-fits
returns-then-is_beside-clause-fits c = λ range cuts p m o. (m, pushed_fits (Fits range cuts) _ _ c.args.part c.in_ok-push.ensures.items o p)

pub returns-clause-is : goal.returns-clause-is
returns-clause-is c = λ n role x. met_added _ _ c.args.others.now.items c.args.part c.in_ok-push-2.ensures.items n role x

pub returns-clause-apart : goal.returns-clause-apart
returns-clause-apart c = λ k n role x h. h

pub returns-clause-around : goal.returns-clause-around
returns-clause-around c = λ k m o. (pushed_around _ _ c.args.part c.in_ok-push-2.ensures.items m k, o)

pub returns-clause-fits : goal.returns-clause-fits
returns-clause-fits c = λ range cuts p m o. (pushed_fits (Fits range cuts) _ _ c.args.part c.in_ok-push-2.ensures.items m p, o)
