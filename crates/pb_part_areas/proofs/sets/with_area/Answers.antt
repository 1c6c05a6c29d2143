use Rattle.pb_part_areas.specs.Areas.{has, have}
use Rattle.pb_part_areas.proofs.Covers.{with_missing}
use Rattle.pb_part_areas.proofs.sets.with_area.Goals as goal

pub returns-clause-is : goal.returns-clause-is
returns-clause-is c = λ n role x.
    with_missing (have c.in_ok-out.out.items n role x) (have c.args.list.now n role x) (has c.args.a n role x) (have c.in_ok-new.new.items n role x) _ (c.in_ok-out.ensures.is n role x) (rw c.deref.ensures.value at (c.in_ok-new.ensures.is n role x)) (rw c.deref-2.ensures.value at (c.in_ok-add_all.ensures.is n role x))

pub returns-clause-fits : goal.returns-clause-fits
returns-clause-fits c = λ range cuts f fa.
    let kept = c.in_ok-out.ensures.fits range cuts f in
    (rw c.deref-2.ensures.value at (c.in_ok-add_all.ensures.fits range cuts)) kept ((rw c.deref.ensures.value at (c.in_ok-new.ensures.fits range cuts)) fa kept)

pub returns-clause-some : goal.returns-clause-some
returns-clause-some c = λ h. c.in_ok-add_all.ensures.some (c.in_ok-out.ensures.some h)
