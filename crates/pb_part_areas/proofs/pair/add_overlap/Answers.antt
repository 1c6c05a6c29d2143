use Rattle.std.proofs.Common.{ap, sym, ◌∙◌, nat_eq}
use Rattle.pb_part_areas.proofs.Bools.{overlap_chain, first_true}
use Rattle.pb_part_areas.proofs.Lists.{apart}
use Rattle.pb_part_areas.proofs.pair.add_overlap.Goals as goal

pub returns-in_ok-attach_two-2-clause-is : goal.returns-in_ok-attach_two-2-clause-is
returns-in_ok-attach_two-2-clause-is c = λ n role x.
    overlap_chain _ _ _ _ _ _ _ _ _ _ _ _ _ _ _
    (λ h. ap (nat_eq role) (sym c.if-a-b.true) ∙ first_true _ _ _ _ _ h)
    (c.since.ensures.is n role x) (c.ahead-part.ensures.is n role x) (c.above-two.ensures.is n role x)
    (c.below.ensures.is n role x) (c.below-then-a-b.ensures.is n role x)
    (c.in_ok-attach_two.ensures.is n role x) (c.in_ok-attach_two-2.ensures.is n role x)

pub returns-in_ok-attach_two-2-clause-fits : goal.returns-in_ok-attach_two-2-clause-fits
returns-in_ok-attach_two-2-clause-fits c = λ range cuts h fa fb.
    let part = c.ahead-part.ensures.fits range cuts (c.since.ensures.fits range cuts fa fb.from) fb.until in
    let two = c.above-two.ensures.fits range cuts part fb.low in
    let first = c.in_ok-attach_two.ensures.fits range cuts h (c.below.ensures.fits range cuts two.first fb.end) in
    c.in_ok-attach_two-2.ensures.fits range cuts first (c.below-then-a-b.ensures.fits range cuts two.second fb.end)

pub returns-else-a-b-clause-is : goal.returns-else-a-b-clause-is
returns-else-a-b-clause-is c = λ n role x. apart c.args.a c.args.b _ n role x c.if-a-b.false

pub returns-else-a-b-clause-fits : goal.returns-else-a-b-clause-fits
returns-else-a-b-clause-fits c = λ range cuts h fa fb. h

pub returns-in_ok-attach_two-2-clause-some : goal.returns-in_ok-attach_two-2-clause-some
returns-in_ok-attach_two-2-clause-some c = λ h. c.in_ok-attach_two-2.ensures.some (c.in_ok-attach_two.ensures.some h)

pub returns-else-a-b-clause-some : goal.returns-else-a-b-clause-some
returns-else-a-b-clause-some c = λ h. h
