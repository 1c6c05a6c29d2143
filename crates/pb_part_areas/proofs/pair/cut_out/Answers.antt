use Rattle.std.proofs.Common.{ap, sym, ◌∙◌, nat_eq, pos}
use Rattle.pb_part_areas.proofs.Bools.{minus_chain, first_true}
use Rattle.pb_part_areas.proofs.Lists.{differ}
use Rattle.pb_part_areas.specs.Areas.{at, have}
use Rattle.std.proofs.lemmas.Result.{on_ok_weaker}
use Rattle.pb_part_areas.proofs.pair.cut_out.Goals as goal

pub returns-in_ok-attach_two-2-clause-is : goal.returns-in_ok-attach_two-2-clause-is
returns-in_ok-attach_two-2-clause-is c = λ n role x.
    minus_chain _ _ _ _ _ _ _ _ _ _ _ _ _ _ n (pos c.args.b.from) x (at c.args.b.low n) (at c.args.b.end n)
    (λ h. ap (nat_eq role) (sym c.if-a-b.true) ∙ first_true _ _ _ _ _ h)
    (c.in_ok-attach.ensures.is n role x) (c.until.ensures.is n role x)
    (c.in_ok-attach-2.ensures.is n role x) (c.behind.ensures.is n role x)
    (c.since.ensures.is n role x) (c.ahead-part.ensures.is n role x)
    (c.in_ok-attach_two.ensures.is n role x) (c.below.ensures.is n role x)
    (c.in_ok-attach_two-2.ensures.is n role x) (c.above.ensures.is n role x)

pub returns-in_ok-attach_two-2-clause-fits : goal.returns-in_ok-attach_two-2-clause-fits
returns-in_ok-attach_two-2-clause-fits c = λ range cuts h fa fb.
    let part = c.ahead-part.ensures.fits range cuts (c.since.ensures.fits range cuts fa fb.from) fb.until in
    let first = c.in_ok-attach.ensures.fits range cuts h (c.until.ensures.fits range cuts fa fb.from) in
    let second = c.in_ok-attach-2.ensures.fits range cuts first (c.behind.ensures.fits range cuts fa fb.until) in
    let third = c.in_ok-attach_two.ensures.fits range cuts second (c.below.ensures.fits range cuts part fb.low) in
    c.in_ok-attach_two-2.ensures.fits range cuts third (c.above.ensures.fits range cuts part fb.end)

pub returns-else-a-b-clause-is : goal.returns-else-a-b-clause-is
returns-else-a-b-clause-is c = on_ok_weaker c.attach-else-a-b.result (λ d n role x. d n role x ∙ differ c.args.a c.args.b (have c.args.out.now.items n role x) n role x c.if-a-b.false) c.attach-else-a-b.ensures.is

pub returns-else-a-b-clause-fits : goal.returns-else-a-b-clause-fits
returns-else-a-b-clause-fits c = on_ok_weaker c.attach-else-a-b.result (λ d range cuts h fa fb. d range cuts h fa) c.attach-else-a-b.ensures.fits

pub returns-in_ok-attach_two-2-clause-some : goal.returns-in_ok-attach_two-2-clause-some
returns-in_ok-attach_two-2-clause-some c = λ h.
    c.in_ok-attach_two-2.ensures.some (c.in_ok-attach_two.ensures.some (c.in_ok-attach-2.ensures.some (c.in_ok-attach.ensures.some h)))
