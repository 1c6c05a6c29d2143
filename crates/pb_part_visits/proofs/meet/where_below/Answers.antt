use Rattle.std.proofs.Common.{◌≡◌, rules, arith}
use Rattle.std.proofs.lemmas.Int.{ints}
use Rattle.pb_part_areas.specs.Areas.{at, is_param}
use Rattle.pb_part_areas.proofs.Meets.{zero_edge}
use Rattle.pb_part_visits.proofs.Meets.{always_below, never_below, none_before, part_since, part_until}
use Rattle.pb_part_visits.proofs.meet.where_below.Goals as goal

pub returns-then-low-end-clause-is : goal.returns-then-low-end-clause-is
returns-then-low-end-clause-is c = λ a b n role x.
    let same : is_param c.args.low.base ≡ is_param c.args.end.base = search rules in
    always_below c.args.low c.args.end _ n same (omega (arith, ints))

pub returns-else-low-end-clause-is : goal.returns-else-low-end-clause-is
returns-else-low-end-clause-is c = λ a b n role x.
    let same : is_param c.args.low.base ≡ is_param c.args.end.base = search rules in
    never_below c.args.low c.args.end _ _ n same (omega (arith, ints)) (none_before c.args.a _ n role x (c.until.ensures.is n role x))

pub returns-else-low-end-clause-fits : goal.returns-else-low-end-clause-fits
returns-else-low-end-clause-fits c = λ a b range cuts f l e. c.until.ensures.fits range cuts f (zero_edge range cuts)

pub returns-then-is_param-2-clause-is : goal.returns-then-is_param-2-clause-is
returns-then-is_param-2-clause-is c = λ a b n role x. part_since c.args.a _ _ _ n role x (c.pass-t.ensures.is a b n) (c.since.ensures.is n role x)

pub returns-then-is_param-2-clause-fits : goal.returns-then-is_param-2-clause-fits
returns-then-is_param-2-clause-fits c = λ a b range cuts f l e. c.since.ensures.fits range cuts f (c.pass-t.ensures.edge a b range cuts l e)

pub returns-else-is_param-2-clause-is : goal.returns-else-is_param-2-clause-is
returns-else-is_param-2-clause-is c = λ a b n role x. part_until c.args.a _ n (at c.args.low n) (at c.args.end n) _ role x (c.meet-t.ensures.is n) (c.until-else-is_param-2.ensures.is n role x)

pub returns-else-is_param-2-clause-fits : goal.returns-else-is_param-2-clause-fits
returns-else-is_param-2-clause-fits c = λ a b range cuts f l e. c.until-else-is_param-2.ensures.fits range cuts f (c.meet-t.ensures.edge range cuts e l)
