use Rattle.std.proofs.Common.{◌≡◌, rules, arith}
use Rattle.std.proofs.lemmas.Int.{ints}
use Rattle.pb_part_areas.specs.Areas.{is_param}
use Rattle.pb_part_areas.proofs.Meets.{zero_edge}
use Rattle.pb_part_visits.proofs.Meets.{always_same, never_same, none_before, met_turned}
use Rattle.pb_part_visits.proofs.meet.where_same.Goals as goal

pub returns-then-one-other-clause-is : goal.returns-then-one-other-clause-is
returns-then-one-other-clause-is c = λ a b n role x.
    let same : is_param c.args.one.base ≡ is_param c.args.other.base = search rules in
    always_same c.args.one c.args.other _ n same (omega (arith, ints))

pub returns-else-one-other-clause-is : goal.returns-else-one-other-clause-is
returns-else-one-other-clause-is c = λ a b n role x.
    let same : is_param c.args.one.base ≡ is_param c.args.other.base = search rules in
    never_same c.args.one c.args.other _ _ n same (λ e. omega (arith, ints)) (none_before c.args.a _ n role x (c.until.ensures.is n role x))

pub returns-else-one-other-clause-fits : goal.returns-else-one-other-clause-fits
returns-else-one-other-clause-fits c = λ a b range cuts f l e. c.until.ensures.fits range cuts f (zero_edge range cuts)

pub returns-else-is_param-2-clause-is : goal.returns-else-is_param-2-clause-is
returns-else-is_param-2-clause-is c = λ a b n role x. met_turned c.args.one c.args.other _ _ n (c.where_met-else-is_param-2.ensures.is b a n role x)

pub returns-else-is_param-2-clause-fits : goal.returns-else-is_param-2-clause-fits
returns-else-is_param-2-clause-fits c = λ a b range cuts f l e. c.where_met-else-is_param-2.ensures.fits b a range cuts f e l
