use Rattle.std.proofs.Common.{sym, subst, take, ◌+◌}
use Rattle.std.proofs.lemmas.List.{take_all}
use Rattle.pb_part_areas.specs.Areas.{have}
use Rattle.pb_part_first.specs.First.{IsBest}
use Rattle.pb_part_first.proofs.Firsts.{best_more}
use Rattle.pb_part_first.proofs.first.first_of.Goals as goal

pub loop-a-preserved : goal.loop-a-preserved
loop-a-preserved c =
    subst (λ z. IsBest c.args.range (λ n role x. have (take (c.loop-a.a-index + 1) c.args.list.now) n role x) z) (sym c.earlier-best.ensures)
    (best_more c.args.range c.args.list.now c.loop-a.a-index c.loop-a.best c.first_of_one.result c.loop-a-test.true c.loop-a.invariant c.first_of_one.ensures)

pub returns : goal.returns
returns c = subst (λ z. IsBest c.args.range (λ n role x. have z n role x) c.loop-a.best) (take_all c.loop-a.a-index c.args.list.now c.loop-a-test.false) c.loop-a.invariant
