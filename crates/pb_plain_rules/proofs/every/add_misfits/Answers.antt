use Rattle.std.proofs.Common.{◌∙◌, map, ap, arith}
use Rattle.pb_plain.specs.View.{view, mark_of, seat_of}
use Rattle.pb_plain_rules.specs.Breaches.{breach_of}
use Rattle.pb_plain_rules.specs.Fits.{fits}
use Rattle.pb_plain_rules.proofs.RankSteps.{item_at, told_step}
use Rattle.pb_plain_rules.proofs.every.add_misfits.Goals as goal

pub loop-rank-preserved : goal.loop-rank-preserved
loop-rank-preserved c =
    told_step c.args.rule (fits c.args.which) (map seat_of c.args.ranks.now) (view c.args.block.now) c.loop-rank.rank _ _
    (map breach_of c.args.out.now.items) (map breach_of c.loop-rank.out.items) (map breach_of c.add_ranked.new.out.items)
    (item_at c.args.ranks.now c.loop-rank.rank _ (omega (arith, c.loop-rank-test.true)))
    (ap (λ l. map mark_of l) c.deref.ensures.value ∙ c.in_ok-marks.ensures) c.loop-rank.invariant c.in_ok-add_ranked.ensures
