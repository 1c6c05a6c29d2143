use Rattle.pb_cost_blocks.proofs.Foreachs.{values_are}
use Rattle.pb_cost_blocks.proofs.values.values_of.Goals as goal

pub returns : goal.returns
returns c = (
  c.in-Some.ensures.0,
  c.in-Some-end_of.ensures.0,
  values_are c.args.span c.args.low c.args.high c.in-Some.first c.in-Some-end_of.last c.between.result c.in-Some.ensures.1 c.in-Some-end_of.ensures.1 c.between.ensures.start c.between.ensures.slope,
)
