use Rattle.std.proofs.Common.{refl}
use Rattle.pb_core_language.specs.Plain.{plain_block}
use Rattle.pb_cost_blocks.proofs.Foreachs.{line_mild, foreach_told}
use Rattle.pb_cost_blocks.proofs.foreach.of_foreach.Goals as goal

pub clipped-requires : goal.clipped-requires
clipped-requires c =
    line_mild c.args.asked.span c.args.low c.args.high c.in-Some-values_of.values c.in-Some-values_of.ensures.2 c.in-Some.once c.line_of.result c.line_of.ensures.weight c.line_of.ensures.start c.line_of.ensures.slope c.in-Some.ensures.2

pub returns-in-Ok : goal.returns-in-Ok
returns-in-Ok c = λ mark.
    foreach_told c.args.asked.span c.args.low c.args.high c.in-Some-values_of.values c.in-Some-values_of.ensures.2 c.in-Some.once c.line_of.result c.line_of.ensures.weight c.line_of.ensures.start c.line_of.ensures.slope
    c.args.asked c.args.labels.now mark (plain_block c.args.items.now).block c.in-Ok.count refl c.in-Some.ensures.0 c.in-Some.ensures.1 c.in-Ok.ensures.count c.in-Ok.ensures.says c.in-Ok.ensures.span c.in-Ok.ensures.weight
