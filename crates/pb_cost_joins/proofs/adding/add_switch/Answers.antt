use Rattle.std.proofs.Common.{rules, SFits, w64, to_z-of_z, arith}
use Rattle.std.proofs.lemmas.Int.{ints}
use Rattle.pb_cost_joins.proofs.GoingOn.{kept_goes, kept_added, rest_order, other_low, other_high, other_goes, both_added}
use Rattle.pb_cost_joins.proofs.adding.add_switch.Goals as goal

pub add_ray-requires : goal.add_ray-requires
add_ray-requires c = kept_goes c.args.switch c.args.builder.now.latest c.args.span c.kept_part-part.result c.kept_part-part.ensures c.requires

pub moved-requires-clause-order : goal.moved-requires-clause-order
moved-requires-clause-order c = rest_order c.args.switch c.args.builder.now.latest c.args.span c.kept_part-part.result c.kept_part-part.ensures c.behind-rest.result c.behind-rest.ensures.from c.behind-rest.ensures.to

pub moved-requires-clause-low : goal.moved-requires-clause-low
moved-requires-clause-low c = other_low c.args.switch c.args.builder.now.latest c.args.span c.kept_part-part.result c.kept_part-part.ensures c.behind-rest.result c.behind-rest.ensures.from c.behind-rest.ensures.to c.requires

pub moved-requires-clause-high : goal.moved-requires-clause-high
moved-requires-clause-high c = other_high c.args.switch c.args.builder.now.latest c.args.span c.kept_part-part.result c.kept_part-part.ensures c.behind-rest.result c.behind-rest.ensures.from c.behind-rest.ensures.to c.requires

pub add_ray-requires-then-part-span : goal.add_ray-requires-then-part-span
add_ray-requires-then-part-span c = other_goes c.args.switch c.args.builder.now.latest c.args.span c.kept_part-part.result c.kept_part-part.ensures c.behind-rest.result c.behind-rest.ensures.from c.behind-rest.ensures.to c.moved.result c.moved.ensures.start c.moved.ensures.slope
    c.add_ray.new.builder.latest c.in_ok-add_ray.ensures.added.ends c.in_ok-add_ray.ensures.last c.requires

pub returns-in_ok-add_ray-2 : goal.returns-in_ok-add_ray-2
returns-in_ok-add_ray-2 c = both_added c.args.switch c.args.builder.now.latest c.args.span c.kept_part-part.result c.kept_part-part.ensures c.behind-rest.result c.behind-rest.ensures.from c.behind-rest.ensures.to c.moved.result c.moved.ensures.start c.moved.ensures.slope
    c.args.builder.now.done.items c.add_ray.new.builder.done.items c.add_ray.new.builder.latest c.add_ray-then-part-span.new.builder.done.items c.add_ray-then-part-span.new.builder.latest c.requires c.in_ok-add_ray.ensures.added c.in_ok-add_ray-2.ensures.added

pub returns-else-part-span : goal.returns-else-part-span
returns-else-part-span c =
    let part : SFits w64 c.kept_part-part.result.to = search rules in
    let span : SFits w64 c.args.span.to = search rules in
    let ended = simp to_z-of_z at c.if-part-span.false in
    kept_added c.args.switch c.args.builder.now.latest c.args.span c.kept_part-part.result c.kept_part-part.ensures
    c.args.builder.now.done.items c.add_ray.new.builder.done.items c.add_ray.new.builder.latest (omega (arith, ints, ended)) c.requires c.in_ok-add_ray.ensures.added
