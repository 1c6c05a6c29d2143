use Rattle.std.proofs.Common.{rules, SFits, w64, to_z-of_z}
use Rattle.pb_cost_joins.proofs.GoingOn.{line_more, line_step, line_tame, line_added, line_last}
use Rattle.pb_cost_joins.proofs.adding.add_ray.Goals as goal

pub add-requires-clause-more : goal.add-requires-clause-more
add-requires-clause-more c =
    let to : SFits w64 c.args.span.to = search rules in
    simp to_z-of_z (line_more c.args.ray.start c.args.ray.slope c.args.builder.now.latest c.args.span c.requires)

pub add-requires-clause-step : goal.add-requires-clause-step
add-requires-clause-step c =
    let start : SFits w64 c.args.ray.start = search rules in
    simp to_z-of_z (line_step c.args.ray.start c.args.ray.slope c.args.builder.now.latest c.args.span c.requires)

pub add-requires-clause-tame : goal.add-requires-clause-tame
add-requires-clause-tame c =
    let to : SFits w64 c.args.span.to = search rules in
    let start : SFits w64 c.args.ray.start = search rules in
    let slope : SFits w64 c.args.ray.slope = search rules in
    simp to_z-of_z (line_tame c.args.ray.start c.args.ray.slope c.args.builder.now.latest c.args.span c.requires)

pub returns-clause-added : goal.returns-clause-added
returns-clause-added c =
    let to : SFits w64 c.args.span.to = search rules in
    let start : SFits w64 c.args.ray.start = search rules in
    let slope : SFits w64 c.args.ray.slope = search rules in
    let ends = simp to_z-of_z at c.in_ok-add.ensures.to in
    let adds = simp to_z-of_z at c.in_ok-add.ensures.adds in
    line_added c.args.ray.start c.args.ray.slope c.args.builder.now.latest c.args.span c.requires c.args.builder.now.done.items c.add.new.self.done.items c.add.new.self.latest ends adds

pub returns-clause-last : goal.returns-clause-last
returns-clause-last c =
    let to : SFits w64 c.args.span.to = search rules in
    let start : SFits w64 c.args.ray.start = search rules in
    let slope : SFits w64 c.args.ray.slope = search rules in
    let last = simp to_z-of_z at c.in_ok-add.ensures.last in
    line_last c.args.ray.start c.args.ray.slope c.args.builder.now.latest c.args.span c.requires c.add.new.self.latest last
