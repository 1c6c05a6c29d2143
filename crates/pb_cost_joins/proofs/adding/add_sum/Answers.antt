use Rattle.std.proofs.Common.{rules, SFits, w64, to_z-of_z}
use Rattle.pb_cost_joins.proofs.GoingOn.{line_more, line_step, line_tame, line_added, sum_goes, sum_added}
use Rattle.pb_cost_joins.proofs.adding.add_sum.Goals as goal

pub add-requires-clause-more : goal.add-requires-clause-more
add-requires-clause-more c =
    let to : SFits w64 c.args.span.to = search rules in
    simp to_z-of_z (line_more c.sum_of-sum.result.start c.sum_of-sum.result.slope c.args.builder.now.latest c.args.span (sum_goes c.args.a c.args.b c.sum_of-sum.result.start c.sum_of-sum.result.slope c.sum_of-sum.ensures.start c.sum_of-sum.ensures.slope c.args.span c.args.builder.now.latest c.requires))

pub add-requires-clause-step : goal.add-requires-clause-step
add-requires-clause-step c =
    let start : SFits w64 c.sum_of-sum.result.start = search rules in
    simp to_z-of_z (line_step c.sum_of-sum.result.start c.sum_of-sum.result.slope c.args.builder.now.latest c.args.span (sum_goes c.args.a c.args.b c.sum_of-sum.result.start c.sum_of-sum.result.slope c.sum_of-sum.ensures.start c.sum_of-sum.ensures.slope c.args.span c.args.builder.now.latest c.requires))

pub add-requires-clause-tame : goal.add-requires-clause-tame
add-requires-clause-tame c =
    let to : SFits w64 c.args.span.to = search rules in
    let start : SFits w64 c.sum_of-sum.result.start = search rules in
    let slope : SFits w64 c.sum_of-sum.result.slope = search rules in
    simp to_z-of_z (line_tame c.sum_of-sum.result.start c.sum_of-sum.result.slope c.args.builder.now.latest c.args.span (sum_goes c.args.a c.args.b c.sum_of-sum.result.start c.sum_of-sum.result.slope c.sum_of-sum.ensures.start c.sum_of-sum.ensures.slope c.args.span c.args.builder.now.latest c.requires))

pub returns : goal.returns
returns c =
    let to : SFits w64 c.args.span.to = search rules in
    let start : SFits w64 c.sum_of-sum.result.start = search rules in
    let slope : SFits w64 c.sum_of-sum.result.slope = search rules in
    let ends = simp to_z-of_z at c.in_ok-add.ensures.to in
    let adds = simp to_z-of_z at c.in_ok-add.ensures.adds in
    sum_added c.args.a c.args.b c.sum_of-sum.result.start c.sum_of-sum.result.slope c.sum_of-sum.ensures.start c.sum_of-sum.ensures.slope c.args.span c.args.builder.now.done.items c.args.builder.now.latest c.add.new.self.done.items c.add.new.self.latest
    (line_added c.sum_of-sum.result.start c.sum_of-sum.result.slope c.args.builder.now.latest c.args.span (sum_goes c.args.a c.args.b c.sum_of-sum.result.start c.sum_of-sum.result.slope c.sum_of-sum.ensures.start c.sum_of-sum.ensures.slope c.args.span c.args.builder.now.latest c.requires) c.args.builder.now.done.items c.add.new.self.done.items c.add.new.self.latest ends adds)
