use Rattle.std.proofs.Common.{rules, SFits, w64, to_z-of_z, arith}
use Rattle.std.proofs.lemmas.Int.{ints}
use Rattle.pb_cost_joins.proofs.Counts.{clipped_single, clipped_whole}
use Rattle.pb_cost_joins.proofs.cut.clipped_builder.Goals as goal

pub returns-then-span : goal.returns-then-span
returns-then-span c = clipped_whole c.args.span c.args.line c.first_clipped-builder.result.done.items c.first_clipped-builder.result.latest c.add_rest.new.builder.done.items c.add_rest.new.builder.latest c.first_clipped-builder.ensures c.in_ok-add_rest.ensures

pub returns : goal.returns
returns c =
    let from : SFits w64 c.args.span.from = search rules in
    let to : SFits w64 c.args.span.to = search rules in
    let single = simp to_z-of_z at c.if-span.false in
    clipped_single c.args.span c.args.line c.first_clipped-builder.result.done.items c.first_clipped-builder.result.latest (omega (arith, ints, single)) c.first_clipped-builder.ensures
