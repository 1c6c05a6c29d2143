use Rattle.std.proofs.Common.{rules, SFits, w64, to_z-of_z}
use Rattle.pb_cost_joins.proofs.GoingOn.{s_low, t_low, s_least, s_most, t_least, t_most, lines_go, lines_added}
use Rattle.pb_cost_joins.proofs.adding.add_stretches.Goals as goal

pub ray_at-a-requires-clause-low : goal.ray_at-a-requires-clause-low
ray_at-a-requires-clause-low c =
    let from : SFits w64 c.args.span.from = search rules in
    simp to_z-of_z (s_low c.args.join c.args.s.now c.args.t.now c.args.builder.now.latest c.args.span c.requires.continues c.requires.next c.requires.to)

pub ray_at-a-requires-clause-least : goal.ray_at-a-requires-clause-least
ray_at-a-requires-clause-least c =
    let from : SFits w64 c.args.span.from = search rules in
    simp to_z-of_z (s_least c.args.join c.args.s.now c.args.t.now c.args.builder.now.latest c.args.span c.requires.continues c.requires.next c.requires.to)

pub ray_at-a-requires-clause-most : goal.ray_at-a-requires-clause-most
ray_at-a-requires-clause-most c =
    let from : SFits w64 c.args.span.from = search rules in
    simp to_z-of_z (s_most c.args.join c.args.s.now c.args.t.now c.args.builder.now.latest c.args.span c.requires.continues c.requires.next c.requires.to)

pub ray_at-b-requires-clause-low : goal.ray_at-b-requires-clause-low
ray_at-b-requires-clause-low c =
    let from : SFits w64 c.args.span.from = search rules in
    simp to_z-of_z (t_low c.args.join c.args.s.now c.args.t.now c.args.builder.now.latest c.args.span c.requires.continues c.requires.next c.requires.to)

pub ray_at-b-requires-clause-least : goal.ray_at-b-requires-clause-least
ray_at-b-requires-clause-least c =
    let from : SFits w64 c.args.span.from = search rules in
    simp to_z-of_z (t_least c.args.join c.args.s.now c.args.t.now c.args.builder.now.latest c.args.span c.requires.continues c.requires.next c.requires.to)

pub ray_at-b-requires-clause-most : goal.ray_at-b-requires-clause-most
ray_at-b-requires-clause-most c =
    let from : SFits w64 c.args.span.from = search rules in
    simp to_z-of_z (t_most c.args.join c.args.s.now c.args.t.now c.args.builder.now.latest c.args.span c.requires.continues c.requires.next c.requires.to)

pub add_lines-requires : goal.add_lines-requires
add_lines-requires c =
    let from : SFits w64 c.args.span.from = search rules in
    let a = simp to_z-of_z at c.ray_at-a.ensures.start in
    let b = simp to_z-of_z at c.ray_at-b.ensures.start in
    lines_go c.args.join c.args.s.now c.args.t.now c.args.builder.now.latest c.args.span c.requires.continues c.requires.next c.requires.to c.ray_at-a.result c.ray_at-b.result a c.ray_at-a.ensures.slope b c.ray_at-b.ensures.slope

pub returns : goal.returns
returns c =
    let from : SFits w64 c.args.span.from = search rules in
    let a = simp to_z-of_z at c.ray_at-a.ensures.start in
    let b = simp to_z-of_z at c.ray_at-b.ensures.start in
    lines_added c.args.join c.args.s.now c.args.t.now c.args.builder.now.latest c.args.span c.requires.continues c.requires.next c.requires.to c.ray_at-a.result c.ray_at-b.result c.args.builder.now.done.items c.add_lines.new.builder.done.items c.add_lines.new.builder.latest a c.ray_at-a.ensures.slope b c.ray_at-b.ensures.slope c.in_ok-add_lines.ensures
