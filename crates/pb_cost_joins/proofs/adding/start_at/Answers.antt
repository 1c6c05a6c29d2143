use Rattle.std.proofs.Common.{rules, ◌∙◌, ◌-ℤ◌, SFits, w64, to_z-of_z}
use Rattle.pb_cost_pieces.proofs.Lines.{along_from_zero}
use Rattle.pb_cost_joins.proofs.adding.start_at.Goals as goal

pub returns : goal.returns
returns c =
    let from : SFits w64 c.args.span.from = search rules in
    let next : SFits w64 c.args.rest.from = search rules in
    let steps : SFits w64 (c.args.rest.from -ℤ c.args.span.from) = search rules in
    let is = simp to_z-of_z at c.value_after.ensures in
    let fits : SFits w64 c.value_after.result = search rules in
    to_z-of_z fits ∙ is ∙ along_from_zero c.args.ray.start c.args.ray.slope c.args.span.from c.args.rest.from
