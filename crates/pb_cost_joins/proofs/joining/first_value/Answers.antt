use Rattle.std.proofs.Common.{rules, ◌∙◌, SFits, w64, to_z-of_z}
use Rattle.pb_cost_joins.proofs.Counts.{some_first, first_said}
use Rattle.pb_cost_joins.proofs.joining.first_value.Goals as goal

pub index-first-requires : goal.index-first-requires
index-first-requires c = let some = some_first c.args.count.now c.requires in search (rules, some)

pub returns : goal.returns
returns c =
    let fits : SFits w64 c.index-first.result.now.start = search rules in
    to_z-of_z fits ∙ first_said c.args.count.now c.requires c.index-first.result.now c.index-first.ensures
