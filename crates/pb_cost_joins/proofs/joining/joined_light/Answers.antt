use Rattle.std.proofs.Common.{rules, ◌∙◌, ◌*ℤ◌, pos, sym, subst, SFits, w64, to_z-of_z}
use Rattle.pb_cost_pieces.specs.Lines.{IsTame}
use Rattle.pb_cost_joins.specs.Merging.{both_in}
use Rattle.pb_cost_joins.proofs.Counts.{count_of, count_says, both_tame}
use Rattle.pb_cost_joins.proofs.joining.joined_light.Goals as goal

pub returns-clause-count : goal.returns-clause-count
returns-clause-count c =
    let weight : SFits w64 c.weight_of-weight.result = search rules in
    count_of (both_in c.args.join c.args.a.now.list.items c.args.b.now.list.items) _ c.in_ok-list.ensures
    (subst (λ w. IsTame w (w *ℤ pos 900000200001) (both_in c.args.join c.args.a.now.list.items c.args.b.now.list.items) c.args.a.now.span.from c.args.a.now.span.to) (sym (to_z-of_z weight ∙ c.weight_of-weight.ensures)) (both_tame c.args.join c.args.a.now c.args.b.now c.requires.left c.requires.right c.requires.span))

pub returns-clause-says : goal.returns-clause-says
returns-clause-says c = count_says (both_in c.args.join c.args.a.now.list.items c.args.b.now.list.items) _ c.in_ok-list.ensures
