use Rattle.std.proofs.Common.{rules, ◌*ℤ◌, pos, sym, subst, SFits, w64, to_z-of_z}
use Rattle.pb_cost_pieces.specs.Lines.{IsTame}
use Rattle.pb_cost_joins.specs.Clipped.{clipped}
use Rattle.pb_cost_joins.proofs.Counts.{count_of, count_says, clipped_tame}
use Rattle.pb_cost_joins.proofs.cut.clipped.Goals as goal

pub returns-clause-count : goal.returns-clause-count
returns-clause-count c =
    let weight : SFits w64 c.args.line.weight = search rules in
    count_of (clipped c.args.span c.args.line) _ c.in_ok-list.ensures (subst (λ w. IsTame w (w *ℤ pos 900000200001) (clipped c.args.span c.args.line) c.args.span.from c.args.span.to) (sym (to_z-of_z weight)) (clipped_tame c.args.span c.args.line c.requires))

pub returns-clause-says : goal.returns-clause-says
returns-clause-says c = count_says (clipped c.args.span c.args.line) _ c.in_ok-list.ensures
