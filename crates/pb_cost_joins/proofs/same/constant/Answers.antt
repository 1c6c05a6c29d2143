use Rattle.std.proofs.Common.{◌*ℤ◌, pos, sym, subst, SFits, w64, to_z-of_z}
use Rattle.pb_cost_pieces.specs.Lines.{IsTame}
use Rattle.pb_cost_joins.proofs.Counts.{constant_are, constant_tame, count_of, count_says}
use Rattle.pb_cost_joins.proofs.same.constant.Goals as goal

pub returns-clause-count : goal.returns-clause-count
returns-clause-count c =
    let number : SFits w64 c.args.number = c.ranges.number in
    let start = simp to_z-of_z at c.flat.ensures.start in
    count_of (λ n. c.args.number) _ (constant_are c.in_ok-list.list.items c.flat.result c.args.span c.args.number c.in_ok-list.ensures c.flat.ensures.from c.flat.ensures.to start c.flat.ensures.slope) (subst (λ w. IsTame w (w *ℤ pos 900000200001) (λ n. c.args.number) c.args.span.from c.args.span.to) (sym (to_z-of_z number)) (constant_tame c.args.number c.args.span.from c.args.span.to c.requires.low))

pub returns-clause-says : goal.returns-clause-says
returns-clause-says c =
    let number : SFits w64 c.args.number = c.ranges.number in
    let start = simp to_z-of_z at c.flat.ensures.start in
    count_says (λ n. c.args.number) _ (constant_are c.in_ok-list.list.items c.flat.result c.args.span c.args.number c.in_ok-list.ensures c.flat.ensures.from c.flat.ensures.to start c.flat.ensures.slope)
