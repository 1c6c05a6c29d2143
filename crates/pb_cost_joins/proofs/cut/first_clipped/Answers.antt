use Rattle.std.proofs.Common.{rules, ◌≡◌, ◌∙◌, ◌≤ℤ◌, pos, sym, subst, SFits, w64, to_z-of_z}
use Rattle.pb_cost_joins.specs.Adding.{tall}
use Rattle.pb_cost_joins.specs.Clipped.{clipped}
use Rattle.pb_cost_joins.proofs.Counts.{first_low, first_high, first_clipped, clipped_first}
use Rattle.pb_cost_joins.proofs.cut.first_clipped.Goals as goal

pub begin-requires-clause-low : goal.begin-requires-clause-low
begin-requires-clause-low c =
    let fits : SFits w64 c.start_of.result = search rules in
    simp to_z-of_z (subst (λ v. pos 0 ≤ℤ v) (sym c.start_of.ensures) (first_low c.args.span c.args.line c.requires))

pub begin-requires-clause-high : goal.begin-requires-clause-high
begin-requires-clause-high c =
    let fits : SFits w64 c.start_of.result = search rules in
    simp to_z-of_z (subst (λ v. v ≤ℤ tall) (sym c.start_of.ensures) (first_high c.args.span c.args.line c.requires))

pub returns : goal.returns
returns c =
    let fits : SFits w64 c.start_of.result = search rules in
    let from : SFits w64 c.args.span.from = search rules in
    let to = simp to_z-of_z at c.begin.ensures.to in
    let value = simp to_z-of_z at c.begin.ensures.value in
    let is = simp to_z-of_z at c.begin.ensures.is in
    let first : clipped c.args.span c.args.line c.args.span.from ≡ c.start_of.result = first_clipped c.args.span c.args.line c.requires ∙ sym c.start_of.ensures in
    clipped_first c.args.span c.args.line c.begin.result.done.items c.begin.result.latest to (value ∙ sym first) (is (clipped c.args.span c.args.line) first)
