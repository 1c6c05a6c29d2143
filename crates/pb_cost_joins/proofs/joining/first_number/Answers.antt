use Rattle.std.proofs.Common.{rules, SFits, w64, to_z-of_z, ◌≡◌, ◌∙◌, ◌≤ℤ◌, pos, sym, ap, subst}
use Rattle.pb_cost_pieces.specs.Lines.{joined, value_in}
use Rattle.pb_cost_joins.specs.Adding.{tall}
use Rattle.pb_cost_joins.specs.Merging.{both_in}
use Rattle.pb_cost_joins.proofs.Counts.{left_first_low, left_first_high, right_first_low, right_first_high, both_first_low, both_first_high, first_read}
use Rattle.pb_cost_joins.proofs.joining.first_number.Goals as goal

pub of-value-requires-clause-x_low : goal.of-value-requires-clause-x_low
of-value-requires-clause-x_low c =
    let fits : SFits w64 c.first_value.result = search rules in
    simp to_z-of_z (subst (λ v. pos 0 ≤ℤ v) (sym c.first_value.ensures) (left_first_low c.args.join c.args.a.now c.args.b.now c.requires.left c.requires.right c.requires.span c.requires.light))

pub of-value-requires-clause-x_high : goal.of-value-requires-clause-x_high
of-value-requires-clause-x_high c =
    let fits : SFits w64 c.first_value.result = search rules in
    simp to_z-of_z (subst (λ v. v ≤ℤ tall) (sym c.first_value.ensures) (left_first_high c.args.join c.args.a.now c.args.b.now c.requires.left c.requires.right c.requires.span c.requires.light))

pub of-value-requires-clause-y_low : goal.of-value-requires-clause-y_low
of-value-requires-clause-y_low c =
    let fits : SFits w64 c.first_value-2.result = search rules in
    simp to_z-of_z (subst (λ v. pos 0 ≤ℤ v) (sym (c.first_value-2.ensures ∙ ap (λ s. value_in c.args.b.now.list.items s.from) c.requires.span)) (right_first_low c.args.join c.args.a.now c.args.b.now c.requires.left c.requires.right c.requires.span c.requires.light))

pub of-value-requires-clause-y_high : goal.of-value-requires-clause-y_high
of-value-requires-clause-y_high c =
    let fits : SFits w64 c.first_value-2.result = search rules in
    simp to_z-of_z (subst (λ v. v ≤ℤ tall) (sym (c.first_value-2.ensures ∙ ap (λ s. value_in c.args.b.now.list.items s.from) c.requires.span)) (right_first_high c.args.join c.args.a.now c.args.b.now c.requires.left c.requires.right c.requires.span c.requires.light))

pub begin-requires-clause-low : goal.begin-requires-clause-low
begin-requires-clause-low c =
    let one : SFits w64 c.first_value.result = search rules in
    let two : SFits w64 c.first_value-2.result = search rules in
    let fits : SFits w64 c.of-value.result = search rules in
    let is = simp to_z-of_z at c.of-value.ensures in
    let value : both_in c.args.join c.args.a.now.list.items c.args.b.now.list.items c.args.a.now.span.from ≡ c.of-value.result = sym (is ∙ ap (λ v. joined c.args.join v c.first_value-2.result) c.first_value.ensures ∙ ap (λ v. joined c.args.join (value_in c.args.a.now.list.items c.args.a.now.span.from) v) (c.first_value-2.ensures ∙ ap (λ s. value_in c.args.b.now.list.items s.from) c.requires.span)) in
    simp to_z-of_z (subst (λ v. pos 0 ≤ℤ v) value (both_first_low c.args.join c.args.a.now c.args.b.now c.requires.left c.requires.right c.requires.span c.requires.light))

pub begin-requires-clause-high : goal.begin-requires-clause-high
begin-requires-clause-high c =
    let one : SFits w64 c.first_value.result = search rules in
    let two : SFits w64 c.first_value-2.result = search rules in
    let fits : SFits w64 c.of-value.result = search rules in
    let is = simp to_z-of_z at c.of-value.ensures in
    let value : both_in c.args.join c.args.a.now.list.items c.args.b.now.list.items c.args.a.now.span.from ≡ c.of-value.result = sym (is ∙ ap (λ v. joined c.args.join v c.first_value-2.result) c.first_value.ensures ∙ ap (λ v. joined c.args.join (value_in c.args.a.now.list.items c.args.a.now.span.from) v) (c.first_value-2.ensures ∙ ap (λ s. value_in c.args.b.now.list.items s.from) c.requires.span)) in
    simp to_z-of_z (subst (λ v. v ≤ℤ tall) value (both_first_high c.args.join c.args.a.now c.args.b.now c.requires.left c.requires.right c.requires.span c.requires.light))

pub returns : goal.returns
returns c =
    let one : SFits w64 c.first_value.result = search rules in
    let two : SFits w64 c.first_value-2.result = search rules in
    let fits : SFits w64 c.of-value.result = search rules in
    let is = simp to_z-of_z at c.of-value.ensures in
    let value : both_in c.args.join c.args.a.now.list.items c.args.b.now.list.items c.args.a.now.span.from ≡ c.of-value.result = sym (is ∙ ap (λ v. joined c.args.join v c.first_value-2.result) c.first_value.ensures ∙ ap (λ v. joined c.args.join (value_in c.args.a.now.list.items c.args.a.now.span.from) v) (c.first_value-2.ensures ∙ ap (λ s. value_in c.args.b.now.list.items s.from) c.requires.span)) in
    let from : SFits w64 c.args.a.now.span.from = search rules in
    let to = simp to_z-of_z at c.begin.ensures.to in
    let so_far = simp to_z-of_z at c.begin.ensures.is in
    first_read c.args.join c.args.a.now c.args.b.now c.requires.left c.requires.right c.requires.span c.requires.light c.begin.result.done.items c.begin.result.latest to (so_far (both_in c.args.join c.args.a.now.list.items c.args.b.now.list.items) value)
