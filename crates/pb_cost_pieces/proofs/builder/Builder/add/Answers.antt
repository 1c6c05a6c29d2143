use Rattle.std.proofs.Common.{◌≡◌, ◌∙◌, refl, sym, ap, subst, pos, ◌+ℤ◌, ◌<ℤ◌, arith, w64, to_z, of_z, to_z-of_z}
use Rattle.std.proofs.lemmas.Int.{ints}
use Rattle.pb_cost_pieces.specs.Lines.{along, value_at}
use Rattle.pb_cost_pieces.specs.Building.{Adds}
use Rattle.pb_cost_pieces.proofs.Lines.{along_here}
use Rattle.pb_cost_pieces.proofs.TameLines.{start_low, start_high, next_low, next_high, slope_low, slope_high}
use Rattle.pb_cost_pieces.proofs.Begin.{line_added, number_added}
use Rattle.pb_cost_pieces.proofs.builder.Builder.add.Goals as goal

pub add_number-requires-clause-low : goal.add_number-requires-clause-low
add_number-requires-clause-low c =
    let more = c.requires.more in
    let h = start_low c.args.start c.args.slope (c.args.self.now.latest.to +ℤ pos 1) c.args.to c.requires.tame (omega (arith, ints, more)) in
    let fits = c.ranges.start in
    omega (arith, ints, h, fits)

pub add_number-requires-clause-high : goal.add_number-requires-clause-high
add_number-requires-clause-high c =
    let more = c.requires.more in
    let h = start_high c.args.start c.args.slope (c.args.self.now.latest.to +ℤ pos 1) c.args.to c.requires.tame (omega (arith, ints, more)) in
    let fits = c.ranges.start in
    omega (arith, ints, h, fits)

pub add_line-requires-clause-slope_low : goal.add_line-requires-clause-slope_low
add_line-requires-clause-slope_low c =
    let less = c.if-self-to.true in
    let to_is = c.in_ok-add_number.ensures.to in
    let h = slope_low c.args.start c.args.slope (c.args.self.now.latest.to +ℤ pos 1) c.args.to c.requires.tame (omega (arith, ints, less, to_is)) in
    let fits = c.ranges.slope in
    omega (arith, ints, h, fits)

pub add_line-requires-clause-slope_high : goal.add_line-requires-clause-slope_high
add_line-requires-clause-slope_high c =
    let less = c.if-self-to.true in
    let to_is = c.in_ok-add_number.ensures.to in
    let h = slope_high c.args.start c.args.slope (c.args.self.now.latest.to +ℤ pos 1) c.args.to c.requires.tame (omega (arith, ints, less, to_is)) in
    let fits = c.ranges.slope in
    omega (arith, ints, h, fits)

pub add_line-requires-clause-low : goal.add_line-requires-clause-low
add_line-requires-clause-low c =
    let less = c.if-self-to.true in
    let to_is = c.in_ok-add_number.ensures.to in
    let value_is : value_at c.add_number.new.self.latest c.add_number.new.self.latest.to ≡ c.args.start = c.in_ok-add_number.ensures.last ∙ to_z-of_z c.ranges.start in
    let h = next_low c.args.start c.args.slope (c.args.self.now.latest.to +ℤ pos 1) c.args.to c.requires.tame (omega (arith, ints, less, to_is)) in
    let fits = c.ranges.slope in
    omega (arith, ints, h, value_is, fits)

pub add_line-requires-clause-high : goal.add_line-requires-clause-high
add_line-requires-clause-high c =
    let less = c.if-self-to.true in
    let to_is = c.in_ok-add_number.ensures.to in
    let value_is : value_at c.add_number.new.self.latest c.add_number.new.self.latest.to ≡ c.args.start = c.in_ok-add_number.ensures.last ∙ to_z-of_z c.ranges.start in
    let h = next_high c.args.start c.args.slope (c.args.self.now.latest.to +ℤ pos 1) c.args.to c.requires.tame (omega (arith, ints, less, to_is)) in
    let fits = c.ranges.slope in
    omega (arith, ints, h, value_is, fits)

pub returns-in_ok-add_line-clause-last : goal.returns-in_ok-add_line-clause-last
returns-in_ok-add_line-clause-last c =
    let value_is : value_at c.add_number.new.self.latest c.add_number.new.self.latest.to ≡ c.args.start = c.in_ok-add_number.ensures.last ∙ to_z-of_z c.ranges.start in
    c.in_ok-add_line.ensures.last
    ∙ ap (λ x. along (value_at c.add_number.new.self.latest c.add_number.new.self.latest.to) x c.add_number.new.self.latest.to (to_z w64 (of_z w64 c.args.to))) (to_z-of_z c.ranges.slope)
    ∙ ap (λ x. along (value_at c.add_number.new.self.latest c.add_number.new.self.latest.to) c.args.slope c.add_number.new.self.latest.to x) (to_z-of_z c.ranges.to)
    ∙ ap (λ x. along x c.args.slope c.add_number.new.self.latest.to c.args.to) value_is
    ∙ ap (λ x. along c.args.start c.args.slope x c.args.to) c.in_ok-add_number.ensures.to

pub returns-in_ok-add_line-clause-adds : goal.returns-in_ok-add_line-clause-adds
returns-in_ok-add_line-clause-adds c =
    let less = c.if-self-to.true in
    let to_is = c.in_ok-add_number.ensures.to in
    let value_is : value_at c.add_number.new.self.latest c.add_number.new.self.latest.to ≡ c.args.start = c.in_ok-add_number.ensures.last ∙ to_z-of_z c.ranges.start in
    let lt : (c.args.self.now.latest.to +ℤ pos 1) <ℤ c.args.to = omega (arith, ints, less, to_is) in
    line_added c.args.start c.args.slope c.args.self.now.latest.to c.args.to c.args.self.now.done.items c.args.self.now.latest c.add_number.new.self.done.items c.add_number.new.self.latest c.add_line.new.self.done.items c.add_line.new.self.latest
    refl to_is (c.in_ok-add_line.ensures.to ∙ to_z-of_z c.ranges.to) lt value_is
    (subst (λ v. Adds (λ n. v) c.args.self.now.done.items c.args.self.now.latest c.add_number.new.self.done.items c.add_number.new.self.latest) (to_z-of_z c.ranges.start) c.in_ok-add_number.ensures.adds)
    (subst (λ v. Adds (along (value_at c.add_number.new.self.latest c.add_number.new.self.latest.to) v c.add_number.new.self.latest.to) c.add_number.new.self.done.items c.add_number.new.self.latest c.add_line.new.self.done.items c.add_line.new.self.latest) (to_z-of_z c.ranges.slope) c.in_ok-add_line.ensures.adds)

pub returns-else-self-to-clause-last : goal.returns-else-self-to-clause-last
returns-else-self-to-clause-last c =
    let not_less = c.if-self-to.false in
    let more = c.requires.more in
    let to_is = c.in_ok-add_number.ensures.to in
    let here : c.args.to ≡ c.args.self.now.latest.to +ℤ pos 1 = omega (arith, ints, not_less, more, to_is) in
    c.in_ok-add_number.ensures.last ∙ to_z-of_z c.ranges.start ∙ sym (ap (λ x. along c.args.start c.args.slope (c.args.self.now.latest.to +ℤ pos 1) x) here ∙ along_here c.args.start c.args.slope (c.args.self.now.latest.to +ℤ pos 1))

pub returns-else-self-to-clause-adds : goal.returns-else-self-to-clause-adds
returns-else-self-to-clause-adds c =
    number_added c.args.start c.args.slope c.args.self.now.latest.to c.args.self.now.done.items c.args.self.now.latest c.add_number.new.self.done.items c.add_number.new.self.latest refl c.in_ok-add_number.ensures.to
    (subst (λ v. Adds (λ n. v) c.args.self.now.done.items c.args.self.now.latest c.add_number.new.self.done.items c.add_number.new.self.latest) (to_z-of_z c.ranges.start) c.in_ok-add_number.ensures.adds)
