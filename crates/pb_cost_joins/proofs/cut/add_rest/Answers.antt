use Rattle.std.proofs.Common.{◌≤ℤ◌, ◌<ℤ◌, pos, ◌+ℤ◌, ℤ, arith}
use Rattle.std.proofs.lemmas.Int.{ints}
use Rattle.pb_cost_joins.proofs.Counts.{rest_goes, rest_added, behind_low, behind_high, next_value}
use Rattle.pb_cost_joins.proofs.cut.add_rest.Goals as goal

after : (x : ℤ) → x ≤ℤ (x +ℤ pos 1)
after x = omega (arith, ints)

before : (x y : ℤ) → x <ℤ y → (x +ℤ pos 1) ≤ℤ y
before x y h = omega (arith, ints, h)

pub behind-behind-requires-clause-low : goal.behind-behind-requires-clause-low
behind-behind-requires-clause-low c = behind_low c.args.line.ray.start c.args.line.ray.slope c.args.line.weight _ (next_value c.args.line.ray.start c.args.line.ray.slope c.args.span.from) c.requires.mild.weight_high
    (c.requires.mild.low (c.args.span.from +ℤ pos 1) (after c.args.span.from) (before c.args.span.from c.args.span.to c.requires.some))

pub behind-behind-requires-clause-high : goal.behind-behind-requires-clause-high
behind-behind-requires-clause-high c = behind_high c.args.line.ray.start c.args.line.ray.slope c.args.line.weight _ (next_value c.args.line.ray.start c.args.line.ray.slope c.args.span.from) c.requires.mild.weight_high
    (c.requires.mild.high (c.args.span.from +ℤ pos 1) (after c.args.span.from) (before c.args.span.from c.args.span.to c.requires.some))

pub add_lines-requires : goal.add_lines-requires
add_lines-requires c = rest_goes c.args.span c.args.line c.requires.mild c.behind_first-rest.result c.zero-zero.result c.behind-behind.result c.args.builder.now.latest c.behind_first-rest.ensures.from c.behind_first-rest.ensures.to c.zero-zero.ensures.start c.zero-zero.ensures.slope c.behind-behind.ensures.start c.behind-behind.ensures.slope c.args.builder.now.done.items c.requires.begun

pub returns : goal.returns
returns c = rest_added c.args.span c.args.line c.requires.mild c.behind_first-rest.result c.zero-zero.result c.behind-behind.result c.args.builder.now.latest c.behind_first-rest.ensures.from c.behind_first-rest.ensures.to c.zero-zero.ensures.start c.zero-zero.ensures.slope c.behind-behind.ensures.start c.behind-behind.ensures.slope c.args.builder.now.done.items c.requires.begun c.args.builder.now.done.items c.add_lines.new.builder.done.items c.add_lines.new.builder.latest c.in_ok-add_lines.ensures
