use Rattle.std.proofs.Common.{rules, ◌≡◌, ◌∙◌, sym, ap, pos, ◌+ℤ◌, ◌*ℤ◌, arith, SFits, w64, to_z-of_z}
use Rattle.std.proofs.lemmas.Int.{ints}
use Rattle.pb_cost_pieces.specs.Lines.{along}
use Rattle.pb_cost_pieces.proofs.Lines.{along_zero}
use Rattle.pb_cost_pieces.proofs.ray.Ray.value_after.Goals as goal

pub returns : goal.returns
returns c =
    let start = c.args.self.start in
    let slope = c.args.self.slope in
    let fits : SFits w64 c.args.self.slope = search rules in
    let steps_fit : SFits w64 c.args.steps = c.ranges.steps in
    let is : c.grown.result ≡ c.args.self.slope *ℤ c.args.steps = simp to_z-of_z at c.grown.ensures.is in
    let e : along c.args.self.start c.args.self.slope (pos 0) c.args.steps ≡ c.args.self.start +ℤ c.grown.result = along_zero start slope c.args.steps ∙ ap (λ x. c.args.self.start +ℤ x) (sym is) in
    let low = c.grown.ensures.least in
    let high = c.grown.ensures.most in
    let start_low = c.args.self.start_low in
    let start_high = c.args.self.start_high in
    omega (arith, ints, e, low, high, start_low, start_high)
