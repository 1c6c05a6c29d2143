use Rattle.std.proofs.Common.{rules, ◌≡◌, ◌∙◌, pos, ◌-ℤ◌, arith, SFits, w64, to_z-of_z}
use Rattle.std.proofs.lemmas.Int.{ints}
use Rattle.pb_cost_pieces.specs.Lines.{along}
use Rattle.pb_cost_pieces.proofs.Lines.{along_from_zero}
use Rattle.pb_cost_pieces.proofs.stretch.Stretch.value.Goals as goal

pub returns : goal.returns
returns c =
    let low = c.requires.low in
    let high = c.requires.high in
    let from_low = c.args.self.now.from_low in
    let fits : SFits w64 c.value_after.result = search rules in
    let start_fits : SFits w64 c.args.self.now.start = search rules in
    let slope_fits : SFits w64 c.args.self.now.slope = search rules in
    let from_fits : SFits w64 c.args.self.now.from = search rules in
    let n_fits : SFits w64 c.args.n = c.ranges.n in
    let steps : SFits w64 (c.args.n -ℤ c.args.self.now.from) = omega (arith, ints, low, high, from_low) in
    let e : c.value_after.result ≡ along c.args.self.now.start c.args.self.now.slope (pos 0) (c.args.n -ℤ c.args.self.now.from) = simp to_z-of_z at c.value_after.ensures in
    to_z-of_z fits ∙ e ∙ along_from_zero c.args.self.now.start c.args.self.now.slope c.args.self.now.from c.args.n
