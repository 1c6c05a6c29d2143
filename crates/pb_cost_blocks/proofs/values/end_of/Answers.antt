use Rattle.std.proofs.Common.{◌∙◌, sym, rules, SFits, w32, w64, to_z-of_z}
use Rattle.pb_cost_blocks.proofs.Foreachs.{small_low, small_high, fixed_found, param_found, var_not}
use Rattle.pb_cost_blocks.proofs.values.end_of.Goals as goal

pub fixed-requires-clause-low : goal.fixed-requires-clause-low
fixed-requires-clause-low c =
    let fits : SFits w64 c.from-off.result = search rules in
    let small = simp to_z-of_z at c.is_small.ensures in
    simp to_z-of_z (small_low c.from-off.result (sym small ∙ search rules))

pub fixed-requires-clause-high : goal.fixed-requires-clause-high
fixed-requires-clause-high c =
    let fits : SFits w64 c.from-off.result = search rules in
    let small = simp to_z-of_z at c.is_small.ensures in
    simp to_z-of_z (small_high c.from-off.result (sym small ∙ search rules))

pub param-requires-clause-low : goal.param-requires-clause-low
param-requires-clause-low c =
    let fits : SFits w64 c.from-off.result = search rules in
    let small = simp to_z-of_z at c.is_small.ensures in
    simp to_z-of_z (small_low c.from-off.result (sym small ∙ search rules))

pub param-requires-clause-high : goal.param-requires-clause-high
param-requires-clause-high c =
    let fits : SFits w64 c.from-off.result = search rules in
    let small = simp to_z-of_z at c.is_small.ensures in
    simp to_z-of_z (small_high c.from-off.result (sym small ∙ search rules))

pub returns-in-Fixed : goal.returns-in-Fixed
returns-in-Fixed c =
    let own : SFits w32 c.args.lin.off = search rules in
    let fits : SFits w64 c.from-off.result = search rules in
    let same = simp to_z-of_z at c.from-off.ensures in
    let small = simp to_z-of_z at c.is_small.ensures in
    let start = simp to_z-of_z at c.fixed.ensures.start in
    fixed_found c.args.span c.args.lin c.fixed.result c.from-off.result c.in-Fixed.is same (sym small ∙ search rules) start c.fixed.ensures.slope

pub returns-in-Param : goal.returns-in-Param
returns-in-Param c =
    let own : SFits w32 c.args.lin.off = search rules in
    let fits : SFits w64 c.from-off.result = search rules in
    let same = simp to_z-of_z at c.from-off.ensures in
    let small = simp to_z-of_z at c.is_small.ensures in
    let start = simp to_z-of_z at c.param.ensures.start in
    param_found c.args.span c.args.lin c.param.result c.from-off.result c.in-Param.is same (sym small ∙ search rules) start c.param.ensures.slope

pub returns-in-Var : goal.returns-in-Var
returns-in-Var c = var_not c.args.lin c.in-Var.is
