use Rattle.std.proofs.Common.{rules, sym, pos, get_or, SFits, w64, to_z-of_z}
use Rattle.pb_diff_apart.proofs.Least.{none_below, least_below}
use Rattle.pb_diff_apart.proofs.apart.first_below.Goals as goal

pub returns-in-None : goal.returns-in-None
returns-in-None c = none_below c.args.range c.args.g.now c.args.h.now c.args.p c.args.q c.system_of-system.result c.requires.role c.system_of-system.ensures.solutions c.in-None.ensures

pub returns-in-Some : goal.returns-in-Some
returns-in-Some c =
    let n_fits : SFits w64 (get_or c.in-Some.numbers 1 (pos 0)) = search rules in
    let index_fits : SFits w64 (get_or c.in-Some.numbers 2 (pos 0)) = search rules in
    simp to_z-of_z (least_below c.args.range c.args.g.now c.args.h.now c.args.p c.args.q c.system_of-system.result c.in-Some.numbers (sym c.system_of-system.ensures.vars) c.requires.role c.system_of-system.ensures.solutions c.in-Some.ensures)
