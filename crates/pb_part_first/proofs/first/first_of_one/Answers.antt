use Rattle.std.proofs.Common.{◌≡◌, sym, ◌∙◌, subst, rules, SFits, w64, to_z-of_z}
use Rattle.pb_cases.specs.Regions.{IsFirst}
use Rattle.pb_part_areas.specs.Areas.{has, at}
use Rattle.pb_part_first.proofs.Firsts.{one_found, one_missing}
use Rattle.pb_part_first.proofs.first.first_of_one.Goals as goal

pub returns-then-is_there : goal.returns-then-is_there
returns-then-is_there c =
    let n_fits : SFits w64 c.earliest-n.result = search rules in
    let x_fits : SFits w64 c.value.result = search rules in
    let x_is : c.value.result ≡ at c.args.a.low c.earliest-n.result = simp to_z-of_z at c.value.ensures in
    simp to_z-of_z (subst (λ x. IsFirst c.args.range (has c.args.a) c.earliest-n.result c.args.a.role x) (sym x_is)
    (one_found c.args.a c.args.range c.earliest-n.result c.earliest-n.ensures.is (simp to_z-of_z at (sym c.is_there.ensures ∙ c.if-is_there.true))))

pub returns-else-is_there : goal.returns-else-is_there
returns-else-is_there c =
    let n_fits : SFits w64 c.earliest-n.result = search rules in
    one_missing c.args.a c.args.range c.earliest-n.result c.earliest-n.ensures.is (simp to_z-of_z at (sym c.is_there.ensures ∙ c.if-is_there.false))
