use Rattle.std.proofs.Common.{◌≡◌, rules, SFits, w64, to_z-of_z, sym, ◌∙◌, true, false}
use Rattle.pb_part_areas.specs.Areas.{is_param}
use Rattle.pb_part_first.proofs.Firsts.{still_earliest, never}
use Rattle.pb_part_first.proofs.first.earliest.Goals as goal

pub returns-then-is_param-clause-is : goal.returns-then-is_param-clause-is
returns-then-is_param-clause-is c =
    let fits : SFits w64 c.start_of.result = search rules in
    let grows : is_param c.args.a.low.base ≡ true = sym c.is_param.ensures ∙ c.if-is_param.true in
    let s = c.start_of.ensures in
    simp to_z-of_z (still_earliest c.args.a c.args.range c.start_of.result (λ still _. never (sym still ∙ grows)) s.from s.low s.either)

pub returns-else-is_param-2-clause-is : goal.returns-else-is_param-2-clause-is
returns-else-is_param-2-clause-is c =
    let fits : SFits w64 c.start_of-else-is_param-2.result = search rules in
    let still : is_param c.args.a.end.base ≡ false = sym c.is_param-else-is_param.ensures ∙ c.if-is_param-2.false in
    let s = c.start_of-else-is_param-2.ensures in
    simp to_z-of_z (still_earliest c.args.a c.args.range c.start_of-else-is_param-2.result (λ _ grows. never (sym still ∙ grows)) s.from s.low s.either)
