use Rattle.std.proofs.Common.{◌≡◌, take, ap, arith, SFits, w64, to_z-of_z}
use Rattle.std.proofs.lemmas.List.{length-take}
use Rattle.pb_diff.specs.declared.constraint.Constraint.{Constraint}
use Rattle.pb_diff.specs.Systems.{IsAllowed}
use Rattle.pb_diff.proofs.Placed.{system_with}
use Rattle.pb_diff.proofs.system.System.bound.Goals as goal

pub invariant_of-self : goal.invariant_of-self
invariant_of-self c =
    let vars : c.self.inside.vars ≡ c.args.self.now.vars = ap (λ d. d.vars) c.self.view_is in
    let k : Constraint = record { a = c.args.a; b = c.args.b; c = c.args.c } in
    let own : IsAllowed c.self.inside.vars k = record { a_in = omega (arith, c.requires.a_in); b_in = omega (arith, c.requires.b_in); near = c.requires.near } in
    let fits : SFits w64 c.args.c = c.ranges.c in
    let size = length-take c.put-self-inside.result c.put-self-inside.new.kept in
    (c.put-self-inside.ensures.within, system_with c.self.inside.vars k (take c.self.inside.count c.self.inside.kept) _ c.self.invariant.1 own (omega (arith, size, c.put-self-inside.ensures.within)) (simp to_z-of_z at c.put-self-inside.ensures.kept))
