use Rattle.std.proofs.Common.{rules, SFits, w64, to_z-of_z, ◌≤ℤ◌, subst, arith}
use Rattle.std.proofs.lemmas.Int.{ints}
use Rattle.pb_cost_joins.proofs.GoingOn.{part_ended}
use Rattle.pb_cost_joins.proofs.adding.add_part.Goals as goal

pub returns-else-builder-to : goal.returns-else-builder-to
returns-else-builder-to c =
    let latest : SFits w64 c.args.builder.now.latest.to = search rules in
    let to : SFits w64 c.end_of-to.result = search rules in
    let ended = simp to_z-of_z at c.if-builder-to.false in
    part_ended c.args.join c.args.builder.now.done.items c.args.builder.now.latest c.args.s.now c.args.t.now c.requires (subst (λ y. y ≤ℤ c.args.builder.now.latest.to) c.end_of-to.ensures.is (omega (arith, ints, ended)))
