use Rattle.pb_part_areas.specs.Areas.{has, have}
use Rattle.pb_part_firsts.specs.Parts.{flat}
use Rattle.pb_part_firsts.proofs.Groups.{past_group}
use Rattle.pb_part_firsts.proofs.parts.without_met.Goals as goal

pub returns-then-are_past-clause-rest : goal.returns-then-are_past-clause-rest
returns-then-are_past-clause-rest c = λ h g n role x.
    past_group (have (flat c.args.reach.items) n role x) (has c.args.group.now.around n role x) (have c.args.group.now.areas.items n role x) (g.around n role x)
    ((rw c.deref.ensures.value at (c.are_past.ensures c.if-are_past.true)) h n role x)
