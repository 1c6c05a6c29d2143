use Rattle.pb_part_areas.proofs.Guarded.{aligned}
use Rattle.pb_part_areas.proofs.guard.guard_of.Goals as goal

pub returns-clause-aligned : goal.returns-clause-aligned
returns-clause-aligned c = λ d f. aligned d c.args.a c.shift-high.result c.from_of-from.result c.to_of-to.result c.shift-high.ensures f (c.from_of-from.ensures.edge d f.from) (c.to_of-to.ensures.edge d f.until)
