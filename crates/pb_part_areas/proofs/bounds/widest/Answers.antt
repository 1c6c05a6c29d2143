use Rattle.std.proofs.Common.{refl}
use Rattle.pb_part_areas.proofs.Around.{widest}
use Rattle.pb_part_areas.proofs.bounds.widest.Goals as goal

pub returns : goal.returns
returns c = widest c.args.a c.args.b (record { role = c.args.a.role; low = c.lower-low.result; end = c.higher-end.result; from = c.least-from.result; until = c.later_end-until.result })
    c.requires.role refl c.lower-low.ensures.is c.higher-end.ensures.is c.least-from.ensures.is c.later_end-until.ensures.is
