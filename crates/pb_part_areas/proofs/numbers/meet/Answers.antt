use Rattle.std.proofs.Common.{inl}
use Rattle.pb_part_areas.proofs.Meets.{meeting_edge}
use Rattle.pb_part_areas.proofs.numbers.meet.Goals as goal

pub returns-else-fixed-param-clause-edge : goal.returns-else-fixed-param-clause-edge
returns-else-fixed-param-clause-edge c = λ range cuts f k. meeting_edge range cuts c.args.fixed c.args.param _ f k c.requires.still c.requires.grows (inl c.gap.ensures)
