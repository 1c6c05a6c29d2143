use Rattle.pb_part_visits.proofs.Fresh.{end_there}
use Rattle.pb_part_visits.proofs.visit.has_end.Goals as goal

pub returns-then-is_same : goal.returns-then-is_same
returns-then-is_same c = λ e holds h.
    end_there holds c.args.list.now c.loop-other.other-index c.args.end c.loop-other-test.true (c.is_same.ensures.role c.if-is_same.true) (c.is_same.ensures.at c.if-is_same.true) h
