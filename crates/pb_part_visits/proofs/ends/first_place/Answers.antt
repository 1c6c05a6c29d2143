use Rattle.std.proofs.Common.{sym, ◌∙◌}
use Rattle.pb_part_visits.proofs.Meets.{small_off, small_sum, small_of_bound}
use Rattle.pb_part_visits.proofs.EndAreas.{moving_place, staying_place}
use Rattle.pb_part_visits.proofs.EndFits.{moving_cut, staying_cut}
use Rattle.pb_part_visits.proofs.ends.first_place.Goals as goal

pub returns-then-is_moving-clause-is : goal.returns-then-is_moving-clause-is
returns-then-is_moving-clause-is c = λ h k n.
    moving_place c.args.end c.args.over.low c.moved.result n (sym c.is_moving.ensures ∙ c.if-is_moving.true) (c.moved.ensures.is (small_sum c.args.over.low.off c.args.end.at.off (small_of_bound c.args.over.low k.low) h))

pub returns-then-is_moving-clause-cut : goal.returns-then-is_moving-clause-cut
returns-then-is_moving-clause-cut c = λ cuts h k a.
    moving_cut cuts c.args.end c.args.over c.moved.result (sym c.is_moving.ensures ∙ c.if-is_moving.true) h k a (c.moved.ensures.is (small_sum c.args.over.low.off c.args.end.at.off (small_of_bound c.args.over.low k.low) h))

pub returns-then-is_moving-clause-small : goal.returns-then-is_moving-clause-small
returns-then-is_moving-clause-small c = λ h. c.moved.ensures.small

pub returns-else-is_moving-clause-is : goal.returns-else-is_moving-clause-is
returns-else-is_moving-clause-is c = λ h k n. staying_place c.args.end n _ (sym c.is_moving.ensures ∙ c.if-is_moving.false)

pub returns-else-is_moving-clause-cut : goal.returns-else-is_moving-clause-cut
returns-else-is_moving-clause-cut c = λ cuts h k a. staying_cut cuts c.args.end c.args.over (sym c.is_moving.ensures ∙ c.if-is_moving.false) h a

pub returns-else-is_moving-clause-small : goal.returns-else-is_moving-clause-small
returns-else-is_moving-clause-small c = λ h. small_off c.args.end.at.off h
