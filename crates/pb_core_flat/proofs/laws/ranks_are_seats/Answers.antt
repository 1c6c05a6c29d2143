use Rattle.pb_core_flat.proofs.Seats.{end_is_at, seat_of_rank, rank_of_seat}
use Rattle.pb_core_flat.proofs.laws.ranks_are_seats.Goals as goal

pub returns-clause-end : goal.returns-clause-end
returns-clause-end c = end_is_at

pub returns-clause-seat : goal.returns-clause-seat
returns-clause-seat c = seat_of_rank

pub returns-clause-rank : goal.returns-clause-rank
returns-clause-rank c = rank_of_seat
