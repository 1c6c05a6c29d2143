use Rattle.pb_part_visits.proofs.VisitLists.{put_at}
use Rattle.pb_part_visits.proofs.visit.put_behind.Goals as goal

pub returns : goal.returns
returns c = put_at c.args.visit _ _ _ (rw c.deref.ensures.value at c.place_of-place.ensures.is) c.in_ok-insert.ensures.items
