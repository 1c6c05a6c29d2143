use Rattle.std.proofs.Common.{◌≡◌, List, map, take, true}
use Rattle.pb_core_flat.specs.Stops.{moving, IsByFalling}
use Rattle.pb_part_visits.specs.Visits.{visit_of, are_narrow, VisitsAmong, MoversAmong}
use Rattle.pb_affine.specs.declared.lin.Lin.{Lin}
use Rattle.pb_core_language.specs.declared.tree.Bounds.{Bounds}
use Rattle.pb_part_visits.proofs.visit.moving_in.Given as goal

abbrev pub invariant-loop-visit : goal.invariant-loop-visit
invariant-loop-visit l = record {
  sorted : IsByFalling (map visit_of l.sorted.items) (moving (map visit_of (take l.visit-index l.list)));
  among : (h : Bounds) (cuts : List Lin) → VisitsAmong h cuts (map visit_of l.list) → MoversAmong h cuts (map visit_of l.sorted.items);
  narrow : are_narrow (map visit_of l.list) ≡ true → are_narrow (map visit_of l.sorted.items) ≡ true;
}
