use Rattle.std.proofs.Common.{◌≡◌, ℕ, ℤ, false, List, map, drop, true, Some}
use Rattle.pb_affine.specs.declared.lin.Lin.{Lin}
use Rattle.pb_affine.specs.declared.range.NRange.{NRange}
use Rattle.pb_core_language.specs.declared.protocol.CoreRole.{CoreRole}
use Rattle.pb_core_language.specs.Cuts.{edges, end_cuts}
use Rattle.pb_core_language.specs.Outcomes.{or_then}
use Rattle.pb_core_language.specs.Sound.{is_small}
use Rattle.pb_core_language.specs.Verdict.{IsIn}
use Rattle.pb_part_areas.specs.Areas.{at}
use Rattle.pb_core_flat.specs.Meets.{is_moving}
use Rattle.pb_core_flat.specs.Seated.{is_rank}
use Rattle.pb_part_takers.specs.Pieces.{AreAmong}
use Rattle.pb_part_firsts.specs.Firsts.{are_small}
use Rattle.pb_part_firsts.specs.Fitting.{EntriesFit}
use Rattle.pb_part_firsts.specs.Turns.{first_stop}
use Rattle.pb_part_visits.specs.Visits.{visit_of, are_narrow, IsBounded, VisitsAmong}
use Rattle.pb_part_firsts.proofs.EachSteps.{found_at}
use Rattle.pb_part_firsts.proofs.FixedStops.{at_both}
use Rattle.pb_part_firsts.proofs.each.add_at.Given as goal

abbrev pub invariant-loop-visit : goal.invariant-loop-visit
invariant-loop-visit l = record {
  gives : (range : NRange) (roles : List CoreRole) → is_moving l.end ≡ false → is_small l.end.at.off ≡ true → are_narrow (map visit_of l.visits) ≡ true → IsBounded l.over → (n : ℤ) (role : ℕ) (x : ℤ) → IsIn range n → is_rank roles n role x ≡ true →
      or_then (first_stop roles l.stops.items n role x) (found_at (at_both roles l.end n (at l.over.low n) (at l.over.high n)) (drop l.visit-index l.visits) role x)
      ≡ or_then (first_stop roles l.initial.stops.items n role x) (found_at (at_both roles l.end n (at l.over.low n) (at l.over.high n)) l.visits role x);
  fits : (range : NRange) (cuts : List Lin) → is_moving l.end ≡ false → is_small l.end.at.off ≡ true → are_narrow (map visit_of l.visits) ≡ true → IsBounded l.over → AreAmong (edges l.over.low l.over.high) cuts → AreAmong (end_cuts (Some l.over) l.end) cuts → VisitsAmong l.over cuts (map visit_of l.visits) →
      EntriesFit range cuts l.initial.stops.items → EntriesFit range cuts l.stops.items;
  small : are_narrow (map visit_of l.visits) ≡ true → are_small l.initial.stops.items ≡ true → are_small l.stops.items ≡ true;
}
