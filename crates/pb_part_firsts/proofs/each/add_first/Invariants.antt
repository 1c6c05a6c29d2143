use Rattle.std.proofs.Common.{◌≡◌, ℕ, ℤ, List, map, drop, true}
use Rattle.pb_affine.specs.declared.lin.Lin.{Lin}
use Rattle.pb_affine.specs.declared.range.NRange.{NRange}
use Rattle.pb_core_language.specs.declared.protocol.CoreRole.{CoreRole}
use Rattle.pb_core_language.specs.Cuts.{edges}
use Rattle.pb_core_language.specs.Outcomes.{or_then}
use Rattle.pb_core_language.specs.Verdict.{IsIn}
use Rattle.pb_part_areas.specs.Areas.{at}
use Rattle.pb_core_flat.specs.Seated.{is_rank}
use Rattle.pb_part_takers.specs.Pieces.{AreAmong}
use Rattle.pb_part_firsts.specs.Firsts.{are_small}
use Rattle.pb_part_firsts.specs.Fitting.{EntriesFit}
use Rattle.pb_part_firsts.specs.Turns.{first_stop}
use Rattle.pb_part_visits.specs.Visits.{visit_of, are_narrow, IsBounded, VisitsAmong}
use Rattle.pb_part_firsts.proofs.FixedStops.{fixed_found}
use Rattle.pb_part_firsts.proofs.each.add_first.Given as goal

abbrev pub invariant-loop-visit : goal.invariant-loop-visit
invariant-loop-visit l = record {
  gives : (range : NRange) (roles : List CoreRole) → are_narrow (map visit_of l.visits) ≡ true → IsBounded l.over → (n : ℤ) (role : ℕ) (x : ℤ) → IsIn range n → is_rank roles n role x ≡ true →
      or_then (first_stop roles l.stops.items n role x) (fixed_found roles n (at l.over.low n) (at l.over.high n) (map visit_of (drop l.visit-index l.visits)) (map visit_of l.visits) role x)
      ≡ or_then (first_stop roles l.initial.stops.items n role x) (fixed_found roles n (at l.over.low n) (at l.over.high n) (map visit_of l.visits) (map visit_of l.visits) role x);
  fits : (range : NRange) (cuts : List Lin) → are_narrow (map visit_of l.visits) ≡ true → IsBounded l.over → AreAmong (edges l.over.low l.over.high) cuts → VisitsAmong l.over cuts (map visit_of l.visits) → EntriesFit range cuts l.initial.stops.items → EntriesFit range cuts l.stops.items;
  small : are_narrow (map visit_of l.visits) ≡ true → are_small l.initial.stops.items ≡ true → are_small l.stops.items ≡ true;
}
