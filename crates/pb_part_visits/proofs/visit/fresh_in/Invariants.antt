use Rattle.std.proofs.Common.{◌≡◌, ℕ, ℤ, List, ◌++◌, map, drop, true}
use Rattle.pb_affine.specs.declared.lin.Lin.{Lin}
use Rattle.pb_core_language.specs.declared.protocol.CoreRole.{CoreRole}
use Rattle.pb_core_language.specs.declared.tree.Bounds.{Bounds}
use Rattle.pb_core_flat.specs.Stops.{first_of, at_value, has_fixed}
use Rattle.pb_part_visits.specs.Visits.{visit_of, are_narrow, VisitsAmong}
use Rattle.pb_part_visits.proofs.visit.fresh_in.Given as goal

abbrev pub invariant-loop-visit : goal.invariant-loop-visit
invariant-loop-visit l = record {
  same : (roles : List CoreRole) (n i : ℤ) (role : ℕ) (x : ℤ) →
      first_of (map (at_value roles n i) (map visit_of l.fresh.items ++ map visit_of (drop l.visit-index l.list))) role x ≡ first_of (map (at_value roles n i) (map visit_of l.list)) role x;
  fixed : (roles : List CoreRole) (n : ℤ) (role : ℕ) (x : ℤ) → has_fixed roles n (map visit_of l.fresh.items ++ map visit_of (drop l.visit-index l.list)) role x ≡ has_fixed roles n (map visit_of l.list) role x;
  narrow : are_narrow (map visit_of l.list) ≡ true → are_narrow (map visit_of l.fresh.items) ≡ true;
  among : (h : Bounds) (cuts : List Lin) → VisitsAmong h cuts (map visit_of l.list) → VisitsAmong h cuts (map visit_of l.fresh.items);
}
