use Rattle.std.proofs.Common.{◌≡◌, ℕ, ℤ, ◌||◌, ◌&&◌, List, true, drop}
use Rattle.pb_core_language.specs.declared.protocol.CoreRole.{CoreRole}
use Rattle.pb_core_language.specs.Outcomes.{Outcome}
use Rattle.pb_part_areas.specs.Areas.{have}
use Rattle.pb_core_flat.specs.OutcomeSets.{outcome_eq}
use Rattle.pb_part_firsts.specs.Firsts.{finds, outcome_of, is_small_kind, are_small}
use Rattle.std.specs.List.{All}
use Rattle.pb_affine.specs.declared.lin.Lin.{Lin}
use Rattle.pb_affine.specs.declared.range.NRange.{NRange}
use Rattle.pb_part_areas.specs.Fits.{Fits}
use Rattle.pb_part_firsts.specs.Fitting.{EntriesFit}
use Rattle.pb_part_firsts.proofs.stop.emit.Given as goal

abbrev pub invariant-loop-area : goal.invariant-loop-area
invariant-loop-area l = record {
  gives : (roles : List CoreRole) (n : ℤ) (role : ℕ) (x : ℤ) (o : Outcome) →
      finds roles l.out.items n role x o || (have (drop l.area-index l.areas) n role x && outcome_eq (outcome_of roles l.kind n x) o)
      ≡ finds roles l.initial.out.items n role x o || (have l.areas n role x && outcome_eq (outcome_of roles l.kind n x) o);
  fits : (range : NRange) (cuts : List Lin) → All (Fits range cuts) l.areas → EntriesFit range cuts l.initial.out.items → EntriesFit range cuts l.out.items;
  small : is_small_kind l.kind ≡ true → are_small l.initial.out.items ≡ true → are_small l.out.items ≡ true;
}
