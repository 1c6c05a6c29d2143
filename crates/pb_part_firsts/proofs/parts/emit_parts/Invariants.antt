use Rattle.std.proofs.Common.{◌≡◌, ℕ, ℤ, ◌||◌, ◌&&◌, List, drop, true}
use Rattle.std.specs.List.{All}
use Rattle.pb_affine.specs.declared.lin.Lin.{Lin}
use Rattle.pb_affine.specs.declared.range.NRange.{NRange}
use Rattle.pb_part_areas.specs.Areas.{have}
use Rattle.pb_part_areas.specs.Fits.{Fits}
use Rattle.pb_core_language.specs.declared.protocol.CoreRole.{CoreRole}
use Rattle.pb_core_language.specs.Outcomes.{Outcome}
use Rattle.pb_core_flat.specs.OutcomeSets.{outcome_eq}
use Rattle.pb_part_firsts.specs.Firsts.{finds, outcome_of, is_small_kind, are_small}
use Rattle.pb_part_firsts.specs.Fitting.{EntriesFit}
use Rattle.pb_part_firsts.specs.Parts.{flat, AreAround}
use Rattle.pb_part_firsts.proofs.parts.emit_parts.Given as goal

abbrev pub invariant-loop-part : goal.invariant-loop-part
invariant-loop-part l = record {
  out : (roles : List CoreRole) → AreAround l.parts → AreAround l.groups → (n : ℤ) (role : ℕ) (x : ℤ) (o : Outcome) →
      finds roles l.out.items n role x o || ((have (flat (drop l.part-index l.parts)) n role x && have (flat l.groups) n role x) && outcome_eq (outcome_of roles l.kind n x) o)
      ≡ finds roles l.initial.out.items n role x o || ((have (flat l.parts) n role x && have (flat l.groups) n role x) && outcome_eq (outcome_of roles l.kind n x) o);
  ahead : AreAround l.parts → AreAround (drop l.part-index l.parts);
  small : is_small_kind l.kind ≡ true → are_small l.initial.out.items ≡ true → are_small l.out.items ≡ true;
  coming : (range : NRange) (cuts : List Lin) → All (Fits range cuts) (flat l.parts) → All (Fits range cuts) (flat (drop l.part-index l.parts));
  fits : (range : NRange) (cuts : List Lin) → All (Fits range cuts) (flat l.parts) → All (Fits range cuts) (flat l.groups) → EntriesFit range cuts l.initial.out.items → EntriesFit range cuts l.out.items;
}
