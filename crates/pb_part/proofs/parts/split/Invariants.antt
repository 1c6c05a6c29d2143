use Rattle.std.proofs.Common.{◌≡◌, ◌≤◌, ℕ, ℤ, ◌||◌, ◌&&◌, ◌∷◌, List, drop, length}
use Rattle.pb_affine.specs.declared.lin.Lin.{Lin}
use Rattle.pb_affine.specs.declared.range.NRange.{NRange}
use Rattle.pb_part_areas.specs.Areas.{have}
use Rattle.pb_core_language.specs.declared.protocol.CoreRole.{CoreRole}
use Rattle.pb_core_language.specs.Outcomes.{Outcome}
use Rattle.pb_core_flat.specs.OutcomeSets.{outcome_eq}
use Rattle.pb_part_firsts.specs.Firsts.{finds, outcome_of}
use Rattle.pb_part_firsts.specs.Fitting.{AllFit, EntriesFit}
use Rattle.pb_part.proofs.parts.split.Given as goal

abbrev pub invariant-loop-entry : goal.invariant-loop-entry
invariant-loop-entry l = record {
  is : (roles : List CoreRole) (n : ℤ) (role : ℕ) (x : ℤ) (o : Outcome) →
      ((have l.part.areas.items n role x && outcome_eq (outcome_of roles l.first.kind n x) o) || finds roles l.part.others.items n role x o) || finds roles (drop l.entry-index l.rest) n role x o ≡ finds roles (l.first ∷ l.rest) n role x o;
  fits : (range : NRange) (cuts : List Lin) → EntriesFit range cuts (l.first ∷ l.rest) → AllFit range cuts l.part.areas.items l.part.others.items;
  shorter : length l.part.others.items ≤ l.entry-index;
}
