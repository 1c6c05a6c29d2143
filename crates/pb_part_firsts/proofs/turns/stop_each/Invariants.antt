use Rattle.std.proofs.Common.{◌≡◌, List, drop, true}
use Rattle.std.specs.List.{All}
use Rattle.pb_affine.specs.declared.lin.Lin.{Lin}
use Rattle.pb_affine.specs.declared.range.NRange.{NRange}
use Rattle.pb_core_language.specs.declared.protocol.CoreRole.{CoreRole}
use Rattle.pb_part_areas.specs.declared.area.Area.{Area}
use Rattle.pb_part_areas.specs.Fits.{Fits}
use Rattle.pb_part_firsts.specs.declared.firsts.Entry.{Entry}
use Rattle.pb_part_firsts.specs.Firsts.{Gives, is_small_kind, are_small}
use Rattle.pb_part_firsts.specs.Fitting.{EntriesFit}
use Rattle.pb_part_firsts.specs.Parts.{flat, AreAround}
use Rattle.pb_part_firsts.specs.Turns.{first_stop}
use Rattle.pb_part_firsts.specs.Coming.{ComingGives, ComingFits}
use Rattle.pb_part_firsts.proofs.turns.stop_each.Given as goal

abbrev pub invariant-loop-stop : goal.invariant-loop-stop
invariant-loop-stop l = record {
  gives : (range : NRange) (roles : List CoreRole) → AreAround l.fn.reach.items → (left : List Area) (new : List Entry) →
      ComingGives range roles l.coming left l.out.items new (first_stop roles (drop l.stop-index l.stops)) →
      Gives range roles (flat l.fn.reach.items) left l.initial.out.items new (first_stop roles l.stops);
  around : AreAround l.fn.reach.items → AreAround l.coming.parts.items;
  kind : are_small l.stops ≡ true → is_small_kind l.coming.kind ≡ true;
  small : are_small l.stops ≡ true → are_small l.initial.out.items ≡ true → are_small l.out.items ≡ true;
  fits : (range : NRange) (cuts : List Lin) → All (Fits range cuts) (flat l.fn.reach.items) → EntriesFit range cuts l.stops → EntriesFit range cuts l.initial.out.items → ComingFits range cuts l.coming l.out.items;
}
