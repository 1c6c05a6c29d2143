use Rattle.std.proofs.Common.{◌≡◌, ℕ, ℤ, ◌||◌, true, List, length, drop}
use Rattle.std.specs.List.{All}
use Rattle.pb_affine.specs.declared.lin.Lin.{Lin}
use Rattle.pb_affine.specs.Values.{hold}
use Rattle.pb_part_areas.specs.Areas.{have}
use Rattle.pb_part_areas.specs.Fits.{Fits}
use Rattle.pb_cases.specs.Breakpoints.{IsCut}
use Rattle.pb_core_language.specs.declared.protocol.CoreRole.{CoreRole}
use Rattle.pb_core_language.specs.Verdict.{IsIn}
use Rattle.pb_core_flat.specs.Seated.{is_rank}
use Rattle.pb_local.specs.Tree.{Program}
use Rattle.pb_local.specs.WellMade.{IsRange, IsGuard}
use Rattle.pb_project_choice.proofs.guards.guards_in.Given as goal

abbrev pub invariant-loop-a : goal.invariant-loop-a
invariant-loop-a l = record {
  hold : (cuts : List Lin) (roles : List CoreRole) (n i : ℤ) (role : ℕ) (x : ℤ) → length roles ≡ l.roles → IsRange l.range → All IsCut cuts → All (Fits l.range cuts) l.list → IsIn l.range n → is_rank roles n role x ≡ true →
      hold l.guards n i role x || have (drop l.a-index l.list) n role x ≡ have l.list n role x;
  each : (p : Program) → length p.roles ≡ l.roles → All (IsGuard p) l.guards;
}
