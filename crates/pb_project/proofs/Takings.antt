-- The areas of those that take part in a statement.
use Rattle.std.proofs.Common.{◌≡◌, ℕ, ℤ, ◌&&◌, ◌||◌, List, [], sym, ap, ◌∙◌, subst}
use Rattle.std.specs.List.{All}
use Rattle.std.proofs.lemmas.List.Elements.{All-nil}
use Rattle.std.proofs.Math.Bool.{and-true}
use Rattle.pb_affine.specs.declared.lin.Lin.{Lin}
use Rattle.pb_affine.specs.declared.range.NRange.{NRange}
use Rattle.pb_part_areas.specs.declared.area.Area.{Area}
use Rattle.pb_part_areas.specs.Areas.{have}
use Rattle.pb_part_areas.specs.Fits.{Fits}
use Rattle.pb_core_language.specs.Plain.{MarkedStmt}
use Rattle.pb_part_takers.specs.declared.held.Held.{Held}
use Rattle.pb_part_takers.specs.Pieces.{IsAdded, stmt_piece}
use Rattle.pb_project.specs.Takers.{AreTakers}

pub takers_are : (whole : List Area) (held : List Held) (s : MarkedStmt) (start all shared : List Area) → start ≡ [] → IsAdded whole held (stmt_piece held s) start all →
    ((n : ℤ) (role : ℕ) (x : ℤ) → have shared n role x ≡ have all n role x && have whole n role x) →
    ((range : NRange) (cuts : List Lin) → All (Fits range cuts) all → All (Fits range cuts) whole → All (Fits range cuts) shared) → AreTakers whole held s.mark s.stmt shared
takers_are whole held s start all shared none added both fit = record {
  is = λ rows roles n role x sound is_rank is_whole.
      both n role x ∙ ap (λ b. have all n role x && b) is_whole ∙ and-true (have all n role x) ∙ added.is rows roles n role x sound is_rank is_whole ∙ ap (λ l. have l n role x || (stmt_piece held s).part roles n role x) none;
  fits = λ rows range cuts sound among fits_whole fits_held.
      fit range cuts (added.fits rows range cuts sound among fits_whole fits_held (subst (All (Fits range cuts)) (sym none) (All-nil (Fits range cuts)))) fits_whole;
}
