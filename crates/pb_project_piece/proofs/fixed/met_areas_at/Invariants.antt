use Rattle.std.specs.Prelude.{pos}
use Rattle.pb_affine.specs.Values.{value}
use Rattle.pb_core_flat.specs.Meets.{is_met}
use Rattle.pb_project_piece.specs.Comers.{AreBounds}
use Rattle.pb_project_piece.proofs.StillEnds.{AreasSoFar}
use Rattle.pb_project_piece.proofs.fixed.met_areas_at.Given as goal

abbrev pub invariant-loop-end : goal.invariant-loop-end
invariant-loop-end l =
    AreasSoFar (AreBounds l.over) (λ e n role x. is_met e (value l.over.low n (pos 0)) (value l.over.high n (pos 0)) n role x) l.ends l.end-index l.areas.items
