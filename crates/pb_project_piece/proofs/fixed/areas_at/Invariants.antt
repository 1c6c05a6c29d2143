use Rattle.std.specs.Prelude.{pos}
use Rattle.pb_core_flat.specs.Seated.{is_at}
use Rattle.pb_project_piece.proofs.StillEnds.{AreasSoFar}
use Rattle.pb_project_piece.proofs.fixed.areas_at.Given as goal

abbrev pub invariant-loop-end : goal.invariant-loop-end
invariant-loop-end l = AreasSoFar (Unit {0}) (λ e n role x. is_at e n (pos 0) role x) l.ends l.end-index l.areas.items
