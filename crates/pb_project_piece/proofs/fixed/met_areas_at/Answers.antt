use Rattle.std.proofs.Common.{pos}
use Rattle.pb_affine.specs.Values.{value}
use Rattle.pb_core_flat.specs.Meets.{is_met}
use Rattle.pb_project_piece.specs.Comers.{AreBounds}
use Rattle.pb_project_piece.proofs.StillEnds.{areas_start, areas_step, areas_done}
use Rattle.pb_project_piece.proofs.fixed.met_areas_at.Goals as goal

pub loop-end-init : goal.loop-end-init
loop-end-init c =
    areas_start (AreBounds c.args.over) (λ e n role x. is_met e (value c.args.over.low n (pos 0)) (value c.args.over.high n (pos 0)) n role x) c.args.ends.now c.new-areas.result.items c.new-areas.ensures.items

pub loop-end-preserved : goal.loop-end-preserved
loop-end-preserved c =
    areas_step (AreBounds c.args.over) (λ e n role x. is_met e (value c.args.over.low n (pos 0)) (value c.args.over.high n (pos 0)) n role x) c.args.ends.now c.loop-end.end-index _ c.met_area.result c.loop-end.areas.items c.add_new.new.out.items c.loop-end-test.true
    (λ n role x bounds h small. c.met_area.ensures.is n role x h bounds.0 bounds.1 small) c.in_ok-add_new.ensures.is c.loop-end.invariant

pub returns : goal.returns
returns c = record {
  is = λ rows n role x fair bounds h.
      areas_done (AreBounds c.args.over) (λ e n role x. is_met e (value c.args.over.low n (pos 0)) (value c.args.over.high n (pos 0)) n role x) c.args.ends.now c.loop-end.end-index c.loop-end.areas.items c.loop-end-test.false c.loop-end.invariant rows n role x fair bounds h;
}
