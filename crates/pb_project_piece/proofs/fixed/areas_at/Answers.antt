use Rattle.std.proofs.Common.{pos}
use Rattle.pb_core_flat.specs.Seated.{is_at}
use Rattle.pb_project_piece.proofs.StillEnds.{areas_start, areas_step, areas_done}
use Rattle.pb_project_piece.proofs.fixed.areas_at.Goals as goal

pub loop-end-init : goal.loop-end-init
loop-end-init c = areas_start (Unit {0}) (λ e n role x. is_at e n (pos 0) role x) c.args.ends.now c.new-areas.result.items c.new-areas.ensures.items

pub loop-end-preserved : goal.loop-end-preserved
loop-end-preserved c =
    areas_step (Unit {0}) (λ e n role x. is_at e n (pos 0) role x) c.args.ends.now c.loop-end.end-index _ c.end_area.result c.loop-end.areas.items c.add_new.new.out.items c.loop-end-test.true
    (λ n role x fine h small. c.end_area.ensures.is n role x h small) c.in_ok-add_new.ensures.is c.loop-end.invariant

pub returns : goal.returns
returns c = record {
  is = λ rows n role x fair h.
      areas_done (Unit {0}) (λ e n role x. is_at e n (pos 0) role x) c.args.ends.now c.loop-end.end-index c.loop-end.areas.items c.loop-end-test.false c.loop-end.invariant rows n role x fair tt h;
}
