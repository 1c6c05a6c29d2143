use Rattle.std.proofs.Common.{ap, sym, subst, ◌||◌}
use Rattle.std.specs.List.{All}
use Rattle.std.proofs.lemmas.List.Elements.{All-nil}
use Rattle.pb_part_areas.specs.Areas.{have}
use Rattle.pb_part_areas.specs.Fits.{Fits}
use Rattle.pb_project_choice.specs.Found.{tells}
use Rattle.pb_project_choice.proofs.Telling.{tells_step, tells_end, fit_at}
use Rattle.pb_project_choice.proofs.testing.areas_of.Goals as goal

pub loop-entry-init : goal.loop-entry-init
loop-entry-init c = record {
  is = λ n role x. ap (λ z. have z n role x || tells c.args.label c.args.entries.now n role x) c.new-areas.ensures.items;
  fits = λ range cuts h. subst (All (Fits range cuts)) (sym c.new-areas.ensures.items) (All-nil (Fits range cuts));
}

pub loop-entry-preserved : goal.loop-entry-preserved
loop-entry-preserved c = record {
  is = λ n role x. tells_step c.args.label c.args.entries.now c.loop-entry.entry-index _ _ _ _ n role x c.loop-entry-test.true (c.in_ok-add_area.ensures.is n role x) (c.loop-entry.invariant.is n role x);
  fits = λ range cuts h.
      c.in_ok-add_area.ensures.fits range cuts (c.loop-entry.invariant.fits range cuts h) (fit_at range cuts c.args.entries.now c.loop-entry.entry-index _ c.loop-entry-test.true h);
}

pub returns-clause-is : goal.returns-clause-is
returns-clause-is c = λ n role x. tells_end c.args.label c.args.entries.now c.loop-entry.entry-index _ _ n role x c.loop-entry-test.false (c.loop-entry.invariant.is n role x)
