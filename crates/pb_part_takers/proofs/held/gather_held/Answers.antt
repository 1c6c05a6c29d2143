use Rattle.std.proofs.Common.{ap, sym, subst, ◌∙◌}
use Rattle.std.specs.List.{All}
use Rattle.pb_part_areas.specs.Areas.{have}
use Rattle.pb_part_areas.specs.Fits.{Fits}
use Rattle.pb_part_areas.specs.Joins.{blank}
use Rattle.pb_part_areas.proofs.Lists.{have_pushed, add_step, add_end}
use Rattle.pb_part_takers.proofs.Pushed.{fits_pushed}
use Rattle.pb_part_takers.proofs.held.gather_held.Goals as goal

pub loop-a-preserved : goal.loop-a-preserved
loop-a-preserved c = record {
  is = λ n role x. add_step _ _ _ _ _ n role x c.loop-a-test.true (have_pushed _ _ _ c.in_ok-push.ensures.items n role x) (c.loop-a.invariant.is n role x);
  fits = λ range cuts h f. fits_pushed _ _ _ c.in_ok-push.ensures.items range cuts (c.loop-a.invariant.fits range cuts h f) (f c.loop-a.a-index blank c.loop-a-test.true);
}

pub returns-in_ok-out-clause-is : goal.returns-in_ok-out-clause-is
returns-in_ok-out-clause-is c = λ n role x.
    c.in_ok-out.ensures.is n role x
    ∙ c.in_ok-list.ensures.is n role x
    ∙ ap (λ z. have z n role x) c.deref-then-len-gt-MOST.ensures.value
    ∙ add_end _ _ _ _ n role x c.loop-a-test.false (c.loop-a.invariant.is n role x)

pub returns-in_ok-out-clause-fits : goal.returns-in_ok-out-clause-fits
returns-in_ok-out-clause-fits c = λ range cuts h f.
    c.in_ok-out.ensures.fits range cuts (c.in_ok-list.ensures.fits range cuts (subst (All (Fits range cuts)) (sym c.deref-then-len-gt-MOST.ensures.value) (c.loop-a.invariant.fits range cuts h f)))
