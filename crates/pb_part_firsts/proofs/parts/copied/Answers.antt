use Rattle.std.proofs.Common.{◌≡◌, ℕ, ℤ, ◌||◌, ap, sym, ◌∙◌, refl, subst}
use Rattle.std.specs.List.{All}
use Rattle.std.proofs.lemmas.List.Elements.{All-nil}
use Rattle.pb_part_areas.specs.Areas.{have}
use Rattle.pb_part_areas.specs.Fits.{Fits}
use Rattle.pb_part_firsts.specs.Parts.{flat, IsAround}
use Rattle.pb_part_firsts.proofs.Flats.{part_ahead, copy_step, copy_end, copy_around, pushed_around, pushed_fits, first_around, others_around, first_fits, others_fit}
use Rattle.pb_part_firsts.proofs.parts.copied.Goals as goal

pub loop-part-init : goal.loop-part-init
loop-part-init c = record {
  is = λ n role x. ap (λ z. have (flat z) n role x || have (flat c.args.parts.now) n role x) c.new-copy.ensures.items;
  around = λ h. subst (All IsAround) (sym c.new-copy.ensures.items) (All-nil IsAround);
  ahead = λ h. h;
  coming = λ range cuts f. f;
  fits = λ range cuts f. subst (λ z. All (Fits range cuts) (flat z)) (sym c.new-copy.ensures.items) (All-nil (Fits range cuts));
}

pub loop-part-preserved : goal.loop-part-preserved
loop-part-preserved c =
    let i = c.loop-part.part-index in
    let part = c.part-item.result in
    let split = part_ahead c.args.parts.now i part c.loop-part-test.true c.part-item.is in
    let same : (n : ℤ) (role : ℕ) (x : ℤ) → have c.in_ok-areas.areas.items n role x ≡ have part.areas.items n role x =
    λ n role x. c.in_ok-areas.ensures.is n role x ∙ ap (λ z. have z n role x) c.deref.ensures.value in
    record {
      is = λ n role x. copy_step _ _ part _ _ _ _ n role x split c.in_ok-push.ensures.items (same n role x) (c.loop-part.invariant.is n role x);
      around = λ h. pushed_around _ _ _ c.in_ok-push.ensures.items (c.loop-part.invariant.around h) (copy_around part _ same refl (first_around _ _ part split (c.loop-part.invariant.ahead h)));
      ahead = λ h. others_around _ _ part split (c.loop-part.invariant.ahead h);
      coming = λ range cuts f. others_fit (Fits range cuts) _ _ part split (c.loop-part.invariant.coming range cuts f);
      fits = λ range cuts f. pushed_fits (Fits range cuts) _ _ _ c.in_ok-push.ensures.items (c.loop-part.invariant.fits range cuts f)
          (c.in_ok-areas.ensures.fits range cuts (subst (All (Fits range cuts)) (sym c.deref.ensures.value) (first_fits (Fits range cuts) _ _ part split (c.loop-part.invariant.coming range cuts f))));
    }

pub returns-clause-is : goal.returns-clause-is
returns-clause-is c = λ n role x. copy_end _ _ _ _ n role x c.loop-part-test.false (c.loop-part.invariant.is n role x)
