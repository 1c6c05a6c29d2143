use Rattle.std.proofs.Common.{rules, ◌≡◌, ◌∷◌, refl}
use Rattle.pb_part_areas.specs.Fits.{Fits}
use Rattle.pb_part_firsts.proofs.Flats.{copy_step, pushed_around, pushed_fits, first_around, others_around, first_fits, others_fit}
use Rattle.pb_part_firsts.proofs.sides.both_sides.Goals as goal

pub loop-part-preserved : goal.loop-part-preserved
loop-part-preserved c =
    let before = c.loop-part.part-iterator.rest.items in
    let behind = c.next.new.self.rest.items in
    let part = c.in-Some.part in
    let split : before ≡ part ∷ behind = search rules in
    record {
      is = λ n role x. copy_step before behind part part _ _ _ n role x split c.in_ok-push.ensures.items refl (c.loop-part.invariant.is n role x);
      ahead = λ h. others_around before behind part split (c.loop-part.invariant.ahead h);
      around = λ h k. pushed_around _ _ part c.in_ok-push.ensures.items (c.loop-part.invariant.around h k) (first_around before behind part split (c.loop-part.invariant.ahead k));
      coming = λ range cuts r. others_fit (Fits range cuts) before behind part split (c.loop-part.invariant.coming range cuts r);
      fits = λ range cuts r q. pushed_fits (Fits range cuts) _ _ part c.in_ok-push.ensures.items (c.loop-part.invariant.fits range cuts r q)
          (first_fits (Fits range cuts) before behind part split (c.loop-part.invariant.coming range cuts q));
    }
