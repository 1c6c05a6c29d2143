use Rattle.std.proofs.Common.{rules, ◌≡◌, ◌∷◌}
use Rattle.pb_part_areas.specs.Fits.{Fits}
use Rattle.pb_part_firsts.proofs.Flats.{taken_step, first_around, others_around, first_fits, others_fit}
use Rattle.pb_part_firsts.proofs.sides.sides_of.Goals as goal

pub loop-part-preserved : goal.loop-part-preserved
loop-part-preserved c =
    let before = c.loop-part.part-iterator.rest.items in
    let behind = c.next.new.self.rest.items in
    let split : before ≡ c.in-Some.part ∷ behind = search rules in
    record {
      is = λ n role x. taken_step before behind c.in-Some.part _ _ _ n role x split (c.in_ok-put_aside.ensures.is n role x) (c.loop-part.invariant.is n role x);
      apart = λ h n role x. c.in_ok-put_aside.ensures.apart (first_around before behind c.in-Some.part split (c.loop-part.invariant.ahead h)) n role x (c.loop-part.invariant.apart h n role x);
      ahead = λ h. others_around before behind c.in-Some.part split (c.loop-part.invariant.ahead h);
      around = λ h.
          let now = c.loop-part.invariant.around h in
          c.in_ok-put_aside.ensures.around (first_around before behind c.in-Some.part split (c.loop-part.invariant.ahead h)) now.0 now.1;
      coming = λ range cuts r. others_fit (Fits range cuts) before behind c.in-Some.part split (c.loop-part.invariant.coming range cuts r);
      fits = λ range cuts r.
          let now = c.loop-part.invariant.fits range cuts r in
          c.in_ok-put_aside.ensures.fits range cuts (first_fits (Fits range cuts) before behind c.in-Some.part split (c.loop-part.invariant.coming range cuts r)) now.0 now.1;
    }
