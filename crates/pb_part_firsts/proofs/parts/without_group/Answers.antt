use Rattle.std.proofs.Common.{rules, ◌≡◌, ◌∷◌}
use Rattle.pb_part_areas.specs.Areas.{have}
use Rattle.pb_part_areas.specs.Fits.{Fits}
use Rattle.pb_part_firsts.proofs.Flats.{rest_step, first_around, others_around, first_fits, others_fit}
use Rattle.pb_part_firsts.proofs.parts.without_group.Goals as goal

pub loop-part-preserved : goal.loop-part-preserved
loop-part-preserved c =
    let before = c.loop-part.part-iterator.rest.items in
    let behind = c.next.new.self.rest.items in
    let split : before ≡ c.in-Some.part ∷ behind = search rules in
    record {
      rest = λ h g n role x. rest_step before behind c.in-Some.part _ _ (have c.args.group.now.areas.items n role x) _ n role x split
          (c.in_ok-add_without.ensures.rest (first_around before behind c.in-Some.part split (c.loop-part.invariant.ahead h)) g n role x) (c.loop-part.invariant.rest h g n role x);
      ahead = λ h. others_around before behind c.in-Some.part split (c.loop-part.invariant.ahead h);
      around = λ h. c.in_ok-add_without.ensures.around (first_around before behind c.in-Some.part split (c.loop-part.invariant.ahead h)) (c.loop-part.invariant.around h);
      coming = λ range cuts r. others_fit (Fits range cuts) before behind c.in-Some.part split (c.loop-part.invariant.coming range cuts r);
      fits = λ range cuts r a.
          c.in_ok-add_without.ensures.fits range cuts (c.loop-part.invariant.fits range cuts r a) (first_fits (Fits range cuts) before behind c.in-Some.part split (c.loop-part.invariant.coming range cuts r)) a;
    }
