use Rattle.std.proofs.Common.{refl}
use Rattle.pb_part_areas.specs.Areas.{have}
use Rattle.pb_part_areas.specs.Fits.{Fits}
use Rattle.pb_core_flat.specs.OutcomeSets.{outcome_eq}
use Rattle.pb_part_firsts.specs.Firsts.{outcome_of}
use Rattle.pb_part_firsts.specs.Parts.{flat}
use Rattle.pb_part_firsts.proofs.Flats.{part_ahead, out_step, first_around, others_around, first_fits, others_fit}
use Rattle.pb_part_firsts.proofs.Groups.{out_end}
use Rattle.pb_part_firsts.proofs.parts.emit_parts.Goals as goal

pub loop-part-init : goal.loop-part-init
loop-part-init c = record {
  out = λ roles h g n role x o. refl;
  ahead = λ h. h;
  small = λ k h. h;
  coming = λ range cuts f. f;
  fits = λ range cuts p g e. e;
}

pub loop-part-preserved : goal.loop-part-preserved
loop-part-preserved c =
    let part = c.part-item.result in
    let split = part_ahead c.args.parts.now c.loop-part.part-index part c.loop-part-test.true c.part-item.is in
    record {
      out = λ roles h g n role x o. out_step _ _ part _ _ (have (flat c.args.groups.now) n role x) (outcome_eq (outcome_of roles c.args.kind n x) o) _ n role x split
          (c.in_ok-emit_part.ensures.out roles (first_around _ _ part split (c.loop-part.invariant.ahead h)) g n role x o) (c.loop-part.invariant.out roles h g n role x o);
      ahead = λ h. others_around _ _ part split (c.loop-part.invariant.ahead h);
      small = λ k h. c.in_ok-emit_part.ensures.small k (c.loop-part.invariant.small k h);
      coming = λ range cuts f. others_fit (Fits range cuts) _ _ part split (c.loop-part.invariant.coming range cuts f);
      fits = λ range cuts p g e. c.in_ok-emit_part.ensures.fits range cuts (first_fits (Fits range cuts) _ _ part split (c.loop-part.invariant.coming range cuts p)) g (c.loop-part.invariant.fits range cuts p g e);
    }

pub returns-clause-out : goal.returns-clause-out
returns-clause-out c = λ roles h g n role x o.
    out_end c.args.parts.now _ _ (have (flat c.args.groups.now) n role x) (outcome_eq (outcome_of roles c.args.kind n x) o) _ n role x c.loop-part-test.false (c.loop-part.invariant.out roles h g n role x o)
