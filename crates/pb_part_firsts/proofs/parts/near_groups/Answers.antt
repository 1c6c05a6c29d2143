use Rattle.std.proofs.Common.{◌++◌, ◌||◌, ◌&&◌, ap, sym, ◌∙◌, subst}
use Rattle.std.specs.List.{All}
use Rattle.std.proofs.lemmas.List.Elements.{All-nil}
use Rattle.pb_part_areas.specs.Areas.{has, have}
use Rattle.pb_part_areas.specs.Fits.{Fits}
use Rattle.pb_part_firsts.specs.Parts.{flat}
use Rattle.pb_part_firsts.proofs.Flats.{part_ahead, first_around, others_around, first_fits, others_fit}
use Rattle.pb_part_firsts.proofs.Groups.{near_step, near_end, added_fits}
use Rattle.pb_part_firsts.proofs.parts.near_groups.Goals as goal

pub loop-group-init : goal.loop-group-init
loop-group-init c = record {
  is = λ h n role x. ap (λ z. (have z n role x || have (flat c.args.groups.now) n role x) && has c.args.to n role x) c.new-out.ensures.items;
  ahead = λ h. h;
  coming = λ range cuts f. f;
  fits = λ range cuts f. subst (All (Fits range cuts)) (sym c.new-out.ensures.items) (All-nil (Fits range cuts));
}

pub loop-group-preserved : goal.loop-group-preserved
loop-group-preserved c =
    let group = c.group-item.result in
    let split = part_ahead c.args.groups.now c.loop-group.group-index group c.loop-group-test.true c.group-item.is in
    let added = c.in_ok-add_areas.ensures ∙ ap (λ z. c.loop-group.out.items ++ z) c.deref.ensures.value in
    record {
      is = λ h n role x. near_step _ _ group _ _ c.in_ok-met.met.items (has c.args.to n role x) _ n role x split added
          (c.in_ok-met.ensures.is (first_around _ _ group split (c.loop-group.invariant.ahead h)) n role x) (c.loop-group.invariant.is h n role x);
      ahead = λ h. others_around _ _ group split (c.loop-group.invariant.ahead h);
      coming = λ range cuts f. others_fit (Fits range cuts) _ _ group split (c.loop-group.invariant.coming range cuts f);
      fits = λ range cuts f. added_fits (Fits range cuts) _ _ c.in_ok-met.met.items added (c.loop-group.invariant.fits range cuts f)
          (c.in_ok-met.ensures.fits range cuts (first_fits (Fits range cuts) _ _ group split (c.loop-group.invariant.coming range cuts f)));
    }

pub returns-clause-is : goal.returns-clause-is
returns-clause-is c = λ h n role x. near_end c.args.groups.now _ _ (has c.args.to n role x) _ n role x c.loop-group-test.false (c.loop-group.invariant.is h n role x)
