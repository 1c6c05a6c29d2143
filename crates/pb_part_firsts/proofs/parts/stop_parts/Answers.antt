use Rattle.std.proofs.Common.{sym, subst}
use Rattle.std.specs.List.{All}
use Rattle.std.proofs.lemmas.Result.{IfOk-weaker}
use Rattle.pb_part_areas.specs.Fits.{Fits}
use Rattle.pb_part_firsts.specs.Parts.{flat}
use Rattle.pb_part_firsts.proofs.Groups.{both_stop}
use Rattle.pb_part_firsts.proofs.parts.stop_parts.Goals as goal

pub returns-clause-gives : goal.returns-clause-gives
returns-clause-gives c = IfOk-weaker c.without_groups.result _ _ (λ left f roles h.
    both_stop (flat c.in_ok-groups.groups.items) c.in_ok-groups.ensures.is
    (λ n role x o. (rw (c.deref.ensures.value, c.deref-2.ensures.value) at (c.in_ok-emit_parts.ensures.out roles)) h c.in_ok-groups.ensures.around n role x o)
    (λ n role x. (rw c.deref-3.ensures.value at f) h c.in_ok-groups.ensures.around n role x))
    c.without_groups.ensures.rest

pub returns-clause-fits : goal.returns-clause-fits
returns-clause-fits c = IfOk-weaker c.without_groups.result _ _ (λ left f range cuts r a e.
    let groups = c.in_ok-groups.ensures.fits range cuts a in
    record {
      areas = f range cuts r (subst (λ z. All (Fits range cuts) (flat z)) (sym c.deref-3.ensures.value) groups);
      entries = c.in_ok-emit_parts.ensures.fits range cuts (subst (λ z. All (Fits range cuts) (flat z)) (sym c.deref.ensures.value) r) (subst (λ z. All (Fits range cuts) (flat z)) (sym c.deref-2.ensures.value) groups) e;
    })
    c.without_groups.ensures.fits
