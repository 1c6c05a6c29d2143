use Rattle.std.proofs.Common.{[], ◌∷◌, ◌++◌, ap, ◌∙◌}
use Rattle.pb_part_firsts.proofs.LastEntries.{stop_widened}
use Rattle.pb_part_firsts.proofs.Outcomes.{emit_small, emit_fits}
use Rattle.pb_part_firsts.proofs.Turning.{stop_pushed}
use Rattle.pb_part_firsts.proofs.each.put_behind.Goals as goal

pub returns-in_ok-push-in-Some-clause-adds : goal.returns-in_ok-push-in-Some-clause-adds
returns-in_ok-push-in-Some-clause-adds c = λ roles n role x.
    stop_widened roles _ _ c.args.last c.args.next c.in-Some.area n role x c.in-Some.ensures.kind (c.in-Some.ensures.is.is n role x) c.in_ok-push-in-Some.ensures.items

pub returns-in_ok-push-in-Some-clause-small : goal.returns-in_ok-push-in-Some-clause-small
returns-in_ok-push-in-Some-clause-small c = λ l k h. emit_small _ _ c.in-Some.area c.args.next.kind c.in_ok-push-in-Some.ensures.items k h

pub returns-in_ok-push-in-Some-clause-fits : goal.returns-in_ok-push-in-Some-clause-fits
returns-in_ok-push-in-Some-clause-fits c = λ range cuts l f h.
    emit_fits range cuts _ _ c.in-Some.area c.args.next.kind c.in_ok-push-in-Some.ensures.items (c.in-Some.ensures.is.fits range cuts l f) h

pub returns-in_ok-push-in-None-2-clause-adds : goal.returns-in_ok-push-in-None-2-clause-adds
returns-in_ok-push-in-None-2-clause-adds c = λ roles n role x.
    stop_pushed roles _ _ c.args.next.area c.args.next.kind n role x (c.in_ok-push-in-None-2.ensures.items ∙ ap (λ z. z ++ c.args.next ∷ []) c.in_ok-push-in-None.ensures.items)

pub returns-in_ok-push-in-None-2-clause-small : goal.returns-in_ok-push-in-None-2-clause-small
returns-in_ok-push-in-None-2-clause-small c = λ l k h.
    emit_small _ _ c.args.next.area c.args.next.kind c.in_ok-push-in-None-2.ensures.items k (emit_small _ _ c.args.last.area c.args.last.kind c.in_ok-push-in-None.ensures.items l h)

pub returns-in_ok-push-in-None-2-clause-fits : goal.returns-in_ok-push-in-None-2-clause-fits
returns-in_ok-push-in-None-2-clause-fits c = λ range cuts l f h.
    emit_fits range cuts _ _ c.args.next.area c.args.next.kind c.in_ok-push-in-None-2.ensures.items f (emit_fits range cuts _ _ c.args.last.area c.args.last.kind c.in_ok-push-in-None.ensures.items l h)
