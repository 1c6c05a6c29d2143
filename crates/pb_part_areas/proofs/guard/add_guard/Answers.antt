use Rattle.std.proofs.Common.{sym, subst}
use Rattle.std.specs.List.{All}
use Rattle.std.proofs.lemmas.List.Elements.{All-push}
use Rattle.pb_affine.specs.Values.{IsSmallGuard}
use Rattle.pb_cases.specs.Bounds.{IsAligned}
use Rattle.pb_part_areas.proofs.Parts.{over}
use Rattle.pb_part_areas.proofs.Guarded.{hold_pushed, or_nothing}
use Rattle.pb_part_areas.proofs.guard.add_guard.Goals as goal

pub returns-in_ok-push-clause-is : goal.returns-in_ok-push-clause-is
returns-in_ok-push-clause-is c = λ n role x within.
    hold_pushed c.args.guards.now c.push.new.self c.guard_of.result _ n role x c.in_ok-push.ensures.ok (c.guard_of.ensures.is n role x within)

pub returns-in_ok-push-clause-aligned : goal.returns-in_ok-push-clause-aligned
returns-in_ok-push-clause-aligned c = λ d h f.
    subst (All (IsAligned d)) (sym c.in_ok-push.ensures.ok) (All-push (IsAligned d) c.args.guards.now c.guard_of.result h (c.guard_of.ensures.aligned d f))

pub returns-in_ok-push-clause-small : goal.returns-in_ok-push-clause-small
returns-in_ok-push-clause-small c = λ h.
    subst (All IsSmallGuard) (sym c.in_ok-push.ensures.ok) (All-push IsSmallGuard c.args.guards.now c.guard_of.result h c.guard_of.ensures.small)

pub returns-else-is_open-clause-is : goal.returns-else-is_open-clause-is
returns-else-is_open-clause-is c = λ n role x within. or_nothing _ _ (over c.args.a (c.is_open.ensures.closed c.if-is_open.false) n role x)
