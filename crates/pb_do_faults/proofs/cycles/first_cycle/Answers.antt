use Rattle.std.proofs.Common.{◌∙◌, List, map, sym, ap, subst, rules}
use Rattle.pb_do_faults.specs.declared.call_site.CallSite.{CallSite}
use Rattle.pb_do_faults.specs.Cycles.{FirstCycleIn, FirstCycle}
use Rattle.pb_do_faults.specs.Found.{body_calls}
use Rattle.pb_do_faults.proofs.Calling.{body_off, body_on, bodies_end}
use Rattle.pb_do_faults.proofs.cycles.first_cycle.Goals as goal

pub returns-then-is_some : goal.returns-then-is_some
returns-then-is_some c =
    body_on (map body_calls c.args.bodies.now) c.args.bodies.now c.loop-i.i c.index-bodies-i.result c.in_ok-found.found (FirstCycle (map body_calls c.args.bodies.now))
    (search rules) c.index-bodies-i.is (search rules)
    (subst (λ (l : List CallSite). FirstCycleIn (map body_calls c.args.bodies.now) c.loop-i.i l c.in_ok-found.found) (c.deref.ensures.value ∙ ap body_calls (sym c.index-bodies-i.is)) c.in_ok-found.ensures) c.loop-i.invariant

pub loop-i-preserved : goal.loop-i-preserved
loop-i-preserved c =
    body_off (map body_calls c.args.bodies.now) c.args.bodies.now c.loop-i.i c.index-bodies-i.result c.in_ok-found.found (FirstCycle (map body_calls c.args.bodies.now))
    (search rules) c.index-bodies-i.is (search rules)
    (subst (λ (l : List CallSite). FirstCycleIn (map body_calls c.args.bodies.now) c.loop-i.i l c.in_ok-found.found) (c.deref.ensures.value ∙ ap body_calls (sym c.index-bodies-i.is)) c.in_ok-found.ensures) c.loop-i.invariant

pub returns : goal.returns
returns c =
    bodies_end (map body_calls c.args.bodies.now) c.args.bodies.now c.loop-i.i (FirstCycle (map body_calls c.args.bodies.now)) (search rules) c.loop-i.invariant
