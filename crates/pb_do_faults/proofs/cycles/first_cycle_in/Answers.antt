use Rattle.std.proofs.Common.{None, map, get_or, refl, rules}
use Rattle.pb_do_faults.specs.declared.call_site.CallSite.{CallSite}
use Rattle.pb_do_faults.specs.Cycles.{IsCycle, FirstCycleIn}
use Rattle.pb_do_faults.specs.Found.{body_calls}
use Rattle.pb_do_faults.proofs.Calling.{told, told_not, call_off, call_on, calls_end}
use Rattle.pb_do_faults.proofs.cycles.first_cycle_in.Goals as goal

abbrev blank : CallSite
blank = record { callee = None; args = 0; place = record { line = 0; col = 0 } }

pub returns-then-branch : goal.returns-then-branch
returns-then-branch c =
    let d : CallSite = get_or c.args.calls.now c.loop-call.call-index blank in
    call_on (map body_calls c.args.bodies.now) c.args.i c.args.calls.now c.loop-call.call-index d blank
    (FirstCycleIn (map body_calls c.args.bodies.now) c.args.i c.args.calls.now) (search rules) refl
    (told c.in_ok-is_cycle.field-0 (IsCycle (map body_calls c.args.bodies.now) c.args.i d) c.if-branch.true c.in_ok-is_cycle.ensures) c.loop-call.invariant

pub loop-call-preserved : goal.loop-call-preserved
loop-call-preserved c =
    let d : CallSite = get_or c.args.calls.now c.loop-call.call-index blank in
    call_off (map body_calls c.args.bodies.now) c.args.i c.args.calls.now c.loop-call.call-index d blank
    (FirstCycleIn (map body_calls c.args.bodies.now) c.args.i c.args.calls.now) (search rules) refl
    (told_not c.in_ok-is_cycle.field-0 (IsCycle (map body_calls c.args.bodies.now) c.args.i d) c.if-branch.false c.in_ok-is_cycle.ensures) c.loop-call.invariant

pub returns : goal.returns
returns c =
    calls_end (map body_calls c.args.bodies.now) c.args.i c.args.calls.now c.loop-call.call-index
    (FirstCycleIn (map body_calls c.args.bodies.now) c.args.i c.args.calls.now) (search rules) c.loop-call.invariant
