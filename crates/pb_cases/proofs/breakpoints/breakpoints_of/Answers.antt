use Rattle.std.proofs.Common.{◌≡◌, ◌+◌, ℤ, List, ap, subst, sym}
use Rattle.pb_cases.specs.Building.{HasAllMeetings}
use Rattle.pb_cases.proofs.Built.{all_step, all_skip}
use Rattle.pb_cases.proofs.breakpoints.breakpoints_of.Goals as goal
use Rattle.pb_cases.proofs.breakpoints.breakpoints_of.Goals.{in-Fixed+in_ok-add_meetings, in_default}

pub loop-d-preserved : goal.loop-d-preserved
loop-d-preserved c = elim c.match-d.branch [
  | in-Fixed+in_ok-add_meetings w ↦
      let items : w.add_meetings.new.list.items ≡ c.match-d.list.items = sym (ap (λ v. v.items) w.list-is) in
      subst (λ (l : List ℤ). HasAllMeetings c.args.range c.args.cuts.now l (c.loop-d.d-index + 1)) items
      (all_step c.args.range c.args.cuts.now c.loop-d.list.items w.add_meetings.new.list.items c.loop-d.d-index w.in_ok-add_meetings.ensures.1 w.in_ok-add_meetings.ensures.0 c.loop-d.invariant)
  | in_default w ↦
      let items : c.loop-d.list.items ≡ c.match-d.list.items = sym (ap (λ v. v.items) w.list-is) in
      subst (λ (l : List ℤ). HasAllMeetings c.args.range c.args.cuts.now l (c.loop-d.d-index + 1)) items
      (all_skip c.args.range c.args.cuts.now c.loop-d.list.items c.loop-d.d-index w.in_default.not-Fixed c.loop-d.invariant)
]
