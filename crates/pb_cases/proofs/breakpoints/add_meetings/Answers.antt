use Rattle.std.proofs.Common.{◌≡◌, rules, ◌+◌, ◌<◌, ◌≤◌, ℤ, List, length, ap, subst, sym, SFits, w64, to_z-of_z}
use Rattle.pb_cases.specs.Building.{HasMeetings, IsAddedTwice}
use Rattle.pb_cases.proofs.Built.{meetings_step, meetings_skip, too_many}
use Rattle.pb_cases.proofs.breakpoints.add_meetings.Goals as goal
use Rattle.pb_cases.proofs.breakpoints.add_meetings.Goals.{in-Param+in_ok-add_both+else-len-gt-MOST, in_default}

pub returns-then-len-gt-MOST : goal.returns-then-len-gt-MOST
returns-then-len-gt-MOST c =
    let fits : SFits w64 c.meeting.result = search rules in
    let added : IsAddedTwice c.args.range c.meeting.result c.loop-c.list.items c.add_both.new.list.items = simp to_z-of_z at c.in_ok-add_both.ensures in
    let more = meetings_step c.args.range c.args.cuts.now c.args.list.now.items c.loop-c.list.items c.add_both.new.list.items c.args.d c.loop-c.c-index c.meeting.result c.requires.own c.requires.fixed c.loop-c-test.true c.in-Param.is c.meeting.ensures.is added c.loop-c.invariant.so_far in
    let many : 4096 < length c.add_both.new.list.items = search (rules, c.if-len-gt-MOST.true, c.len.ensures) in
    too_many c.args.range c.args.cuts.now c.add_both.new.list.items more.part many

pub loop-c-preserved : goal.loop-c-preserved
loop-c-preserved c = elim c.match-c.branch [
  | in-Param+in_ok-add_both+else-len-gt-MOST w ↦
      let fits : SFits w64 w.meeting.result = search rules in
      let added : IsAddedTwice c.args.range w.meeting.result c.loop-c.list.items w.add_both.new.list.items = simp to_z-of_z at w.in_ok-add_both.ensures in
      let more = meetings_step c.args.range c.args.cuts.now c.args.list.now.items c.loop-c.list.items w.add_both.new.list.items c.args.d c.loop-c.c-index w.meeting.result c.requires.own c.requires.fixed c.loop-c-test.true w.in-Param.is w.meeting.ensures.is added c.loop-c.invariant.so_far in
      let few : length w.add_both.new.list.items ≤ 4096 = search (rules, w.if-len-gt-MOST.false, w.len.ensures) in
      let items : w.add_both.new.list.items ≡ c.match-c.list.items = sym (ap (λ v. v.items) w.list-is) in
      record { so_far = subst (λ (l : List ℤ). HasMeetings c.args.range c.args.cuts.now c.args.list.now.items l c.args.d (c.loop-c.c-index + 1)) items more; few = subst (λ (l : List ℤ). length l ≤ 4096) items few }
  | in_default w ↦
      let items : c.loop-c.list.items ≡ c.match-c.list.items = sym (ap (λ v. v.items) w.list-is) in
      record { so_far = subst (λ (l : List ℤ). HasMeetings c.args.range c.args.cuts.now c.args.list.now.items l c.args.d (c.loop-c.c-index + 1)) items (meetings_skip c.args.range c.args.cuts.now c.args.list.now.items c.loop-c.list.items c.args.d c.loop-c.c-index w.in_default.not-Param c.loop-c.invariant.so_far); few = subst (λ (l : List ℤ). length l ≤ 4096) items c.loop-c.invariant.few }
]
