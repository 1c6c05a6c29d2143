use Rattle.std.proofs.Common.{Err, ap}
use Rattle.pb_renew.proofs.Reasons.{left_failed, out_unmade, plan_so, read_made, told_so}
use Rattle.pb_renew.proofs.plan.plan_for.Goals as goal

pub returns-in-Err-made_of-clause-refused : goal.returns-in-Err-made_of-clause-refused
returns-in-Err-made_of-clause-refused g c =
    out_unmade _ _ _ _ _ _ _ _ c.deref.ensures c.in-Ok.ensures.bytes c.bytes_in.ensures c.in-Err-made_of.ensures.fault

pub returns-in-Err-leaving_of-clause-refused : goal.returns-in-Err-leaving_of-clause-refused
returns-in-Err-leaving_of-clause-refused g c =
    left_failed c.args.losing _ _ _ _ _ _ _ c.args.place _ c.content.ensures.holds c.deref.ensures c.in-Ok.ensures.bytes c.bytes_in.ensures c.in-Ok-made_of.ensures.made.renewal c.in-Err-leaving_of.ensures.refused

pub returns-in-Ok-planned-clause-plan : goal.returns-in-Ok-planned-clause-plan
returns-in-Ok-planned-clause-plan g c =
    plan_so _ _ _ _ _ _ c.bytes_in.ensures c.in-Ok-made_of.ensures.made c.in-Ok-leaving_of.ensures.leaving c.in-Ok-leaving_of.ensures.sound c.in-Ok-planned.ensures.parts

pub returns-in-Ok-planned-clause-told : goal.returns-in-Ok-planned-clause-told
returns-in-Ok-planned-clause-told g c =
    told_so _ _ _ _ _ _ c.args.place _ c.content.ensures.holds c.deref.ensures c.in-Ok.ensures.bytes c.in-Ok-leaving_of.ensures.before c.in-Ok-planned.ensures.parts

pub returns-in-Err-made_of-clause-read : goal.returns-in-Err-made_of-clause-read
returns-in-Err-made_of-clause-read g c =
    read_made c.in-Err-made_of.why c.args.losing _ _ _ _ c.in-Err-made_of.ensures.fault (λ e. c.in-Err-made_of.ensures.unread (ap Err e))
