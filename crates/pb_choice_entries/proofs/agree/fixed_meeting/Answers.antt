use Rattle.std.proofs.Common.{◌∙◌}
use Rattle.std.proofs.Common.{◌-ℤ◌, refl}
use Rattle.pb_choice_entries.proofs.Meetings.{same_met, fixed_met, fixed_own}
use Rattle.std.proofs.Common.{sym}
use Rattle.pb_choice_entries.proofs.agree.fixed_meeting.Goals as goal

pub returns-in-Fixed : goal.returns-in-Fixed
returns-in-Fixed c = same_met c.args.area c.if_equal.result c.args.a c.args.b (c.requires ∙ sym c.in-Fixed.is) c.if_equal.ensures

pub returns-in-Param : goal.returns-in-Param
returns-in-Param c = fixed_met c.args.area c.during.result c.args.a c.args.b (c.args.a.off -ℤ c.args.b.off) c.requires c.in-Param.is refl c.during.ensures

pub returns-in-Var : goal.returns-in-Var
returns-in-Var c = fixed_own c.args.area c.single.result c.args.a c.args.b c.requires c.in-Var.is c.single.ensures
