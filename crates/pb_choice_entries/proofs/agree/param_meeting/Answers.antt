use Rattle.std.proofs.Common.{sym, ◌∙◌}
use Rattle.std.proofs.Common.{◌-ℤ◌, refl}
use Rattle.pb_choice_entries.proofs.Meetings.{same_met, param_met, param_own}
use Rattle.pb_choice_entries.proofs.agree.param_meeting.Goals as goal

pub returns-in-Fixed : goal.returns-in-Fixed
returns-in-Fixed c = param_met c.args.area c.during.result c.args.a c.args.b (c.args.b.off -ℤ c.args.a.off) c.requires c.in-Fixed.is refl c.during.ensures

pub returns-in-Param : goal.returns-in-Param
returns-in-Param c = same_met c.args.area c.if_equal.result c.args.a c.args.b (c.requires ∙ sym c.in-Param.is) c.if_equal.ensures

pub returns-in-Var : goal.returns-in-Var
returns-in-Var c = param_own c.args.area c.single.result c.args.a c.args.b c.requires c.in-Var.is c.single.ensures
