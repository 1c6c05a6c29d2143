use Rattle.std.proofs.Common.{sym, ◌∙◌}
use Rattle.pb_choice_entries.proofs.Meetings.{same_met, own_fixed, own_param}
use Rattle.pb_choice_entries.proofs.agree.own_meeting.Goals as goal

pub returns-in-Fixed : goal.returns-in-Fixed
returns-in-Fixed c = own_fixed c.args.area c.single.result c.args.a c.args.b c.requires c.in-Fixed.is c.single.ensures

pub returns-in-Param : goal.returns-in-Param
returns-in-Param c = own_param c.args.area c.single-in-Param.result c.args.a c.args.b c.requires c.in-Param.is c.single-in-Param.ensures

pub returns-in-Var : goal.returns-in-Var
returns-in-Var c = same_met c.args.area c.if_equal.result c.args.a c.args.b (c.requires ∙ sym c.in-Var.is) c.if_equal.ensures
