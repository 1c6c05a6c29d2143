use Rattle.std.proofs.Common.{◌-ℤ◌}
use Rattle.pb_choice_entries.proofs.Meetings.{during_none, during_some, is_small}
use Rattle.pb_choice_entries.proofs.agree.during.Goals as goal

pub returns-in-None : goal.returns-in-None
returns-in-None c = during_none c.args.area c.nothing.result (c.args.fixed.off -ℤ c.args.param.off) c.number_of.result c.number_of.ensures c.in-None.is c.nothing.ensures

pub at_number-requires : goal.at_number-requires
at_number-requires c = is_small (c.args.fixed.off -ℤ c.args.param.off) c.number_of.result c.in-Some.t c.number_of.ensures c.in-Some.is

pub returns-in-Some : goal.returns-in-Some
returns-in-Some c = during_some c.args.area c.at_number.result (c.args.fixed.off -ℤ c.args.param.off) c.number_of.result c.in-Some.t c.number_of.ensures c.in-Some.is c.at_number.ensures
