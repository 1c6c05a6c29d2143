use Rattle.pb_choice_entries.proofs.Meetings.{not_equal, are_equal}
use Rattle.pb_choice_entries.proofs.agree.if_equal.Goals as goal

pub returns-then-are_equal : goal.returns-then-are_equal
returns-then-are_equal c = are_equal c.args.area c.args.a.off c.args.b.off c.are_equal.result c.are_equal.ensures c.if-are_equal.true

pub returns-else-are_equal : goal.returns-else-are_equal
returns-else-are_equal c = not_equal c.args.area c.nothing.result c.args.a.off c.args.b.off c.are_equal.result c.are_equal.ensures c.if-are_equal.false c.nothing.ensures
