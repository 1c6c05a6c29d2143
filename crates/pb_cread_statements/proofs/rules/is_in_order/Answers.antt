use Rattle.pb_cread_statements.proofs.LastTest.{in_order}
use Rattle.pb_cread_statements.proofs.rules.is_in_order.Goals as goal

pub returns-in-len1-up : goal.returns-in-len1-up
returns-in-len1-up c = in_order c.args.tests.now c.before-item.result c.args.branch c.args.label c.comes_behind.result c.in-len1-up.len_at_least c.before-item.is c.comes_behind.ensures
