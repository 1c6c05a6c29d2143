use Rattle.pb_part_takers.proofs.Finds.{numbered_here, numbered_elsewhere}
use Rattle.pb_part_takers.proofs.search.here.Goals as goal

pub returns-in_ok-takers_at : goal.returns-in_ok-takers_at
returns-in_ok-takers_at c = numbered_here c.args.whole.now c.args.held.now c.args.number c.args.stmt.now c.args.out.now.items c.takers_at.new.out.items c.if-number-stmt.true c.in_ok-takers_at.ensures

pub returns-else-number-stmt : goal.returns-else-number-stmt
returns-else-number-stmt c = numbered_elsewhere c.args.whole.now c.args.held.now c.args.number c.args.stmt.now c.args.out.now.items c.if-number-stmt.false
