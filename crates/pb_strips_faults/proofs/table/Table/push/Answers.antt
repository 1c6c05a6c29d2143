use Rattle.pb_strips_faults.proofs.Alike.{interned_adds}
use Rattle.pb_strips_faults.proofs.table.Table.push.Goals as goal

pub returns-then-id-self : goal.returns-then-id-self
returns-then-id-self c = interned_adds c.args.self.now.names c.intern.new.self c.args.name.now c.in_ok-id.id c.in_ok-id.ensures.interned

pub returns-else-id-self : goal.returns-else-id-self
returns-else-id-self c = interned_adds c.args.self.now.names c.intern.new.self c.args.name.now c.in_ok-id.id c.in_ok-id.ensures.interned
