use Rattle.pb_do_faults.proofs.Known.{interned_last, counted_more}
use Rattle.pb_do_faults.proofs.table.Table.push.Goals as goal

pub invariant_of-self-2 : goal.invariant_of-self-2
invariant_of-self-2 c =
    record {
      counted = counted_more c.args.self.now.names c.intern.new.self c.args.spot.now.name c.args.self.now.count
          (interned_last c.args.self.now.names c.intern.new.self c.args.spot.now.name c.in_ok-intern.field-0 c.requires c.in_ok-intern.ensures.interned) c.args.self.now.counted;
    }
