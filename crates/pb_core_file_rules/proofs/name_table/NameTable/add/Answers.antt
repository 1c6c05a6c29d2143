use Rattle.pb_core_file_rules.proofs.Positions.{interned_last, one_more}
use Rattle.pb_core_file_rules.proofs.name_table.NameTable.add.Goals as goal

pub invariant_of-self-2 : goal.invariant_of-self-2
invariant_of-self-2 c =
    record { counted = one_more _ _ c.args.name _ (interned_last c.args.self.now.names _ c.args.name _ c.requires.absent c.in_ok-intern.ensures.interned) c.args.self.now.counted }
