use Rattle.pb_diff.proofs.table.+raised.Given as goal

abbrev pub decreases-raised : goal.decreases-raised
decreases-raised l = l.count
