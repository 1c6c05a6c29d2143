use Rattle.pb_diff.proofs.table.+solved.Given as goal

abbrev pub decreases-solved : goal.decreases-solved
decreases-solved l = l.vars
