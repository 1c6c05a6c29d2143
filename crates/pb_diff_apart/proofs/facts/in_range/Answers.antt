use Rattle.pb_diff_apart.proofs.Steps.{adds_same, adds_both}
use Rattle.pb_diff_apart.proofs.Meanings.{range_same}
use Rattle.pb_diff_apart.proofs.facts.in_range.Goals as goal

pub returns-clause-adds : goal.returns-clause-adds
returns-clause-adds c =
    adds_same c.args.system.now c.up_to.new.system 2 _ _ (range_same c.args.range c.number_of.result c.number_of.ensures.is)
    (adds_both c.args.system.now c.at_most.new.system c.up_to.new.system 1 1 _ _ c.at_most.ensures.adds c.up_to.ensures)
