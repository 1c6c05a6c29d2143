use Rattle.pb_diff_apart.proofs.Steps.{adds_same, adds_both}
use Rattle.pb_diff_apart.proofs.Meanings.{guard_same}
use Rattle.pb_diff_apart.proofs.facts.under_guard.Goals as goal

pub returns : goal.returns
returns c =
    let start = c.args.system.now in
    adds_same start c.up_to.new.system 4 _ _ (guard_same c.args.guard.now)
    (adds_both start c.from_on.new.system c.up_to.new.system 3 1 _ _
    (adds_both start c.up_to_high_end.new.system c.from_on.new.system 2 1 _ _
    (adds_both start c.from_low_end.new.system c.up_to_high_end.new.system 1 1 _ _ c.from_low_end.ensures c.up_to_high_end.ensures) c.from_on.ensures) c.up_to.ensures)
