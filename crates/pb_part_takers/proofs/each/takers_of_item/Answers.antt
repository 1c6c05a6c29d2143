use Rattle.std.proofs.lemmas.Result.{on_ok_weaker}
use Rattle.pb_core_language.specs.Tree.{run}
use Rattle.pb_part_takers.proofs.Items.{run_item, of_item}
use Rattle.pb_core_language.proofs.Plains.{plain_run}
use Rattle.pb_part_takers.proofs.each.takers_of_item.Goals as goal

pub returns-in-Run : goal.returns-in-Run
returns-in-Run c = on_ok_weaker c.add_met.result (λ d held ids.
    of_item c.args.whole.now held c.args.over ids c.args.stmt.now (run c.in-Run.kernel c.in-Run.at) c.args.out.now.items c.add_met.new.out.items (plain_run c.args.stmt.now c.in-Run.kernel c.in-Run.at c.in-Run.is)
    (run_item c.args.whole.now held c.args.over c.in-Run.kernel ids c.in-Run.at c.args.out.now.items c.add_met.new.out.items (d held))) c.add_met.ensures
