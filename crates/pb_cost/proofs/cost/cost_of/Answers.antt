use Rattle.std.proofs.Common.{rules, ◌≡◌, None}
use Rattle.pb_core_language.specs.Plain.{plain}
use Rattle.pb_cost.specs.Costs.{first_loop}
use Rattle.pb_cost.proofs.All.{all_told}
use Rattle.pb_cost.proofs.cost.cost_of.Goals as goal

pub returns-clause-told : goal.returns-clause-told
returns-clause-told c =
    let none : first_loop (plain c.args.core.now).body.block ≡ None = search rules in
    all_told (plain c.args.core.now) _ none c.in_ok-count_of.ensures c.in_ok-count_of-2.ensures c.in_ok-count_of-3.ensures c.in_ok-count_of-4.ensures
