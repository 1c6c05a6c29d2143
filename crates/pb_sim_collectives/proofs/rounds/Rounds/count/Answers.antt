use Rattle.std.proofs.Common.{◌≡◌, ◌≤◌, ◌∙◌, true, length, rules}
use Rattle.std.specs.Result.{is_ok}
use Rattle.pb_sim_collectives.proofs.Pushing.{with_one_in, with_one_behind}
use Rattle.pb_sim_collectives.proofs.rounds.Rounds.count.Goals as goal

pub returns-then-k-len : goal.returns-then-k-len
returns-then-k-len c = with_one_in c.args.self.now.list.items c.args.k c.index_mut-round.result.now c.args.call (search rules) c.index_mut-round.ensures.value

pub returns-else-k-len : goal.returns-else-k-len
returns-else-k-len c =
    let k : is_ok c.push.result ≡ true = c.push.ensures.succeeds c.requires.room in
    let e = rw k at c.push.ensures.items in
    let l : length c.args.self.now.list.items ≤ c.args.k = search rules in
    e ∙ with_one_behind c.args.self.now.list.items c.args.k c.args.call l
