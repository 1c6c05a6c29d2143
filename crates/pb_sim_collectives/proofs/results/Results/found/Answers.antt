use Rattle.pb_sim_collectives.proofs.Gathering.{found_some}
use Rattle.pb_sim_collectives.proofs.results.Results.found.Goals as goal

pub returns-in-Some : goal.returns-in-Some
returns-in-Some c = found_some (λ words. words.now) c.args.self.now.last c.args.payload c.args.op c.args.k c.in-Some.combination c.in_way.result c.in-Some.is c.in_way.ensures
