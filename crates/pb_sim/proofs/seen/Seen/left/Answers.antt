use Rattle.pb_sim.proofs.Standings.{idle_ended, at_end, left_over}
use Rattle.pb_sim.proofs.seen.Seen.left.Goals as goal

pub returns-in-None : goal.returns-in-None
returns-in-None c = λ sequence. at_end c.args.self.now.state sequence c.requires.seen.readied.state (idle_ended c.args.self.now.state c.requires.ended) c.requires.ended (c.any.ensures.none c.in-None.is)

pub returns-in-Some : goal.returns-in-Some
returns-in-Some c = λ sequence. left_over c.args.self.now.state sequence c.requires.seen.readied.state (idle_ended c.args.self.now.state c.requires.ended) c.requires.ended c.in-Some.rank c.in-Some.from c.in-Some.label c.in-Some.ensures.some
