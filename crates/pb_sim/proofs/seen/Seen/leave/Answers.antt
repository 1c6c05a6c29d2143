use Rattle.std.proofs.Common.{refl, ◌∷◌, [], arith}
use Rattle.pb_world.specs.Actions.{Leave}
use Rattle.pb_sim_collectives.specs.Calls.{collective_of}
use Rattle.pb_sim.proofs.Exact.{asked_many, seen_one, few_leave}
use Rattle.pb_sim.proofs.seen.Seen.leave.Goals as goal

pub returns-clause-seen : goal.returns-clause-seen
returns-clause-seen c =
    (seen_one c.args.self.now c.refresh.new.self c.leave.new.self c.args.rank (Leave (collective_of c.in_ok-call.call) c.in_ok-call.words ∷ []) c.requires.seen c.in_ok-call.ensures.event.0 c.in_ok-call.ensures.event.1
    c.refresh.ensures.state c.refresh.ensures.counts c.refresh.ensures.steps c.refresh.ensures.total c.refresh.ensures.ready
    (few_leave c.args.self.now.counts c.args.self.now.steps c.requires.seen.few (collective_of c.in_ok-call.call) c.in_ok-call.words)
    (asked_many c.args.self.now.state c.leave.new.self c.args.rank 0 (Leave (collective_of c.in_ok-call.call) c.in_ok-call.words ∷ []) c.in_ok-call.ensures.asked (omega arith) refl)).1
