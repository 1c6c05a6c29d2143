use Rattle.pb_cli.proofs.call.perform.Goals as goal

pub returns-in-GenWith-clause-reply : goal.returns-in-GenWith-clause-reply
returns-in-GenWith-clause-reply g c = rw c.in-GenWith.is c.tell_merged.ensures.reply

pub returns-in-Sim-clause-reply : goal.returns-in-Sim-clause-reply
returns-in-Sim-clause-reply g c = rw c.in-Sim.is c.sim.ensures.reply

pub returns-in-Replay-clause-reply : goal.returns-in-Replay-clause-reply
returns-in-Replay-clause-reply g c = rw c.in-Replay.is c.replay.ensures.reply

pub returns-in-Run-clause-reply : goal.returns-in-Run-clause-reply
returns-in-Run-clause-reply g c = rw c.in-Run.is c.run.ensures.reply

pub returns-in-Demo-clause-reply : goal.returns-in-Demo-clause-reply
returns-in-Demo-clause-reply g c = rw c.in-Demo.is c.demo.ensures.reply

pub returns-in-Expand-clause-reply : goal.returns-in-Expand-clause-reply
returns-in-Expand-clause-reply g c = rw c.in-Expand.is c.expand.ensures.reply

pub returns-in-Strips-clause-reply : goal.returns-in-Strips-clause-reply
returns-in-Strips-clause-reply g c = rw c.in-Strips.is c.strips.ensures.reply

pub returns-in-Cost-clause-reply : goal.returns-in-Cost-clause-reply
returns-in-Cost-clause-reply g c = rw c.in-Cost.is c.cost.ensures.reply

pub returns-in-Judge-clause-reply : goal.returns-in-Judge-clause-reply
returns-in-Judge-clause-reply g c = rw c.in-Judge.is c.judge.ensures.reply
