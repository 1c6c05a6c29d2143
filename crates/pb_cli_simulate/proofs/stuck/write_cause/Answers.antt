use Rattle.std.proofs.Common.{subst}
use Rattle.pb_local.specs.Tree.{program_of}
use Rattle.pb_cli_simulate.proofs.stuck.write_cause.Goals as goal

pub returns-in-Receive-clause-whole : goal.returns-in-Receive-clause-whole
returns-in-Receive-clause-whole g c = rw c.in-Receive.is c.write_receive.ensures.whole

pub returns-in-Receive-clause-front : goal.returns-in-Receive-clause-front
returns-in-Receive-clause-front g c = rw c.in-Receive.is c.write_receive.ensures.front

pub returns-in-Probe-clause-whole : goal.returns-in-Probe-clause-whole
returns-in-Probe-clause-whole g c = rw c.in-Probe.is (c.write_probe.ensures.whole (program_of c.args.local.now))

pub returns-in-Probe-clause-front : goal.returns-in-Probe-clause-front
returns-in-Probe-clause-front g c = rw c.in-Probe.is (c.write_probe.ensures.front (program_of c.args.local.now))

pub returns-in-Taken-clause-whole : goal.returns-in-Taken-clause-whole
returns-in-Taken-clause-whole g c = rw c.in-Taken.is c.write_taken.ensures.whole

pub returns-in-Taken-clause-front : goal.returns-in-Taken-clause-front
returns-in-Taken-clause-front g c = rw c.in-Taken.is c.write_taken.ensures.front

pub returns-in-Collective-clause-whole : goal.returns-in-Collective-clause-whole
returns-in-Collective-clause-whole g c = rw c.in-Collective.is c.write_all.ensures.whole

pub returns-in-Collective-clause-front : goal.returns-in-Collective-clause-front
returns-in-Collective-clause-front g c = rw c.in-Collective.is c.write_all.ensures.front

pub returns-in-Lost-clause-whole : goal.returns-in-Lost-clause-whole
returns-in-Lost-clause-whole g c = rw c.in-Lost.is c.write_all-in-Lost.ensures.whole

pub returns-in-Lost-clause-front : goal.returns-in-Lost-clause-front
returns-in-Lost-clause-front g c = rw c.in-Lost.is c.write_all-in-Lost.ensures.front

pub returns-in-Undefined-clause-whole : goal.returns-in-Undefined-clause-whole
returns-in-Undefined-clause-whole g c = rw c.in-Undefined.is c.write_all-in-Undefined.ensures.whole

pub returns-in-Undefined-clause-front : goal.returns-in-Undefined-clause-front
returns-in-Undefined-clause-front g c = rw c.in-Undefined.is c.write_all-in-Undefined.ensures.front

pub returns-in-Left-clause-whole : goal.returns-in-Left-clause-whole
returns-in-Left-clause-whole g c = rw c.in-Left.is c.write_left.ensures.whole

pub returns-in-Left-clause-front : goal.returns-in-Left-clause-front
returns-in-Left-clause-front g c = rw c.in-Left.is c.write_left.ensures.front
