use Rattle.pb_kernels.proofs.Keys.{goes_on}
use Rattle.pb_kernels.proofs.functions.names.Goals as goal

pub loop-name-preserved : goal.loop-name-preserved
loop-name-preserved c =
    goes_on c.args.list.now c.loop-name.name-index c.name-item.result c.loop-name.names.keys c.insert.new.self.keys
    c.loop-name-test.true c.name-item.is c.in_ok-insert.ensures.keys c.loop-name.invariant
