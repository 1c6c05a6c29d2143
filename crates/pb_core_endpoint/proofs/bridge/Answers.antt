use Rattle.pb_core_endpoint.proofs.Accepted.{bridge_is}
use Rattle.pb_core_endpoint.proofs.bridge.Goals as goal

pub returns : goal.returns
returns c = bridge_is
