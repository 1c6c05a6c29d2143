use Rattle.pb_core_endpoint.proofs.OnceLaws.{once_is}
use Rattle.pb_core_endpoint.proofs.once.Goals as goal

pub returns : goal.returns
returns c = once_is
