-- The family of a flat protocol's endpoints, and what is proved of it.
use Rattle.std.specs.Prelude.{List}
use Rattle.pb_world.specs.Theorem.{AllRanks}
use Rattle.pb_world.specs.Family.{Family, Laws}
use Rattle.pb_core_language.specs.Flat.{Block}
use Rattle.pb_core_language.specs.Run.{Setting, Depends, is_allowed, seq, is_over}
use Rattle.pb_core_endpoint.specs.Rules.{Accepted}
use Rattle.pb_core_endpoint.specs.Endpoint.{Part, machine, endpoint}

-- the ranks' machines on their endpoints, beside the sequential run of the protocol
abbrev pub family : Setting → Block → Family (List Part)
family w protocol = record {
  total = w.total;
  machine = machine;
  start = endpoint protocol;
  allowed = is_allowed w;
  needs = w.needs;
  outcome = w.outcome;
  run = seq w protocol;
  over = is_over w protocol;
}

-- where the rules are kept, the endpoints keep the laws, and all ranks together do the protocol
abbrev pub EndpointsDo : Type 0
EndpointsDo = (w : Setting) (protocol : Block) → Depends w → Accepted w protocol → Laws (family w protocol) × AllRanks (family w protocol)
