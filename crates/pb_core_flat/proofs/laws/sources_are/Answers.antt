use Rattle.pb_core_flat.proofs.Sources.{put_is, source_at_first, source_at_some}
use Rattle.pb_core_flat.proofs.laws.sources_are.Goals as goal

pub returns-clause-put : goal.returns-clause-put
returns-clause-put c = put_is

pub returns-clause-first : goal.returns-clause-first
returns-clause-first c = source_at_first

pub returns-clause-some : goal.returns-clause-some
returns-clause-some c = source_at_some
