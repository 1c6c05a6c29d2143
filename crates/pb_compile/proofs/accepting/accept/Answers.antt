use Rattle.pb_compile.proofs.Told.{countable, sound}
use Rattle.pb_compile.proofs.accepting.accept.Goals as goal

pub accept_tree-requires-clause-countable : goal.accept_tree-requires-clause-countable
accept_tree-requires-clause-countable c = countable _ c.in-Ok.file c.requires c.in-Ok.ensures.parsed

pub accept_tree-requires-clause-sound : goal.accept_tree-requires-clause-sound
accept_tree-requires-clause-sound c = sound _ c.in-Ok.file c.in-Ok.ensures.parsed
