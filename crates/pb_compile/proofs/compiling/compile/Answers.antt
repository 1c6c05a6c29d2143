use Rattle.pb_compile.proofs.Accepted.{sound_of, proper_of, tabled_of}
use Rattle.pb_compile.proofs.Done.{compiled}
use Rattle.pb_compile.proofs.compiling.compile.Goals as goal

pub tree_of-requires-clause-sound : goal.tree_of-requires-clause-sound
tree_of-requires-clause-sound c = sound_of _ _ c.in_ok-core.ensures.accepted

pub tree_of-requires-clause-proper : goal.tree_of-requires-clause-proper
tree_of-requires-clause-proper c = proper_of _ _ c.in_ok-core.ensures.accepted c.file_is_proper.ensures

pub tree_of-requires-clause-tabled : goal.tree_of-requires-clause-tabled
tree_of-requires-clause-tabled c = tabled_of _ _ c.in_ok-core.ensures.accepted c.file_is_tabled.ensures

pub returns-in-Ok-clause-compiled : goal.returns-in-Ok-clause-compiled
returns-in-Ok-clause-compiled c =
    compiled _ _ _ c.in_ok-core.ensures.accepted c.in-Ok.ensures.projected c.file_is_proper.ensures c.file_is_small.ensures c.text_ranks.ensures c.text_is_reached.ensures c.in-Ok.ensures.size c.in-Ok.ensures.braces
