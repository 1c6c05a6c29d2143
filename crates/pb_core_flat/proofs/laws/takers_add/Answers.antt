use Rattle.pb_core_flat.proofs.SoundOnes.{sound_goes_on}
use Rattle.pb_core_flat.proofs.TakersAdd.{takes_one_by_one, takes_in_block, takes_first}
use Rattle.pb_core_flat.proofs.laws.takers_add.Goals as goal

pub returns-clause-sound : goal.returns-clause-sound
returns-clause-sound c = sound_goes_on

pub returns-clause-statement : goal.returns-clause-statement
returns-clause-statement c = takes_one_by_one

pub returns-clause-block : goal.returns-clause-block
returns-clause-block c = takes_in_block

pub returns-clause-first : goal.returns-clause-first
returns-clause-first c = takes_first
