use Rattle.pb_core_flat.proofs.Choices.{choice_finds}
use Rattle.pb_core_flat.proofs.OutcomeSets.{either_outcome}
use Rattle.pb_core_flat.proofs.OutcomesAdd.{finds_one_by_one, finds_in_block, bystander_finds, finds_first}
use Rattle.pb_core_flat.proofs.laws.outcomes_add.Goals as goal

pub returns-clause-statement : goal.returns-clause-statement
returns-clause-statement c = finds_one_by_one

pub returns-clause-block : goal.returns-clause-block
returns-clause-block c = finds_in_block

pub returns-clause-either : goal.returns-clause-either
returns-clause-either c = either_outcome

pub returns-clause-bystander : goal.returns-clause-bystander
returns-clause-bystander c = bystander_finds

pub returns-clause-choice : goal.returns-clause-choice
returns-clause-choice c = choice_finds

pub returns-clause-first : goal.returns-clause-first
returns-clause-first c = finds_first
