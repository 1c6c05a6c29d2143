use Rattle.pb_core_flat.proofs.BreachesAdd.{misfits_one_by_one, deserted_one_by_one, holds_again_one_by_one, each_keeps_rules, holds_again_is, misfits_first, deserted_first}
use Rattle.pb_core_flat.proofs.laws.breaches_add.Goals as goal

pub returns-clause-misfits : goal.returns-clause-misfits
returns-clause-misfits c = misfits_one_by_one

pub returns-clause-deserted : goal.returns-clause-deserted
returns-clause-deserted c = deserted_one_by_one

pub returns-clause-continues : goal.returns-clause-continues
returns-clause-continues c = holds_again_one_by_one

pub returns-clause-each : goal.returns-clause-each
returns-clause-each c = each_keeps_rules

pub returns-clause-tree : goal.returns-clause-tree
returns-clause-tree c = holds_again_is

pub returns-clause-misfits_first : goal.returns-clause-misfits_first
returns-clause-misfits_first c = misfits_first

pub returns-clause-deserted_first : goal.returns-clause-deserted_first
returns-clause-deserted_first c = deserted_first
