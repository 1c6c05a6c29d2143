use Rattle.pb_core_flat.proofs.Below.{some_below_is, over_below_is}
use Rattle.pb_core_flat.proofs.OutcomeTests.{only_receives_is, from_one_is, label_is, none_shared_is}
use Rattle.pb_core_flat.proofs.laws.tests_are.Goals as goal

pub returns-clause-receives : goal.returns-clause-receives
returns-clause-receives c = only_receives_is

pub returns-clause-source : goal.returns-clause-source
returns-clause-source c = from_one_is

pub returns-clause-label : goal.returns-clause-label
returns-clause-label c = label_is

pub returns-clause-shared : goal.returns-clause-shared
returns-clause-shared c = none_shared_is

pub returns-clause-some : goal.returns-clause-some
returns-clause-some c = some_below_is

pub returns-clause-over : goal.returns-clause-over
returns-clause-over c = over_below_is
