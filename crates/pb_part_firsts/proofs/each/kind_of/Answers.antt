use Rattle.pb_part_firsts.proofs.EachSteps.{kind_gets, kind_acts, kind_small}
use Rattle.pb_part_firsts.proofs.each.kind_of.Goals as goal

pub returns-in-Acts-clause-is : goal.returns-in-Acts-clause-is
returns-in-Acts-clause-is c = λ h k roles n x. kind_acts roles c.args.finding n _ c.in-Acts.is

pub returns-in-Gets-clause-is : goal.returns-in-Gets-clause-is
returns-in-Gets-clause-is c = λ h k roles n x. kind_gets roles c.args.finding c.in-Gets.source c.in-Gets.label c.args.by c.put.result n x c.in-Gets.is c.put.ensures.is h k

pub returns-in-Gets-clause-small : goal.returns-in-Gets-clause-small
returns-in-Gets-clause-small c = λ k. kind_small c.args.finding c.in-Gets.source c.in-Gets.label c.put.result c.in-Gets.is c.put.ensures.small k
