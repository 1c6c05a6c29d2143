use Rattle.pb_local.specs.Tree.{program_of}
use Rattle.pb_ctree.proofs.Emitted.{all_numbered}
use Rattle.pb_ctree.proofs.emitting.emit.Goals as goal

pub returns-clause-numbers : goal.returns-clause-numbers
returns-clause-numbers c = all_numbered (program_of c.args.local.now) c.numbered.result c.numbered.ensures.same c.numbered.ensures.made
