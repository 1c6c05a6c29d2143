use Rattle.std.proofs.Common.{map}
use Rattle.pb_local.specs.Tree.{plain, program_of}
use Rattle.pb_cread.proofs.read.read_body.Goals as goal

pub returns-in-Ok-read_ending-clause-read : goal.returns-in-Ok-read_ending-clause-read
returns-in-Ok-read_ending-clause-read c = λ text r m. c.in-Ok-read_ending.ensures.read text r (program_of c.args.local.now) (map plain c.in-Ok.body.items) (c.in-Ok.ensures.read text r m)

pub returns-in-Err-read_ending-clause-fault : goal.returns-in-Err-read_ending-clause-fault
returns-in-Err-read_ending-clause-fault c = λ text r m. c.in-Err-read_ending.ensures.fault text r (program_of c.args.local.now) (map plain c.in-Ok.body.items) (c.in-Ok.ensures.read text r m)
