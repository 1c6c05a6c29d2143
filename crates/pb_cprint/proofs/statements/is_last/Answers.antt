use Rattle.pb_cprint.proofs.Blocks.{last_is}
use Rattle.pb_cprint.proofs.statements.is_last.Goals as goal

pub returns : goal.returns
returns c = last_is c.args.branches.now c.args.number c.requires
