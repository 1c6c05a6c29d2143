use Rattle.pb_local.specs.Tree.{program_of}
use Rattle.pb_cread_small.proofs.laws.small_is_read.Goals as goal

pub returns : goal.returns
returns c tree bodies bytes spells are size braces f fault =
    c.no_fault_of_a_spelling.ensures tree bodies bytes spells are (c.small_keeps_limits.ensures (program_of tree.local) size braces) f fault
