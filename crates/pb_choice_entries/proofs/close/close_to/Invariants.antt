use Rattle.std.proofs.Common.{drop}
use Rattle.pb_choice_entries.proofs.Closes.{Keeps, IsFar}
use Rattle.pb_choice_entries.proofs.close.close_to.Given as goal

abbrev pub invariant-loop-entry : goal.invariant-loop-entry
invariant-loop-entry l = Keeps (IsFar l.area) l.others l.out.items (drop l.entry-index l.others)
