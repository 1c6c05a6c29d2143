use Rattle.std.proofs.Common.{sym}
use Rattle.std.proofs.lemmas.List.Sorted.{list_any-IsPermutation}
use Rattle.pb_choice_entries.proofs.Closes.{small_reordered}
use Rattle.pb_choice_entries.proofs.order.in_order.Goals as goal

pub returns-clause-any : goal.returns-clause-any
returns-clause-any c = λ t.
    sym (list_any-IsPermutation t c.args.entries.items c.sort_unstable_by_key.new.self.items c.sort_unstable_by_key.ensures.permutation)

pub returns-clause-small : goal.returns-clause-small
returns-clause-small c = small_reordered c.args.entries.items c.sort_unstable_by_key.new.self.items c.sort_unstable_by_key.ensures.permutation
