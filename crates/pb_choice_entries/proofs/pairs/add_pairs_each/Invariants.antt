use Rattle.std.specs.List.{list_any}
use Rattle.pb_part_firsts.specs.Firsts.{are_small}
use Rattle.pb_choice_entries.specs.Clashes.{pair_any}
use Rattle.pb_choice_entries.proofs.Adds.{SoFar}
use Rattle.pb_choice_entries.proofs.pairs.add_pairs_each.Given as goal

abbrev pub invariant-loop-entry : goal.invariant-loop-entry
invariant-loop-entry l = SoFar (are_small l.others) l.here l.entry-index l.initial.out.items l.out.items (λ z n role x. list_any (λ e. pair_any l.pairing l.others e n role x) z)
