use Rattle.std.specs.List.{list_any}
use Rattle.pb_part_firsts.specs.Firsts.{is_small_kind}
use Rattle.pb_choice_entries.specs.Clashes.{pair}
use Rattle.pb_choice_entries.proofs.Adds.{SoFar}
use Rattle.pb_choice_entries.proofs.pairs.add_pairs_of.Given as goal

abbrev pub invariant-loop-other : goal.invariant-loop-other
invariant-loop-other l = SoFar (is_small_kind l.entry.kind) l.others l.other-index l.initial.out.items l.out.items (λ z n role x. list_any (λ e. pair l.pairing l.entry e n role x) z)
