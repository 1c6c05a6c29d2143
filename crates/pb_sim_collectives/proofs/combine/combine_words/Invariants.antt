use Rattle.std.proofs.Common.{◌≡◌, take}
use Rattle.pb_local.specs.Collectives.{operation_of, combine, word_by_word}
use Rattle.pb_sim_collectives.proofs.combine.combine_words.Given as goal

abbrev pub invariant-loop-i : goal.invariant-loop-i
invariant-loop-i l = l.words.items ≡ word_by_word (combine l.payload (operation_of l.op)) (take l.i l.xs) (take l.i l.ys)
