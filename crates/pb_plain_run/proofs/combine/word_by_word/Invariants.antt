use Rattle.std.proofs.Common.{◌≡◌, ◌++◌, drop}
use Rattle.pb_core_language.specs.Collectives.{combine, word_by_word}
use Rattle.pb_core_language.specs.FlatOf.{operation_of}
use Rattle.pb_plain_run.proofs.combine.word_by_word.Given as goal

abbrev pub invariant-loop-at : goal.invariant-loop-at
invariant-loop-at l =
    l.all.items ++ word_by_word (combine l.payload (operation_of l.op)) (drop l.at l.list) (drop l.at l.others) ≡ word_by_word (combine l.payload (operation_of l.op)) l.list l.others
