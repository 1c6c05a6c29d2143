use Rattle.std.proofs.Common.{◌≡◌, take}
use Rattle.pb_core_language.specs.Collectives.{combine, word_by_word}
use Rattle.pb_core_language.specs.FlatOf.{operation_of}
use Rattle.pb_judge_joint.proofs.combine.word_by_word.Given as goal

abbrev pub invariant-loop-at : goal.invariant-loop-at
invariant-loop-at l = l.all.items ≡ word_by_word (combine l.payload (operation_of l.op)) (take l.at l.list) (take l.at l.others)
