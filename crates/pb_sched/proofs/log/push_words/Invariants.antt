use Rattle.std.proofs.Common.{◌≡◌, ◌++◌, drop}
use Rattle.pb_sched.specs.Logged.{words_text}
use Rattle.pb_sched.proofs.log.push_words.Given as goal

abbrev pub invariant-loop-word : goal.invariant-loop-word
invariant-loop-word l = l.out.items ++ words_text l.payload (drop l.word-index l.words) ≡ l.initial.out.items ++ words_text l.payload l.words
