use Rattle.std.proofs.Common.{◌≡◌, length}
use Rattle.pb_judge_log.specs.Reading.{words_in, fields_behind}
use Rattle.pb_judge_log.proofs.Prefixed.{prefixed}
use Rattle.pb_judge_log.proofs.carried.words.Given as goal

abbrev pub invariant-fields : goal.invariant-fields
invariant-fields l = prefixed l.list.items (words_in l.payload (fields_behind l.rest)) ≡ words_in l.payload (fields_behind l.text)

abbrev pub decreases-fields : goal.decreases-fields
decreases-fields l = length l.rest
