use Rattle.std.proofs.Common.{refl}
use Rattle.pb_types.specs.Plain.{plain_file}
use Rattle.pb_parse.proofs.Repeat.{at_unexpected}
use Rattle.pb_types.proofs.Texts.{front_whole, front_left}
use Rattle.pb_types.proofs.verdict.is_front.Goals as goal
use Rattle.pb_types.proofs.verdict.is_front.Goals.{in-Ok, in-Err-NoMemory, in-Err-Unexpected}

pub returns : goal.returns
returns c = elim c.match-whole.branch [
  | in-Ok w ↦ rw w.result-is (λ yes. front_whole c.args.tokens.now (plain_file w.in-Ok.field-0) c.whole.new.cursor.rest.now w.in-Ok.ensures, λ front. refl)
  | in-Err-NoMemory w ↦ rw w.result-is tt
  | in-Err-Unexpected w ↦ rw (w.result-is, w.nothing_left.ensures) (front_left c.args.tokens.now c.whole.new.cursor.rest.now (at_unexpected w.in-Err-Unexpected.field-0 c.whole.new.cursor.rest.now _ w.in-Err-Unexpected.field-0-is w.in-Err-Unexpected.ensures))
]
