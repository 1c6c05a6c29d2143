use Rattle.pb_text.specs.Places.{first_place, place_after}
use Rattle.pb_strips_syntax.specs.Plain.{plain_file}
use Rattle.pb_parse.proofs.Repeat.{at_unexpected}
use Rattle.pb_strips_parse.proofs.Together.{passes_is, passes_whole, refused}
use Rattle.pb_strips_parse.proofs.verdict.up_to.Goals as goal
use Rattle.pb_strips_parse.proofs.verdict.up_to.Goals.{in-Ok, in-Err-NoMemory, in-Err-Unexpected}

pub returns : goal.returns
returns c = elim c.match-whole.branch [
  | in-Ok w ↦ rw (w.result-is, w.passes_fault.ensures, ← c.index-tokens-i.is) (passes_is (place_after first_place c.args.bytes.now) c.args.tokens.now c.args.quantity c.index-tokens-i.result.place (passes_whole c.args.tokens.now c.args.i c.index-tokens-i.result c.args.quantity c.requires.below c.index-tokens-i.is c.requires.within c.requires.passes (plain_file w.in-Ok.field-0) c.whole.new.cursor.rest.now w.in-Ok.ensures))
  | in-Err-NoMemory w ↦ rw w.result-is tt
  | in-Err-Unexpected w ↦ rw (w.result-is, w.stop_fault.ensures, ← c.index-tokens-i.is) (refused c.args.tokens.now c.args.i c.index-tokens-i.result c.args.quantity c.requires.below c.index-tokens-i.is c.requires.within c.requires.passes (place_after first_place c.args.bytes.now) c.whole.new.cursor.rest.now (at_unexpected w.in-Err-Unexpected.field-0 c.whole.new.cursor.rest.now _ w.in-Err-Unexpected.field-0-is w.in-Err-Unexpected.ensures))
]
