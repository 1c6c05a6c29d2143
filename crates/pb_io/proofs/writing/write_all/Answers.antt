use Rattle.std.proofs.Common.{rules}
use Rattle.std.proofs.lemmas.List.{take_rest}
use Rattle.pb_io.proofs.Known.{appends_next}
use Rattle.pb_io.proofs.writing.write_all.Goals as goal

pub loop-done-preserved : goal.loop-done-preserved
loop-done-preserved g c = record {
  within = search rules;
  front = appends_next _ _ _ _ _ _ _ (take_rest c.args.bytes.now c.loop-done.done) c.loop-done.invariant.front c.in_ok-done.ensures.bytes;
  later = search rules;
}
