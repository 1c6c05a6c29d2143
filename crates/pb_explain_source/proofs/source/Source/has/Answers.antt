use Rattle.pb_explain_source.proofs.Steps.{goes_on}
use Rattle.pb_explain_source.proofs.source.Source.has.Goals as goal

-- src/source.rt:109:14
pub loop-byte-preserved : goal.loop-byte-preserved
loop-byte-preserved c =
    goes_on c.args.self.now.bytes.now c.loop-byte.byte-index _ c.loop-byte-test.true c.loop-byte.invariant c.place_behind-here.ensures
