use Rattle.std.proofs.Common.{get_or}
use Rattle.pb_part_areas.specs.Joins.{blank}
use Rattle.pb_part_areas.proofs.Clips.{clip_step, clip_end, from_of}
use Rattle.pb_part_areas.proofs.clip.least_from.Goals as goal

pub loop-a-preserved : goal.loop-a-preserved
loop-a-preserved c = record {
  is = λ n role x h. clip_step c.args.list.now c.loop-a.a-index _ _ _ n role x c.loop-a-test.true (c.least-low.ensures.is n) (from_of (get_or c.args.list.now c.loop-a.a-index blank) n role x) (c.loop-a.invariant.is n role x h);
  edge = λ range cuts e f. c.least-low.ensures.edge range cuts (c.loop-a.invariant.edge range cuts e f) (f c.loop-a.a-index blank c.loop-a-test.true).from;
}

pub returns-clause-is : goal.returns-clause-is
returns-clause-is c = λ n role x h. clip_end c.args.list.now c.loop-a.a-index _ n role x c.loop-a-test.false (c.loop-a.invariant.is n role x h)
