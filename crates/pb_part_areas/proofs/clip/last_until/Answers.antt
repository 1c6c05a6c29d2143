use Rattle.std.proofs.Common.{get_or}
use Rattle.pb_part_areas.specs.Joins.{blank}
use Rattle.pb_part_areas.proofs.Clips.{clip_step, clip_end, until_of}
use Rattle.pb_part_areas.proofs.clip.last_until.Goals as goal

pub loop-a-preserved : goal.loop-a-preserved
loop-a-preserved c = record {
  is = λ n role x h. clip_step c.args.list.now c.loop-a.a-index _ _ _ n role x c.loop-a-test.true (c.later_end-end.ensures.is n) (until_of (get_or c.args.list.now c.loop-a.a-index blank) n role x) (c.loop-a.invariant.is n role x h);
  edge = λ range cuts e f. c.later_end-end.ensures.edge range cuts (c.loop-a.invariant.edge range cuts e f) (f c.loop-a.a-index blank c.loop-a-test.true).until;
}

pub returns-clause-is : goal.returns-clause-is
returns-clause-is c = λ n role x h. clip_end c.args.list.now c.loop-a.a-index _ n role x c.loop-a-test.false (c.loop-a.invariant.is n role x h)
