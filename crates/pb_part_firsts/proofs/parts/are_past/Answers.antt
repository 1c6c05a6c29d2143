use Rattle.pb_part_firsts.proofs.Flats.{part_ahead, first_around, others_around}
use Rattle.pb_part_firsts.proofs.Comes.{past_step, past_end}
use Rattle.pb_part_firsts.proofs.parts.are_past.Goals as goal

pub loop-part-init : goal.loop-part-init
loop-part-init c = record { past = λ n role x k h. h; ahead = λ k. k }

pub loop-part-preserved : goal.loop-part-preserved
loop-part-preserved c =
    let i = c.loop-part.part-index in
    let part = c.part-item.result in
    let split = part_ahead c.args.parts.now i part c.loop-part-test.true c.part-item.is in
    record {
      past = λ n role x k h. c.loop-part.invariant.past n role x k (past_step c.args.parts.now i part c.args.a n role x split
          (first_around _ _ part split (c.loop-part.invariant.ahead k)) (c.is_apart.ensures c.if-not-is_apart.false n role x) h);
      ahead = λ k. others_around _ _ part split (c.loop-part.invariant.ahead k);
    }

pub returns : goal.returns
returns c = λ _ k n role x. c.loop-part.invariant.past n role x k (past_end c.args.parts.now c.loop-part.part-index c.args.a n role x c.loop-part-test.false)
