use Rattle.std.proofs.Common.{◌<◌, ◌≢◌, length, arith, get_or-set_other, get_or-set_same, length-set}
use borrow.Author.Count.{below_more}
use Rattle.pb_diff.proofs.table.eliminated.Goals as goal

pub loop-i-preserved : goal.loop-i-preserved
loop-i-preserved c =
    let room : c.loop-i.i < length c.loop-i.out = omega (arith, c.loop-i.invariant.0) in (
      simp length-set c.loop-i.invariant.0,
      below_more _ _
          (λ j h. let ne : j ≢ c.loop-i.i = omega arith in rw get_or-set_other (c.loop-i.invariant.1 j h))
          (rw get_or-set_same c.through.ensures),
    )
