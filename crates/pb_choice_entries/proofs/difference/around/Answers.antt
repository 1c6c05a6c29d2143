use Rattle.std.proofs.lemmas.Bool.{or_right}
use Rattle.pb_part_areas.specs.Areas.{have}
use Rattle.pb_choice_entries.proofs.Lessened.{around_step, around_end}
use Rattle.pb_choice_entries.proofs.difference.around.Goals as goal

pub loop-area-init : goal.loop-area-init
loop-area-init c = λ n role x h. or_right _ (have c.args.list.now n role x) h

pub loop-area-preserved : goal.loop-area-preserved
loop-area-preserved c = λ n role x.
    around_step c.args.list.now c.loop-area.area-index _ _ _ n role x c.loop-area-test.true (c.in_ok-all-2.ensures n role x) (c.loop-area.invariant n role x)

pub returns : goal.returns
returns c = λ n role x. around_end c.args.list.now c.loop-area.area-index _ n role x c.loop-area-test.false (c.loop-area.invariant n role x)
