use Rattle.std.proofs.Common.{refl}
use Rattle.std.proofs.lemmas.Result.{IfOk-weaker}
use Rattle.pb_part_takers.specs.Loops.{ids_of}
use Rattle.pb_part_firsts.proofs.Singles.{run_adds, end_small, end_over, run_is_end}
use Rattle.pb_part_firsts.proofs.single.add_run.Goals as goal

pub returns-clause-gives : goal.returns-clause-gives
returns-clause-gives c = IfOk-weaker c.add_stop.result _ _ (λ done f range roles rows held m k h.
    run_adds held m k c.args.at (f range roles (end_small rows c.args.at (run_is_end rows (ids_of held) k c.args.at h)))) c.add_stop.ensures.gives

pub returns-clause-small : goal.returns-clause-small
returns-clause-small c = IfOk-weaker c.add_stop.result _ _ (λ done f h. f refl h) c.add_stop.ensures.small

pub returns-clause-fits : goal.returns-clause-fits
returns-clause-fits c = IfOk-weaker c.add_stop.result _ _ (λ done f range cuts rows ids k h a s.
    let end = run_is_end rows ids k c.args.at h in
    f range cuts (end_small rows c.args.at end) (end_over rows c.args.at end) a s) c.add_stop.ensures.fits
