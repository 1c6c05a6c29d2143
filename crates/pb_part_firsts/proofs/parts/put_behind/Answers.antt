use Rattle.std.proofs.Common.{refl}
use Rattle.std.proofs.lemmas.Result.{IfOk-weaker}
use Rattle.pb_part_areas.specs.Fits.{Fits}
use Rattle.pb_part_firsts.proofs.Flats.{more_added, more_around, more_fits, pushed_around, pushed_fits, behind_added}
use Rattle.pb_part_firsts.proofs.parts.put_behind.Goals as goal

pub returns-in_ok-push-in-Some-2-clause-is : goal.returns-in_ok-push-in-Some-2-clause-is
returns-in_ok-push-in-Some-2-clause-is c = more_added _ _ _ c.args.last c.args.a c.in_ok-push-in-Some.ensures.items c.in_ok-push-in-Some-2.ensures.items

pub returns-in_ok-push-in-Some-2-clause-around : goal.returns-in_ok-push-in-Some-2-clause-around
returns-in_ok-push-in-Some-2-clause-around c = λ h k.
    pushed_around _ _ _ c.in_ok-push-in-Some-2.ensures.items h (more_around _ c.args.last c.args.a c.in-Some.around c.in_ok-push-in-Some.ensures.items refl c.in-Some.ensures k)

pub returns-in_ok-push-in-Some-2-clause-fits : goal.returns-in_ok-push-in-Some-2-clause-fits
returns-in_ok-push-in-Some-2-clause-fits c = λ range cuts h l f.
    more_fits (Fits range cuts) _ _ _ c.args.last c.args.a c.in_ok-push-in-Some.ensures.items c.in_ok-push-in-Some-2.ensures.items h l f

pub returns-in_ok-push-in-None-clause-is : goal.returns-in_ok-push-in-None-clause-is
returns-in_ok-push-in-None-clause-is c =
    IfOk-weaker c.add_part.result _ _ (λ done f n role x. behind_added _ _ c.add_part.new.parts.items c.args.last c.args.a c.in_ok-push-in-None.ensures.items n role x (f n role x)) c.add_part.ensures.is

pub returns-in_ok-push-in-None-clause-around : goal.returns-in_ok-push-in-None-clause-around
returns-in_ok-push-in-None-clause-around c =
    IfOk-weaker c.add_part.result _ _ (λ done f h k. f (pushed_around _ _ c.args.last c.in_ok-push-in-None.ensures.items h k)) c.add_part.ensures.around

pub returns-in_ok-push-in-None-clause-fits : goal.returns-in_ok-push-in-None-clause-fits
returns-in_ok-push-in-None-clause-fits c =
    IfOk-weaker c.add_part.result _ _ (λ done f range cuts h l k. f range cuts (pushed_fits (Fits range cuts) _ _ c.args.last c.in_ok-push-in-None.ensures.items h l) k) c.add_part.ensures.fits
