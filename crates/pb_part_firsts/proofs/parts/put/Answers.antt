use Rattle.std.proofs.Common.{subst, ◌∙◌, All}
use Rattle.std.proofs.lemmas.List.{append-nil}
use Rattle.std.proofs.lemmas.Result.{IfOk-weaker}
use Rattle.pb_part_areas.specs.Fits.{Fits}
use Rattle.pb_part_firsts.specs.Parts.{flat}
use Rattle.pb_part_firsts.proofs.Flats.{last_added, last_around, rest_around, last_fits, rest_fits}
use Rattle.pb_part_firsts.proofs.parts.put.Goals as goal

pub returns-in-None-clause-fits : goal.returns-in-None-clause-fits
returns-in-None-clause-fits c =
    IfOk-weaker c.add_part.result _ _ (λ done f range cuts h k. f range cuts (subst (λ z. All (Fits range cuts) (flat z)) (c.in-None.ensures.items ∙ append-nil _) h) k) c.add_part.ensures.fits

pub returns-in-Some-clause-is : goal.returns-in-Some-clause-is
returns-in-Some-clause-is c =
    IfOk-weaker c.put_behind.result _ _ (λ done f n role x. last_added _ _ c.put_behind.new.parts.items c.in-Some.last c.args.a c.in-Some.ensures.items n role x (f n role x)) c.put_behind.ensures.is

pub returns-in-Some-clause-around : goal.returns-in-Some-clause-around
returns-in-Some-clause-around c =
    IfOk-weaker c.put_behind.result _ _ (λ done f h. f (rest_around _ _ c.in-Some.last c.in-Some.ensures.items h) (last_around _ _ c.in-Some.last c.in-Some.ensures.items h)) c.put_behind.ensures.around

pub returns-in-Some-clause-fits : goal.returns-in-Some-clause-fits
returns-in-Some-clause-fits c =
    IfOk-weaker c.put_behind.result _ _ (λ done f range cuts h k.
    f range cuts (rest_fits (Fits range cuts) _ _ c.in-Some.last c.in-Some.ensures.items h) (last_fits (Fits range cuts) _ _ c.in-Some.last c.in-Some.ensures.items h) k) c.put_behind.ensures.fits
