use Rattle.std.proofs.lemmas.Result.{on_ok_weaker}
use Rattle.pb_part_areas.proofs.Chains.{added_twice}
use Rattle.pb_part_areas.proofs.Wide.{union_somewhere}
use Rattle.pb_part_areas.proofs.tidy.add_behind.Goals as goal

pub returns-in-Some-clause-fits : goal.returns-in-Some-clause-fits
returns-in-Some-clause-fits c = on_ok_weaker c.keep.result (λ d range cuts h fl fa. d range cuts h (c.in-Some.ensures.fits range cuts fl fa)) c.keep.ensures.fits

pub returns-in-Some-clause-some : goal.returns-in-Some-clause-some
returns-in-Some-clause-some c = on_ok_weaker c.keep.result (λ d h sl sa. d h (union_somewhere c.args.last c.args.a c.in-Some.both c.in-Some.ensures sa)) c.keep.ensures.some

pub returns-in_ok-keep-in-None-clause-is : goal.returns-in_ok-keep-in-None-clause-is
returns-in_ok-keep-in-None-clause-is c = on_ok_weaker c.keep-in-None-2.result
    (λ d n role x. added_twice _ _ _ _ _ (c.in_ok-keep-in-None.ensures.is n role x) (d n role x))
    c.keep-in-None-2.ensures.is

pub returns-in_ok-keep-in-None-clause-fits : goal.returns-in_ok-keep-in-None-clause-fits
returns-in_ok-keep-in-None-clause-fits c = on_ok_weaker c.keep-in-None-2.result
    (λ d range cuts h fl fa. d range cuts (c.in_ok-keep-in-None.ensures.fits range cuts h fl) fa)
    c.keep-in-None-2.ensures.fits

pub returns-in_ok-keep-in-None-clause-some : goal.returns-in_ok-keep-in-None-clause-some
returns-in_ok-keep-in-None-clause-some c = on_ok_weaker c.keep-in-None-2.result (λ d h sl sa. d (c.in_ok-keep-in-None.ensures.some h sl) sa) c.keep-in-None-2.ensures.some
