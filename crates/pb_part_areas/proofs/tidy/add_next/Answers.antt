use Rattle.std.proofs.lemmas.Result.{on_ok_weaker}
use Rattle.pb_part_areas.specs.Areas.{has, IsSomewhere}
use Rattle.pb_part_areas.specs.Fits.{Fits}
use Rattle.pb_part_areas.proofs.Chains.{put_back, All-left, of_last}
use Rattle.pb_part_areas.proofs.tidy.add_next.Goals as goal

pub returns-in-None-clause-fits : goal.returns-in-None-clause-fits
returns-in-None-clause-fits c = on_ok_weaker c.keep.result
    (λ d range cuts h f. d range cuts (All-left (Fits range cuts) c.args.out.now.items c.pop.new.self.items c.pop.result c.pop.ensures.items h) f)
    c.keep.ensures.fits

pub returns-in-Some-clause-is : goal.returns-in-Some-clause-is
returns-in-Some-clause-is c = on_ok_weaker c.add_behind.result
    (λ d n role x. put_back c.args.out.now.items c.pop.new.self.items c.pop.result c.in-Some.last _ (has c.args.a n role x) n role x c.pop.ensures.items c.in-Some.is (d n role x))
    c.add_behind.ensures.is

pub returns-in-Some-clause-fits : goal.returns-in-Some-clause-fits
returns-in-Some-clause-fits c = on_ok_weaker c.add_behind.result
    (λ d range cuts h f. d range cuts
    (All-left (Fits range cuts) c.args.out.now.items c.pop.new.self.items c.pop.result c.pop.ensures.items h)
    (of_last (Fits range cuts) c.args.out.now.items c.pop.new.self.items c.pop.result c.in-Some.last c.pop.ensures.items c.in-Some.is h)
    f)
    c.add_behind.ensures.fits

pub returns-in-Some-clause-some : goal.returns-in-Some-clause-some
returns-in-Some-clause-some c = on_ok_weaker c.add_behind.result
    (λ d h s. d
    (All-left IsSomewhere c.args.out.now.items c.pop.new.self.items c.pop.result c.pop.ensures.items h)
    (of_last IsSomewhere c.args.out.now.items c.pop.new.self.items c.pop.result c.in-Some.last c.pop.ensures.items c.in-Some.is h)
    s)
    c.add_behind.ensures.some
