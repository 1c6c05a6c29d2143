use Rattle.std.proofs.Common.{sym, subst}
use Rattle.std.specs.List.{All}
use Rattle.std.proofs.lemmas.List.Elements.{All-push}
use Rattle.pb_part_areas.specs.Fits.{Fits}
use Rattle.pb_part_areas.proofs.Lists.{have_pushed}
use Rattle.pb_part_areas.specs.Areas.{IsSomewhere, AreSomewhere}
use Rattle.pb_part_areas.proofs.pair.keep.Goals as goal

pub returns-clause-is : goal.returns-clause-is
returns-clause-is c = λ n role x. have_pushed c.args.out.now.items c.push.new.self.items c.args.a c.in_ok-push.ensures.items n role x

pub returns-clause-fits : goal.returns-clause-fits
returns-clause-fits c = λ range cuts h f. subst (All (Fits range cuts)) (sym c.in_ok-push.ensures.items) (All-push (Fits range cuts) c.args.out.now.items c.args.a h f)

pub returns-clause-some : goal.returns-clause-some
returns-clause-some c = λ h s. subst AreSomewhere (sym c.in_ok-push.ensures.items) (All-push IsSomewhere c.args.out.now.items c.args.a h s)
