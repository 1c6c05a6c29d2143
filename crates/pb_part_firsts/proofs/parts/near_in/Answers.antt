use Rattle.std.proofs.Common.{◌&&◌, ap, sym, ◌∙◌, subst}
use Rattle.std.specs.List.{All}
use Rattle.std.proofs.lemmas.List.Elements.{All-nil}
use Rattle.std.proofs.lemmas.Result.{IfOk-weaker}
use Rattle.pb_part_areas.specs.Areas.{has, have}
use Rattle.pb_part_areas.specs.Fits.{Fits}
use Rattle.pb_part_firsts.proofs.Flats.{none_in}
use Rattle.pb_part_firsts.proofs.parts.near_in.Goals as goal

pub returns-then-is_apart-clause-is : goal.returns-then-is_apart-clause-is
returns-then-is_apart-clause-is c = λ k n role x. none_in c.args.group.now c.args.to c.new.result.items c.new.ensures.items k n role x (c.is_apart.ensures c.if-is_apart.true n role x)

pub returns-then-is_apart-clause-fits : goal.returns-then-is_apart-clause-fits
returns-then-is_apart-clause-fits c = λ range cuts h. subst (All (Fits range cuts)) (sym c.new.ensures.items) (All-nil (Fits range cuts))

pub returns-clause-is : goal.returns-clause-is
returns-clause-is c = IfOk-weaker c.near.result _ _ (λ v f k n role x. f n role x ∙ ap (λ z. have z n role x && has c.args.to n role x) c.deref.ensures.value) c.near.ensures.is

pub returns-clause-fits : goal.returns-clause-fits
returns-clause-fits c = IfOk-weaker c.near.result _ _ (λ v f range cuts h. f range cuts (subst (All (Fits range cuts)) (sym c.deref.ensures.value) h)) c.near.ensures.fits
