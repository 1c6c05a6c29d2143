use Rattle.std.proofs.Common.{◌≡◌, true, refl, sym, subst}
use Rattle.std.proofs.lemmas.Result.{IfOk-weaker}
use Rattle.pb_part_firsts.specs.Firsts.{is_small_kind}
use Rattle.pb_part_firsts.specs.Parts.{flat}
use Rattle.pb_part_firsts.proofs.Comes.{same_turned, past_turned, again_turned, again_fits}
use Rattle.pb_part_firsts.proofs.turns.with_stop.Goals as goal

pub returns-then-is_same-clause-gives : goal.returns-then-is_same-clause-gives
returns-then-is_same-clause-gives c = λ roles k. same_turned roles c.args.coming _ _ c.args.stop refl refl (c.is_same.ensures c.if-is_same.true) c.in_ok-attach.ensures.is

pub returns-then-is_same-clause-fits : goal.returns-then-is_same-clause-fits
returns-then-is_same-clause-fits c = λ range cuts f h. record { parts = h.parts; at = c.in_ok-attach.ensures.fits range cuts h.at f; entries = h.entries }

pub returns-then-is_past-clause-gives : goal.returns-then-is_past-clause-gives
returns-then-is_past-clause-gives c = λ roles k. past_turned roles c.args.coming _ c.args.stop ((rw c.deref.ensures.value at (c.is_past.ensures c.if-is_past.true)) k)

pub returns-clause-gives : goal.returns-clause-gives
returns-clause-gives c = again_turned c.begun_again.result c.args.coming (flat c.in_ok-left.left.items) _ _ c.args.stop c.in_ok-left.ensures.gives c.begun_again.ensures.is c.begun_again.ensures.at c.begun_again.ensures.kind

pub returns-clause-around : goal.returns-clause-around
returns-clause-around c = IfOk-weaker c.begun_again.result _ _ (λ next f k. f (c.in_ok-left.ensures.around k)) c.begun_again.ensures.around

pub returns-clause-kind : goal.returns-clause-kind
returns-clause-kind c = IfOk-weaker c.begun_again.result _ _ (λ next f h s. subst (λ z. is_small_kind z ≡ true) (sym f) h) c.begun_again.ensures.kind

pub returns-clause-small : goal.returns-clause-small
returns-clause-small c = IfOk-weaker c.begun_again.result _ _ (λ next f. c.in_ok-left.ensures.small) c.begun_again.ensures.kind

pub returns-clause-fits : goal.returns-clause-fits
returns-clause-fits c = again_fits c.begun_again.result c.args.coming (flat c.in_ok-left.left.items) _ _ c.args.stop c.in_ok-left.ensures.fits c.begun_again.ensures.fits c.begun_again.ensures.at_fits
