use Rattle.std.proofs.Common.{rules, ◌≡◌, [], refl, sym, subst, drop}
use Rattle.std.specs.List.{All}
use Rattle.std.proofs.lemmas.List.{nil_from_length}
use Rattle.std.proofs.lemmas.List.Elements.{All-nil}
use Rattle.std.proofs.lemmas.Result.{IfOk-weaker}
use Rattle.pb_part_areas.specs.Fits.{Fits}
use Rattle.pb_part_firsts.specs.Parts.{flat}
use Rattle.pb_part_firsts.specs.Turns.{first_stop}
use Rattle.pb_part_firsts.proofs.Comes.{come_first, come_step, come_done, come_cut, small_at, entry_fits}
use Rattle.pb_part_firsts.proofs.turns.stop_each.Goals as goal

pub loop-stop-init : goal.loop-stop-init
loop-stop-init c = record {
  gives = λ range roles k left new g. come_first _ (flat c.args.reach.items) _ (first_stop roles c.args.stops.now) refl c.new.ensures.items g;
  around = λ k. k;
  kind = λ h. refl;
  small = λ h s. s;
  fits = λ range cuts r s e. record { parts = r; at = subst (All (Fits range cuts)) (sym c.new.ensures.items) (All-nil (Fits range cuts)); entries = e };
}

pub loop-stop-preserved : goal.loop-stop-preserved
loop-stop-preserved c =
    let i = c.loop-stop.stop-index in
    let stops = c.args.stops.now in
    record {
      gives = λ range roles k left new g. c.loop-stop.invariant.gives range roles k left new
          (come_step c.loop-stop.coming _ _ _ stops i _ c.loop-stop-test.true (c.in_ok-coming.ensures.gives roles (c.loop-stop.invariant.around k)) g);
      around = λ k. c.in_ok-coming.ensures.around (c.loop-stop.invariant.around k);
      kind = λ h. c.in_ok-coming.ensures.kind (small_at stops i _ c.loop-stop-test.true h) (c.loop-stop.invariant.kind h);
      small = λ h s. c.in_ok-coming.ensures.small (c.loop-stop.invariant.kind h) (c.loop-stop.invariant.small h s);
      fits = λ range cuts r s e. c.in_ok-coming.ensures.fits range cuts (entry_fits range cuts stops i _ c.loop-stop-test.true s) (c.loop-stop.invariant.fits range cuts r s e);
    }

pub returns-then-is_empty-clause-gives : goal.returns-then-is_empty-clause-gives
returns-then-is_empty-clause-gives c = λ range roles k.
    let none : c.loop-stop.coming.parts.items ≡ [] = nil_from_length c.loop-stop.coming.parts.items (search rules) in
    c.loop-stop.invariant.gives range roles k _ _ (come_cut c.loop-stop.coming _ (first_stop roles (drop c.loop-stop.stop-index c.args.stops.now)) none)

pub returns-then-is_empty-clause-fits : goal.returns-then-is_empty-clause-fits
returns-then-is_empty-clause-fits c = λ range cuts r s e.
    let now = c.loop-stop.invariant.fits range cuts r s e in
    record { areas = now.parts; entries = now.entries }

pub returns-clause-gives : goal.returns-clause-gives
returns-clause-gives c = IfOk-weaker c.settled.result _ _ (λ left f range roles k.
    c.loop-stop.invariant.gives range roles k _ _ (come_done c.loop-stop.coming _ c.args.stops.now c.loop-stop.stop-index c.loop-stop-test.false (f roles (c.loop-stop.invariant.around k))))
    c.settled.ensures.gives

pub returns-clause-around : goal.returns-clause-around
returns-clause-around c = IfOk-weaker c.settled.result _ _ (λ left f k. f (c.loop-stop.invariant.around k)) c.settled.ensures.around

pub returns-clause-small : goal.returns-clause-small
returns-clause-small c = IfOk-weaker c.settled.result _ _ (λ left f h s. f (c.loop-stop.invariant.kind h) (c.loop-stop.invariant.small h s)) c.settled.ensures.small

pub returns-clause-fits : goal.returns-clause-fits
returns-clause-fits c = IfOk-weaker c.settled.result _ _ (λ left f range cuts r s e. f range cuts (c.loop-stop.invariant.fits range cuts r s e)) c.settled.ensures.fits
