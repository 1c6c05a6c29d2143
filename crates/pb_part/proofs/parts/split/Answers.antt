use Rattle.std.proofs.Common.{sym, subst, arith}
use Rattle.pb_part_firsts.specs.Fitting.{EntriesFit}
use Rattle.pb_part.proofs.Groups.{split_start, split_step, split_done, entry_fits, none_long}
use Rattle.pb_part.proofs.parts.split.Goals as goal

pub loop-entry-init : goal.loop-entry-init
loop-entry-init c = record {
  is = λ roles n role x o. split_start roles c.args.first _ _ n role x o _ (c.in_ok-one.ensures.is n role x) c.new.ensures.items;
  fits = λ range cuts f. record { areas = c.in_ok-one.ensures.fits range cuts f.0; entries = subst (EntriesFit range cuts) (sym c.new.ensures.items) tt };
  shorter = none_long _ c.new.ensures.items;
}

pub loop-entry-preserved : goal.loop-entry-preserved
loop-entry-preserved c = record {
  is = λ roles n role x o. split_step roles c.args.rest.now c.loop-entry.entry-index _ n role x o _ _ _ c.loop-entry-test.true (c.in_ok-add_to.ensures.is roles n role x o) (c.loop-entry.invariant.is roles n role x o);
  fits = λ range cuts f. c.in_ok-add_to.ensures.fits range cuts (c.loop-entry.invariant.fits range cuts f) (entry_fits range cuts c.args.rest.now c.loop-entry.entry-index _ c.loop-entry-test.true f.1);
  shorter = omega (arith, c.in_ok-add_to.ensures.shorter, c.loop-entry.invariant.shorter);
}

pub returns-clause-is : goal.returns-clause-is
returns-clause-is c = λ roles n role x o. split_done roles c.args.rest.now c.loop-entry.entry-index n role x o _ _ c.loop-entry-test.false (c.loop-entry.invariant.is roles n role x o)
