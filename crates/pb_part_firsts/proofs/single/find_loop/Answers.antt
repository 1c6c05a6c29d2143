use Rattle.std.proofs.Common.{refl}
use Rattle.pb_part_firsts.proofs.Singles.{again_step, again_here, again_nowhere, held_rest, held_first}
use Rattle.pb_part_firsts.proofs.single.find_loop.Goals as goal

pub loop-inner-init : goal.loop-inner-init
loop-inner-init c = record { is = λ n role x. refl; fits = λ range cuts h. h }

pub loop-inner-preserved : goal.loop-inner-preserved
loop-inner-preserved c = record {
  is = λ n role x.
      again_step c.args.id c.args.held.now c.loop-inner.inner-index c.inner-item.result n role x _ c.loop-inner-test.true c.inner-item.is (λ e. c.if-inner-id.false e) (c.loop-inner.invariant.is n role x);
  fits = λ range cuts h. held_rest range cuts c.args.held.now c.loop-inner.inner-index c.loop-inner-test.true (c.loop-inner.invariant.fits range cuts h);
}

pub returns-then-inner-id-clause-fits : goal.returns-then-inner-id-clause-fits
returns-then-inner-id-clause-fits c = λ range cuts h. held_first range cuts c.args.held.now c.loop-inner.inner-index c.inner-item.result c.loop-inner-test.true c.inner-item.is (c.loop-inner.invariant.fits range cuts h)

pub returns-then-inner-id-clause-is : goal.returns-then-inner-id-clause-is
returns-then-inner-id-clause-is c = λ n role x. again_here c.args.id c.args.held.now c.loop-inner.inner-index c.inner-item.result n role x _ c.loop-inner-test.true c.inner-item.is c.if-inner-id.true (c.loop-inner.invariant.is n role x)

pub returns-clause-is : goal.returns-clause-is
returns-clause-is c = λ n role x. again_nowhere c.args.id c.args.held.now c.loop-inner.inner-index n role x _ c.loop-inner-test.false (c.loop-inner.invariant.is n role x)
