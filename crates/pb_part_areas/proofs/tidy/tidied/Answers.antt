use Rattle.std.proofs.Common.{sym, subst}
use Rattle.std.specs.List.{All}
use Rattle.std.proofs.lemmas.List.Elements.{All-nil}
use Rattle.std.proofs.lemmas.Result.{IfOk-weaker}
use Rattle.pb_part_areas.specs.Fits.{Fits}
use Rattle.pb_part_areas.proofs.tidy.tidied.Goals as goal

pub returns-then-len-le-SHORT-clause-fits : goal.returns-then-len-le-SHORT-clause-fits
returns-then-len-le-SHORT-clause-fits c = λ range cuts h. c.in_ok-absorb.ensures.fits range cuts
    (subst (All (Fits range cuts)) (sym c.new-out.ensures.items) (All-nil (Fits range cuts)))
    (subst (All (Fits range cuts)) (sym c.deref.ensures.value) h)

pub returns-in_ok-absorb-2-clause-fits : goal.returns-in_ok-absorb-2-clause-fits
returns-in_ok-absorb-2-clause-fits c = λ range cuts h. c.in_ok-absorb-2.ensures.fits range cuts
    (subst (All (Fits range cuts)) (sym c.new-out.ensures.items) (All-nil (Fits range cuts)))
    (subst (All (Fits range cuts)) (sym c.deref-then-len-le-SHORT-2.ensures.value)
    ((rw c.deref-2.ensures.value at (c.in_ok-chain.ensures.fits range cuts)) (c.in_ok-areas.ensures.fits range cuts h)))

pub returns-else-len-le-SHORT-2-clause-fits : goal.returns-else-len-le-SHORT-2-clause-fits
returns-else-len-le-SHORT-2-clause-fits c = IfOk-weaker c.spread.result _ _
    (λ v d range cuts h. d range cuts ((rw c.deref-2.ensures.value at (c.in_ok-chain.ensures.fits range cuts)) (c.in_ok-areas.ensures.fits range cuts h)))
    (rw c.deref-else-len-le-SHORT-2.ensures.value at c.spread.ensures.fits)
