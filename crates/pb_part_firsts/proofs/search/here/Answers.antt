use Rattle.std.proofs.Common.{ap, sym, subst, ◌∙◌, ◌||◌}
use Rattle.std.specs.List.{All}
use Rattle.pb_part_areas.specs.Areas.{have}
use Rattle.pb_part_areas.specs.Fits.{Fits}
use Rattle.pb_part_firsts.proofs.Searches.{here_found, here_not}
use Rattle.pb_part_firsts.proofs.search.here.Goals as goal

pub returns-in_ok-absorb-clause-gives : goal.returns-in_ok-absorb-clause-gives
returns-in_ok-absorb-clause-gives c = λ range roles rows w h.
    here_found c.args.whole.now c.args.held.now c.args.number c.args.block.now c.if-number-block.true w c.in_ok-told.ensures.is
    (λ n role x. c.in_ok-absorb.ensures.is n role x ∙ ap (λ z. have c.args.found.now.passed.items n role x || have z n role x) c.deref.ensures.value)
    (c.in_ok-left.ensures.gives range roles rows w h)

pub returns-in_ok-absorb-clause-fits : goal.returns-in_ok-absorb-clause-fits
returns-in_ok-absorb-clause-fits c = λ range cuts rows h a w d f.
    let now = c.in_ok-left.ensures.fits range cuts rows h a w d (c.in_ok-told.ensures.fits range cuts w) f.entries in
    record { areas = c.in_ok-absorb.ensures.fits range cuts f.areas (subst (All (Fits range cuts)) (sym c.deref.ensures.value) now.areas); entries = now.entries }

pub returns-else-number-block-clause-gives : goal.returns-else-number-block-clause-gives
returns-else-number-block-clause-gives c = λ range roles rows w h. here_not c.args.held.now c.args.number c.args.block.now c.if-number-block.false
