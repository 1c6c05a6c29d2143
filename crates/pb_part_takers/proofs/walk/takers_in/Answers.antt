use Rattle.std.proofs.Common.{ap, sym, subst, ◌∙◌}
use Rattle.std.specs.List.{All}
use Rattle.pb_part_areas.specs.Areas.{have}
use Rattle.pb_part_areas.specs.Fits.{Fits}
use Rattle.pb_core_language.specs.Plain.{plain_block}
use Rattle.pb_part_takers.specs.Pieces.{block_piece}
use Rattle.pb_part_takers.proofs.Steps.{copy_added}
use Rattle.pb_part_takers.proofs.walk.takers_in.Goals as goal

pub returns : goal.returns
returns c =
    copy_added c.args.whole.now c.args.held.now (block_piece c.args.held.now (plain_block c.args.block.now).block) c.args.out.now.items c.in_ok-list.list.items c.gather_in.new.out.items c.in_ok-areas.areas.items
    (λ n role x. c.in_ok-list.ensures.is n role x ∙ ap (λ z. have z n role x) c.deref.ensures.value)
    (λ range cuts f. c.in_ok-list.ensures.fits range cuts (subst (All (Fits range cuts)) (sym c.deref.ensures.value) f))
    c.in_ok-gather_in.ensures c.in_ok-areas.ensures.is c.in_ok-areas.ensures.fits
