use Rattle.std.proofs.Common.{subst}
use Rattle.pb_core_language.specs.Plain.{plain_block}
use Rattle.pb_part_takers.specs.Loops.{IsInside}
use Rattle.pb_part_takers.specs.Pieces.{IsAdded, block_piece}
use Rattle.pb_part_takers.proofs.Finds.{body_is}
use Rattle.pb_part_takers.proofs.search.areas_of_body.Goals as goal

pub returns : goal.returns
returns c =
    body_is c.args.whole.now c.args.held.now c.in_ok-inner.inner.items c.args.id (plain_block c.args.body.now).block c.takers_in.new.out.items
    (subst (λ z. IsInside c.args.held.now c.args.id z c.in_ok-inner.inner.items) c.new.ensures.items c.in_ok-inner.ensures)
    (subst (λ z. IsAdded c.args.whole.now c.in_ok-inner.inner.items (block_piece c.in_ok-inner.inner.items (plain_block c.args.body.now).block) z c.takers_in.new.out.items) c.new-areas.ensures.items
    (rw c.deref.ensures.value at c.in_ok-takers_in.ensures))
