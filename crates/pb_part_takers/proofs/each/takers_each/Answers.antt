use Rattle.std.proofs.Common.{◌≡◌, ap, sym, subst, ◌∙◌, ◌+◌, map, drop, drop_of_length-le}
use Rattle.pb_core_language.specs.Plain.{plain_stmt, plain_block, block_of}
use Rattle.pb_part_takers.specs.Pieces.{IsAdded, items_piece}
use Rattle.pb_part_takers.proofs.HeldLoops.{from_place}
use Rattle.pb_part_takers.proofs.Items.{items_more, items_done}
use Rattle.pb_core_language.proofs.Plains.{plain_list}
use Rattle.pb_part_takers.proofs.each.takers_each.Goals as goal

pub loop-stmt-preserved : goal.loop-stmt-preserved
loop-stmt-preserved c = λ held ids new rest.
    let whole = c.args.whole.now in
    let items = c.deref-stmt-items.result.now in
    let over = c.args.over in
    c.loop-stmt.invariant held ids new
    (subst (λ z. IsAdded whole held (items_piece over ids (block_of (map plain_stmt z))) c.loop-stmt.out.items new) (sym (from_place items c.loop-stmt.stmt-index c.stmt-item.result c.loop-stmt-test.true c.stmt-item.is))
    (items_more whole held over ids (plain_stmt c.stmt-item.result) (block_of (map plain_stmt (drop (c.loop-stmt.stmt-index + 1) items))) c.loop-stmt.out.items c.takers_of_item.new.out.items new
    (c.in_ok-takers_of_item.ensures held ids) rest))

pub returns : goal.returns
returns c = λ held ids.
    let whole = c.args.whole.now in
    let items = c.deref-stmt-items.result.now in
    let over = c.args.over in
    let same : block_of (map plain_stmt items) ≡ (plain_block c.args.items.now).block = ap (λ z. block_of (map plain_stmt z)) c.deref-stmt-items.ensures.value ∙ sym (plain_list c.args.items.now) in
    subst (λ z. IsAdded whole held (items_piece over ids z) c.args.out.now.items c.loop-stmt.out.items) same
    (c.loop-stmt.invariant held ids c.loop-stmt.out.items
    (subst (λ z. IsAdded whole held (items_piece over ids (block_of (map plain_stmt z))) c.loop-stmt.out.items c.loop-stmt.out.items) (sym (drop_of_length-le items c.loop-stmt-test.false))
    (items_done whole held over ids c.loop-stmt.out.items)))
