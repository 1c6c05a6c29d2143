use Rattle.pb_project_piece.proofs.Found.{area_seen}
use Rattle.pb_project_piece.proofs.seen.is_area_seen.Goals as goal

pub returns : goal.returns
returns c =
    area_seen c.args.setting.now.range c.args.setting.now.whole.now c.in_ok-list.list.items c.in_ok-ranks.ranks.items c.args.area c.is_soon.result c.first_of-first.result c.in_ok-list.ensures.is
    (λ n role x. rw c.deref.ensures.value at (c.in_ok-ranks.ensures.is n role x)) (rw c.deref-2.ensures.value at c.first_of-first.ensures) c.is_soon.ensures
