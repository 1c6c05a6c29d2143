use Rattle.std.proofs.Common.{◌≡◌, ◌+◌, ◌∷◌, drop}
use Rattle.pb_local.specs.Ranks.{ranks_of}
use Rattle.pb_ctree.specs.Sums.{HasSmallEnds}
use Rattle.pb_ctree.proofs.Rounds.{cut_at, small_at, room_round, size_round}
use Rattle.pb_cread_rows.proofs.sums.ranks.Goals as goal

pub loop-role-preserved : goal.loop-role-preserved
loop-role-preserved c =
    let it = c.loop-role in
    let roles = c.args.roles.now in
    let rest = drop (it.role-index + 1) roles in
    let r = c.role-item.result in
    let cut : drop it.role-index roles ≡ r ∷ rest = cut_at roles it.role-index r c.loop-role-test.true c.role-item.is in
    let small : HasSmallEnds r = small_at roles it.role-index r c.loop-role-test.true c.role-item.is c.requires.small in
    record {
      room = room_round (drop it.role-index roles) rest it.first c.with_role-first.result r cut small c.with_role-first.ensures it.invariant.room;
      size = size_round (drop it.role-index roles) rest it.first c.with_role-first.result r (ranks_of roles) cut c.with_role-first.ensures it.invariant.size;
    }
