use Rattle.std.proofs.Common.{SFits, w64, to_z-of_z, map}
use Rattle.pb_plain.specs.View.{seat_of}
use Rattle.pb_plain.proofs.Adding.{seats_more, seats_full}
use Rattle.pb_plain.proofs.ranks.seats.Goals as goal

pub loop-number-preserved : goal.loop-number-preserved
loop-number-preserved c =
    seats_more c.args.roles.now c.loop-number.number c.index-roles-number.result _ (map seat_of c.loop-number.list.items) (map seat_of c.add_role.new.list.items) _
    c.loop-number-test.true c.index-roles-number.is c.in_ok-add_role.ensures c.loop-number.invariant

pub returns : goal.returns
returns c =
    let fits : SFits w64 c.args.n = c.ranges.n in
    let so_far = simp to_z-of_z at c.loop-number.invariant in
    seats_full c.args.roles.now c.loop-number.number c.args.n (map seat_of c.loop-number.list.items) _ c.loop-number-test.false so_far
