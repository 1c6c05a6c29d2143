use Rattle.std.proofs.Common.{◌++◌, map, get_or, arith}
use Rattle.std.specs.Prelude.{pos}
use Rattle.pb_ctree.specs.Frame.{seat_lines}
use Rattle.pb_ctree.specs.Trees.{sum_of}
use Rattle.pb_cread_frame.specs.Reading.{text_at}
use Rattle.pb_cread_frame.specs.Views.{texts_of}
use Rattle.pb_cread_frame.proofs.Texts.{cut, seats_round}
use Rattle.pb_cread_frame.proofs.lines.push_seats.Goals as goal

pub loop-role-preserved : goal.loop-role-preserved
loop-role-preserved c =
    let k = c.loop-role.role in
    let bases = c.args.bases.now in
    let places = c.args.places.now in
    seats_round k bases places (get_or bases k (record { a = pos 0; b = pos 0 })) (get_or places k (record { a = pos 0; b = pos 0 })) (texts_of c.push_seat.new.lines.items) (texts_of c.loop-role.lines.items)
    (texts_of c.args.lines.now.items ++ map text_at (seat_lines 0 (map sum_of bases) (map sum_of places)))
    (cut bases k _ (omega arith)) (cut places k _ (omega arith)) c.in_ok-push_seat.ensures c.loop-role.invariant
