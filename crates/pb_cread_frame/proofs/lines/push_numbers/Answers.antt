use Rattle.std.proofs.Common.{◌++◌, map, get_or, arith}
use Rattle.std.specs.Prelude.{pos}
use Rattle.pb_ctree.specs.Frame.{number_lines}
use Rattle.pb_ctree.specs.Trees.{sum_of}
use Rattle.pb_ctree.proofs.Rounds.{cut_at}
use Rattle.pb_cread_frame.specs.Reading.{text_at}
use Rattle.pb_cread_frame.specs.Views.{texts_of}
use Rattle.pb_cread_frame.proofs.Texts.{cut, numbers_round}
use Rattle.pb_cread_frame.proofs.lines.push_numbers.Goals as goal

pub loop-at-preserved : goal.loop-at-preserved
loop-at-preserved c =
    let k = c.loop-at.at in
    let roles = c.args.roles.now in
    let places = c.args.places.now in
    numbers_round k roles places c.index-roles-at.result (get_or places k (record { a = pos 0; b = pos 0 })) (texts_of c.push_number.new.lines.items) (texts_of c.loop-at.lines.items)
    (texts_of c.args.lines.now.items ++ map text_at (number_lines roles (map sum_of places)))
    (cut_at roles k c.index-roles-at.result (omega arith) c.index-roles-at.is) (cut places k _ (omega arith)) c.in_ok-push_number.ensures c.loop-at.invariant
