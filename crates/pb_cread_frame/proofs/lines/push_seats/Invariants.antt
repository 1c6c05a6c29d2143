use Rattle.std.proofs.Common.{◌≡◌, ◌++◌, drop, map}
use Rattle.pb_ctree.specs.Frame.{seat_lines}
use Rattle.pb_ctree.specs.Trees.{sum_of}
use Rattle.pb_cread_frame.specs.Reading.{text_at}
use Rattle.pb_cread_frame.specs.Views.{texts_of}
use Rattle.pb_cread_frame.proofs.lines.push_seats.Given as goal

abbrev pub invariant-loop-role : goal.invariant-loop-role
invariant-loop-role l = texts_of l.lines.items ++ map text_at (seat_lines l.role (map sum_of (drop l.role l.bases)) (map sum_of (drop l.role l.places))) ≡ texts_of l.initial.lines.items ++ map text_at (seat_lines 0 (map sum_of l.bases) (map sum_of l.places))
