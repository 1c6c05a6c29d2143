use Rattle.std.proofs.Common.{◌≡◌, ◌++◌, drop, map}
use Rattle.pb_ctree.specs.Frame.{number_lines}
use Rattle.pb_ctree.specs.Trees.{sum_of}
use Rattle.pb_cread_frame.specs.Reading.{text_at}
use Rattle.pb_cread_frame.specs.Views.{texts_of}
use Rattle.pb_cread_frame.proofs.lines.push_numbers.Given as goal

abbrev pub invariant-loop-at : goal.invariant-loop-at
invariant-loop-at l = texts_of l.lines.items ++ map text_at (number_lines (drop l.at l.roles) (map sum_of (drop l.at l.places))) ≡ texts_of l.initial.lines.items ++ map text_at (number_lines l.roles (map sum_of l.places))
