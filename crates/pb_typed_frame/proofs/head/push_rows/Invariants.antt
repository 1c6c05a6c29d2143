use Rattle.std.proofs.Common.{◌≡◌, ◌++◌, drop}
use Rattle.pb_local.specs.Tree.{program_of}
use Rattle.pb_typed.specs.Frame.{type_rows}
use Rattle.pb_typed.specs.Pieces.{pieces_text}
use Rattle.pb_typed_frame.proofs.head.push_rows.Given as goal

abbrev pub invariant-loop-at : goal.invariant-loop-at
invariant-loop-at l = l.out.items ++ pieces_text (program_of l.local) (type_rows (drop l.at l.labels) (drop l.at l.types)) ≡ l.initial.out.items ++ pieces_text (program_of l.local) (type_rows l.labels l.types)
