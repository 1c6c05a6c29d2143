use Rattle.std.proofs.Common.{◌≡◌, ◌++◌, drop}
use Rattle.pb_local.specs.Tree.{program_of}
use Rattle.pb_typed.specs.Frame.{constant_lines}
use Rattle.pb_typed.specs.Pieces.{pieces_text}
use Rattle.pb_typed_frame.proofs.head.push_constants.Given as goal

abbrev pub invariant-loop-constant : goal.invariant-loop-constant
invariant-loop-constant l = l.out.items ++ pieces_text (program_of l.local) (constant_lines (drop l.constant-index l.constants)) ≡ l.initial.out.items ++ pieces_text (program_of l.local) (constant_lines l.constants)
