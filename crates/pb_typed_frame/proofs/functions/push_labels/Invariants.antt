use Rattle.std.proofs.Common.{◌≡◌, ◌++◌, ◌*◌, ◌≤◌, drop}
use Rattle.pb_local.specs.Tree.{program_of}
use Rattle.pb_typed.specs.Pieces.{pieces_text}
use Rattle.pb_typed_frame.specs.Functions.{labels_pieces, behind_labels}
use Rattle.pb_typed_frame.proofs.functions.push_labels.Given as goal

abbrev pub invariant-loop-number : goal.invariant-loop-number
invariant-loop-number l = record {
  most : l.at ≤ 3 * l.number;
  text : l.out.items ++ pieces_text (program_of l.local) (labels_pieces (drop l.number l.labels) (drop l.number l.types) (drop l.at l.bodies)) ≡ l.initial.out.items ++ pieces_text (program_of l.local) (labels_pieces l.labels l.types l.bodies);
  behind : behind_labels (drop l.number l.labels) (drop l.number l.types) (drop l.at l.bodies) ≡ behind_labels l.labels l.types l.bodies;
}
