use Rattle.std.proofs.Common.{◌≡◌, ◌++◌, take}
use Rattle.pb_cli_cost.specs.Lines.{list_lines}
use Rattle.pb_cli_cost.proofs.lines.push_list.Given as goal

abbrev pub invariant-loop-piece : goal.invariant-loop-piece
invariant-loop-piece l = l.out.items ≡ l.initial.out.items ++ list_lines l.name (take l.piece-index l.pieces)
