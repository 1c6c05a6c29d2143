use Rattle.std.proofs.Common.{◌≡◌, ◌++◌, map, drop}
use Rattle.pb_project_piece.specs.Ones.{end_guard}
use Rattle.pb_project_piece.proofs.fixed.guards_at.Given as goal

abbrev pub invariant-loop-end : goal.invariant-loop-end
invariant-loop-end l = l.guards ++ map end_guard (drop l.end-index l.ends) ≡ map end_guard l.ends
