use Rattle.std.proofs.Common.{◌≡◌, ◌-◌}
use Rattle.pb_cread_lines.specs.Guess.{others_at}
use Rattle.pb_cread_lines.proofs.cursor.Cursor.others.Given as goal

abbrev pub invariant-loop : goal.invariant-loop
invariant-loop l = others_at (l.most - l.counter) l.list l.self.rest.now ≡ others_at l.most l.initial.list l.initial.self.rest.now
