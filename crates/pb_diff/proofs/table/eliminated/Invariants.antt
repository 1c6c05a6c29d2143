use Rattle.std.proofs.Common.{◌≡◌, ℕ, ◌+◌, ◌*◌, ◌/◌, ◌%◌, ◌<◌, get_or, length, None}
use Rattle.pb_diff.specs.Tables.{through}
use Rattle.pb_diff.proofs.table.eliminated.Given as goal

abbrev pub invariant-loop-i : goal.invariant-loop-i
invariant-loop-i l = (length l.out ≡ 36) × ((j : ℕ) → j < l.i → get_or l.out j None ≡ through (get_or l.table j None) (get_or l.table (6 * (j / 6) + l.gone) None) (get_or l.table (6 * l.gone + j % 6) None))
