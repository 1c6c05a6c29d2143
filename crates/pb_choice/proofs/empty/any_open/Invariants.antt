use Rattle.std.proofs.Common.{◌≡◌, drop}
use Rattle.pb_choice.specs.Empties.{any_open}
use Rattle.pb_choice.proofs.empty.any_open.Given as goal

abbrev pub invariant-loop-area : goal.invariant-loop-area
invariant-loop-area l = any_open l.list l.at.n ≡ any_open (drop l.area-index l.list) l.at.n
