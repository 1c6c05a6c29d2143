use Rattle.std.proofs.Common.{◌≡◌, drop}
use Rattle.pb_strips_faults.specs.Faults.{plain}
use Rattle.pb_strips_faults.specs.Found.{first}
use Rattle.pb_strips_faults.proofs.places.first_plain.Given as goal

abbrev pub invariant-loop-end : goal.invariant-loop-end
invariant-loop-end l = first (plain l.roles (drop l.end-index l.ends)) ≡ first (plain l.roles l.ends)
