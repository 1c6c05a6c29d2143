-- That the rules on ends make all ends of a protocol ranks.
use Rattle.std.specs.Prelude.{◌≡◌, ℤ, true, []}
use Rattle.pb_core_language.specs.Plain.{Protocol}
use Rattle.pb_core_language.specs.Rules.{breaches}
use Rattle.pb_core_language.specs.Sound.{is_sound}
use Rattle.pb_core_language.specs.Verdict.{IsIn}
use Rattle.pb_shape.specs.Straight.{AreFine}

-- where no rule is broken at N = n, each end is a rank, and no message goes from a rank to itself
abbrev pub EndsAreFine : Type 0
EndsAreFine = (p : Protocol) (n : ℤ) → is_sound p ≡ true → IsIn p.range n → breaches p n ≡ [] → AreFine p n p.body.block
