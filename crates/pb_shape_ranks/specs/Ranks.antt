-- What all ranks of a program of the shape do together.
use Rattle.std.specs.Prelude.{◌≡◌, ◌≤◌, ℤ, true, []}
use Rattle.pb_text.specs.declared.limits.TheConstants.{MOST_NUMBER}
use Rattle.pb_core_language.specs.Ranks.{total}
use Rattle.pb_core_language.specs.Plain.{Protocol}
use Rattle.pb_core_language.specs.Rules.{breaches}
use Rattle.pb_core_language.specs.Sound.{is_sound}
use Rattle.pb_core_language.specs.Verdict.{IsIn}
use Rattle.pb_core_endpoint.specs.Core.{IsProper}
use Rattle.pb_local.specs.Tree.{Program}
use Rattle.pb_local.specs.WellMade.{IsWellMade}
use Rattle.pb_shape.specs.Shape.{HasShape}
use Rattle.pb_shape.specs.Theorem.{DoesRun}

-- Where a protocol keeps the rules at N = n, the ranks of each program of its projection's shape do its run
abbrev pub TextRanks : Type 0
TextRanks =
    (p : Protocol) (l : Program) (n : ℤ) → is_sound p ≡ true → IsProper p → HasShape p l → IsWellMade l → IsIn p.range n → total p.roles n ≤ MOST_NUMBER →
    breaches p n ≡ [] → DoesRun p l n
