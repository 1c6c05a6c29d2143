-- One statement or block, for the programs that go through a core.
use Rattle.std.specs.Prelude.{ℕ, ℤ, pos, Bool, ◌&&◌, ◌||◌, nat_eq, if◌then◌else◌, List, []}
use Rattle.pb_core_language.specs.declared.protocol.CoreRole.{CoreRole}
use Rattle.pb_core_language.specs.Plain.{MarkedBlock, MarkedStmt}
use Rattle.pb_core_language.specs.Flat.{stop, takes_part}
use Rattle.pb_core_language.specs.FlatOf.{flat_stmt, flat_block}
use Rattle.pb_core_language.specs.Outcomes.{Outcome, firsts}
use Rattle.pb_core_language.specs.Parts.{takes_part_below}

-- the rank takes part in it
abbrev pub takes_part_alone : List CoreRole → ℤ → ℕ → List ℕ → List Bool → MarkedStmt → Bool
takes_part_alone roles n r opens held s = takes_part held r (flat_stmt roles n opens (pos 0) s.mark s.stmt stop)

-- it is statement k and the rank takes part in it, or the rank takes part in statement k inside it
abbrev pub takes_part_at : List CoreRole → ℤ → ℕ → ℕ → List ℕ → List Bool → MarkedStmt → Bool
takes_part_at roles n r k opens held s = (nat_eq k s.mark.number && takes_part_alone roles n r opens held s) || takes_part_below roles n r k opens held s.stmt

-- what the rank finds first in a block, where it is block k
abbrev pub firsts_if : List CoreRole → ℤ → ℕ → ℕ → List ℕ → List Bool → MarkedBlock → List Outcome
firsts_if roles n r k opens held b = if nat_eq k b.mark.number then firsts held r (flat_block roles n opens (pos 0) b.block stop) else []
