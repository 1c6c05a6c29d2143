-- What a rank of a program of the shape follows.
use Rattle.std.specs.Prelude.{◌≡◌, ℕ, ◌<◌, ◌≤◌, ℤ, Bool, true, List, []}
use Rattle.pb_text.specs.declared.limits.TheConstants.{MOST_NUMBER}
use Rattle.pb_world.specs.Actions.{Action}
use Rattle.pb_world.specs.Machine.{Follows}
use Rattle.pb_world.specs.Once.{once_start, once}
use Rattle.pb_world.specs.Counted.{FollowsWithin}
use Rattle.pb_core_language.specs.Ranks.{total}
use Rattle.pb_core_language.specs.Plain.{Protocol}
use Rattle.pb_core_language.specs.Rules.{breaches, flat_at}
use Rattle.pb_core_language.specs.Sound.{is_sound}
use Rattle.pb_core_language.specs.Verdict.{IsIn}
use Rattle.pb_core_endpoint.specs.Core.{IsProper}
use Rattle.pb_core_endpoint.specs.Endpoint as E
use Rattle.pb_core_endpoint.specs.Endpoint.{endpoint}
use Rattle.pb_core_endpoint.specs.Once.{is_at_again}
use Rattle.pb_local.specs.Tree.{Program}
use Rattle.pb_local.specs.WellMade.{IsWellMade}
use Rattle.pb_local.specs.Machine.{machine, start}
use Rattle.pb_local.specs.Family.{most_silent}
use Rattle.pb_shape.specs.Shape.{HasShape}

-- Where a protocol keeps the rules at N = n, what a rank's flat endpoint follows, and without going back to a loop twice between two actions, the rank of each
-- program of the projection's shape follows, with at most four silent steps for each statement before each action
abbrev pub RankFollows : Type 0
RankFollows =
    (p : Protocol) (l : Program) (n : ℤ) → is_sound p ≡ true → IsProper p → HasShape p l → IsWellMade l → IsIn p.range n → total p.roles n ≤ MOST_NUMBER → breaches p n ≡ [] →
    (r : ℕ) → r < total p.roles n → (allowed : Action → Bool) (s : List Action) (ends : Bool) → Follows (once is_at_again E.machine) allowed (once_start (endpoint (flat_at p n) r)) s ends →
    FollowsWithin (most_silent l) (machine l n) allowed (most_silent l) (start l n r) s ends
