-- What a rank computes, one number after the other as C does. None: a number leaves int32.
use Rattle.std.specs.Prelude.{ℕ, ℤ, Bool, true, false, ◌&&◌, nat_eq, int_le, if◌then◌else◌, Option, Some, None, List, [], ◌∷◌}
use Rattle.pb_affine.specs.declared.lin.Lin.{Lin}
use Rattle.pb_affine.specs.declared.guard.Guard.{Guard}
use Rattle.pb_affine.specs.Values.{value, is_from_on, is_up_to}
use Rattle.pb_local.specs.declared.stmt.Test.{Test}
use Rattle.pb_local.specs.declared.stmt.Relay.{Relay}
use Rattle.pb_local.specs.declared.stmt.Peer.{Peer}
use Rattle.pb_local.specs.Ranks.{Seat}
use Rattle.pb_local.specs.Computed.{fits}
use Rattle.pb_machine_next.specs.declared.me.Me.{Me}

-- the role and index of a rank
abbrev pub seat_of : Me → Seat
seat_of me = record { role = me.role; index = me.index }

abbrev pub int32 : ℤ → Option ℤ
int32 x = if fits x then Some x else None

-- ---- guards

abbrev pub low_holds : Option Lin → Me → ℤ → Option Bool
low_holds None me i = Some true
low_holds (Some l) me i = if fits (value l me.n i) then Some (int_le (value l me.n i) me.index) else None

abbrev pub high_holds : Option Lin → Me → ℤ → Option Bool
high_holds None me i = Some true
high_holds (Some l) me i = if fits (value l me.n i) then Some (int_le me.index (value l me.n i)) else None

-- the high end is computed where the low end holds
abbrev pub both_ends : Option Lin → Me → ℤ → Option Bool → Option Bool
both_ends high me i None = None
both_ends high me i (Some held) = if held then high_holds high me i else Some false

abbrev pub within : Guard → Me → Option Bool → Option Bool
within g me None = None
within g me (Some held) = Some (held && is_from_on me.n g.from && is_up_to me.n g.to)

abbrev pub guard_holds : Guard → Me → ℤ → Option Bool
guard_holds g me i =
    if nat_eq me.role g.role then within g me (both_ends g.high me i (low_holds g.low me i)) else Some false

-- the first test, and the others where it fails
abbrev pub or_else : {A : Type 0} → A → Option Bool → Option A → Option A
or_else x None others = None
or_else x (Some held) others = if held then Some x else others

-- some guard holds; those behind the first that holds are not computed
abbrev pub some_holds : List Guard → Me → ℤ → Option Bool
some_holds [] me i = Some false
some_holds (g ∷ gs) me i = or_else true (guard_holds g me i) (some_holds gs me i)

-- ---- relays and tests

-- the source of the first relay that holds, or else this one
abbrev pub source_at : List Relay → Peer → Me → ℤ → Option Peer
source_at [] other me i = Some other
source_at (r ∷ rs) other me i = or_else r.from (some_holds r.guards me i) (source_at rs other me i)

-- the branch of the first test with this label that holds
abbrev pub tested : List Test → ℕ → Me → ℤ → Option ℕ
tested [] label me i = None
tested (t ∷ ts) label me i =
    if nat_eq label t.label then or_else t.branch (some_holds t.guards me i) (tested ts label me i) else tested ts label me i
