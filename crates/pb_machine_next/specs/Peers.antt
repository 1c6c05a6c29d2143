-- The number of a peer, which C computes as x + A * N + B.
use Rattle.std.specs.Prelude.{ℕ, ℤ, pos, ◌+ℤ◌, ◌*ℤ◌, ◌&&◌, int_le, int_lt, if◌then◌else◌, Option, Some, None, List}
use Rattle.pb_affine.specs.Values.{value, count_of}
use Rattle.pb_local.specs.declared.stmt.Peer.{Peer}
use Rattle.pb_ctree.specs.declared.tree.Formula.{Formula}
use Rattle.pb_ctree.specs.Trees.{formula_at}
use Rattle.pb_machine_next.specs.declared.me.Me.{Me}
use Rattle.pb_machine_next.specs.Numbers.{int32}

abbrev pub and_then : {A B : Type 0} → Option A → (A → Option B) → Option B
and_then None go = None
and_then (Some x) go = go x

-- the number, where it is a rank's
abbrev pub rank_if : ℕ → ℤ → Option ℕ
rank_if total x = if int_le (pos 0) x && int_lt x (pos total) then Some (count_of x) else None

abbrev pub placed_at : Formula → Me → ℤ → Option ℕ
placed_at place me x =
    and_then (int32 (place.a *ℤ me.n)) (λ m. and_then (int32 (x +ℤ m)) (λ y. and_then (int32 (y +ℤ place.b)) (rank_if me.total)))

abbrev pub peer_at : List Formula → Peer → Me → ℤ → Option ℕ
peer_at places e me i = and_then (int32 (value e.at me.n i)) (placed_at (formula_at places e.role) me)
