-- The numbers that C computes for guards and peers, and whether each is an int32.
use Rattle.std.specs.Prelude.{ℕ, ◌^◌, ℤ, pos, negsuc, ◌+ℤ◌, ◌*ℤ◌, Bool, true, ◌&&◌, nat_eq, nat_lt, int_le, int_lt, if◌then◌else◌, Option, Some, None, List, [], ◌∷◌, ◌++◌, get_or}
use Rattle.pb_affine.specs.declared.lin.Lin.{Lin}
use Rattle.pb_affine.specs.declared.guard.Guard.{Guard}
use Rattle.pb_affine.specs.Values.{value, holds, hold, is_at_least}
use Rattle.pb_local.specs.declared.stmt.Peer.{Peer}
use Rattle.pb_local.specs.declared.stmt.Test.{Test}
use Rattle.pb_local.specs.declared.stmt.Relay.{Relay}
use Rattle.pb_local.specs.Ranks.{Seat, Sum, no_ranks, places_of, total}
use Rattle.pb_local.specs.Tree.{Program}

-- an int32
abbrev pub fits : ℤ → Bool
fits (pos n) = nat_lt n (2 ^ 31)
fits (negsuc n) = nat_lt n (2 ^ 31)

abbrev pub all_fit : List ℤ → Bool
all_fit [] = true
all_fit (x ∷ xs) = fits x && all_fit xs

-- what is added to an index of a role for the rank's number
abbrev pub place_at : Program → ℕ → Sum
place_at p role = get_or (places_of p.roles) role no_ranks

-- the number of a rank of the world
abbrev pub is_rank : Program → ℤ → ℤ → Bool
is_rank p n x = int_le (pos 0) x && int_lt x (pos (total p.roles n))

-- At N = n, for the rank with this role and index, with i for the variable
module _ (n : ℤ) (me : Seat) (i : ℤ) where
  -- ---- guards

  abbrev pub is_for : Guard → Bool
  is_for g = holds g n i me.role me.index

  -- some guard holds
  abbrev pub is_for_some : List Guard → Bool
  is_for_some gs = hold gs n i me.role me.index

  abbrev pub end_numbers : Option Lin → List ℤ
  end_numbers None = []
  end_numbers (Some l) = value l n i ∷ []

  -- the low end is computed where the role is right, and the high end where the low end holds too
  abbrev pub guard_numbers : Guard → List ℤ
  guard_numbers g =
      if nat_eq me.role g.role
      then end_numbers g.low ++ (if is_at_least me.index g.low n i then end_numbers g.high else [])
      else []

  -- of several guards, those up to the first that holds
  abbrev pub numbers_of : List Guard → List ℤ
  numbers_of [] = []
  numbers_of (g ∷ gs) = guard_numbers g ++ (if is_for g then [] else numbers_of gs)

  -- ---- peers, which are spelled x + A * N + B

  abbrev pub peer_number : Program → Peer → ℤ
  peer_number p e = value e.at n i +ℤ ((place_at p e.role).a *ℤ n) +ℤ (place_at p e.role).b

  abbrev pub peer_numbers : Program → Peer → List ℤ
  peer_numbers p e =
      value e.at n i ∷ ((place_at p e.role).a *ℤ n) ∷ (value e.at n i +ℤ ((place_at p e.role).a *ℤ n)) ∷ peer_number p e ∷ []

  -- the peer can be computed, and it is a rank
  abbrev pub is_peer : Program → Peer → Bool
  is_peer p e = all_fit (peer_numbers p e) && is_rank p n (peer_number p e)

  -- ---- relays and tests

  -- the source of the first relay whose guards hold, or else this one; and what is computed to find it
  abbrev pub source_of : List Relay → Peer → Peer
  source_of [] from = from
  source_of (x ∷ xs) from = if is_for_some x.guards then x.from else source_of xs from

  abbrev pub relay_numbers : List Relay → List ℤ
  relay_numbers [] = []
  relay_numbers (x ∷ xs) = numbers_of x.guards ++ (if is_for_some x.guards then [] else relay_numbers xs)

  -- The branch of the first test that has the label and holds for the rank. The tests are gone through in order, and a guard
  -- is computed only where the test has the label
  abbrev pub branch_for : List Test → ℕ → Option ℕ
  branch_for [] label = None
  branch_for (t ∷ ts) label =
      if nat_eq label t.label
      then (if all_fit (numbers_of t.guards) then (if is_for_some t.guards then Some t.branch else branch_for ts label) else None)
      else branch_for ts label
