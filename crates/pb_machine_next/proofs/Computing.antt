-- What is computed one number after the other is what the definition computes.
use Rattle.std.proofs.Common.{◌≡◌, ℕ, ℤ, pos, ◌+ℤ◌, ◌*ℤ◌, Bool, true, false, ◌&&◌, ◌||◌, nat_eq, int_le, int_lt, if◌then◌else◌, List, [], ◌∷◌, ◌++◌, map, get_or, Option, Some, None, refl, sym, ap, ◌∙◌}
use Rattle.std.proofs.Math.ListN.{get_or-map}
use Rattle.pb_affine.specs.declared.lin.Lin.{Lin}
use Rattle.pb_affine.specs.declared.guard.Guard.{Guard}
use Rattle.pb_affine.specs.Values.{value, is_at_least, is_at_most, is_from_on, is_up_to, count_of}
use Rattle.pb_local.specs.declared.stmt.Peer.{Peer}
use Rattle.pb_local.specs.declared.stmt.Test.{Test}
use Rattle.pb_local.specs.declared.stmt.Relay.{Relay}
use Rattle.pb_local.specs.Ranks.{Sum, Seat, no_ranks, places_of}
use Rattle.pb_local.specs.Tree.{Program}
use Rattle.pb_local.specs.Computed.{fits, all_fit, place_at, is_for, is_for_some, end_numbers, guard_numbers, numbers_of, peer_number, is_peer, source_of, relay_numbers, branch_for}
use Rattle.pb_ctree.specs.declared.tree.Formula.{Formula}
use Rattle.pb_ctree.specs.Trees.{sum_of, formula_at}
use Rattle.pb_machine_next.specs.declared.me.Me.{Me}
use Rattle.pb_machine_next.specs.Numbers.{seat_of, int32, low_holds, high_holds, both_ends, within, guard_holds, or_else, some_holds, source_at, tested}
use Rattle.pb_machine_next.specs.Peers.{and_then, rank_if, placed_at, peer_at}
use Rattle.pb_machine_next.specs.View.{Knows}

-- the value, where all these numbers are an int32
abbrev pub checked : {A : Type 0} → List ℤ → A → Option A
checked numbers x = if all_fit numbers then Some x else None

both_fit : (xs ys : List ℤ) → all_fit (xs ++ ys) ≡ (all_fit xs && all_fit ys)
both_fit [] ys = refl
both_fit (x ∷ xs) ys = by_fit (fits x) (both_fit xs ys) where
  by_fit : (b : Bool) → all_fit (xs ++ ys) ≡ (all_fit xs && all_fit ys) → (b && all_fit (xs ++ ys)) ≡ ((b && all_fit xs) && all_fit ys)
  by_fit true h = h
  by_fit false h = refl

-- the first, and where it fails the others
or_checked : {A : Type 0} (x y : A) (xs ys : List ℤ) (held : Bool) →
    or_else x (checked xs held) (checked ys y) ≡ checked (xs ++ (if held then [] else ys)) (if held then x else y)
or_checked {A} x y xs ys held = by_fit (all_fit xs) held refl where
  by_fit : (b h : Bool) → all_fit xs ≡ b → or_else x (if b then Some h else None) (checked ys y) ≡ checked (xs ++ (if h then [] else ys)) (if h then x else y)
  by_fit true true e = rw (both_fit xs [], e) refl
  by_fit true false e = rw (both_fit xs ys, e) refl
  by_fit false h e = rw (both_fit xs (if h then [] else ys), e) refl

-- ---- guards

module _ (me : Me) (i : ℤ) where
  abbrev n : ℤ
  n = me.n

  abbrev seat : Seat
  seat = seat_of me

  low_is : (low : Option Lin) → low_holds low me i ≡ checked (end_numbers n seat i low) (is_at_least me.index low n i)
  low_is None = refl
  low_is (Some l) = by_fit (fits (value l n i)) where
    by_fit : (b : Bool) → (if b then Some (int_le (value l n i) me.index) else None) ≡ (if (b && true) then Some (int_le (value l n i) me.index) else None)
    by_fit true = refl
    by_fit false = refl

  high_is : (high : Option Lin) → high_holds high me i ≡ checked (end_numbers n seat i high) (is_at_most me.index high n i)
  high_is None = refl
  high_is (Some l) = by_fit (fits (value l n i)) where
    by_fit : (b : Bool) → (if b then Some (int_le me.index (value l n i)) else None) ≡ (if (b && true) then Some (int_le me.index (value l n i)) else None)
    by_fit true = refl
    by_fit false = refl

  ends_are : (high : Option Lin) (xs : List ℤ) (held : Bool) → both_ends high me i (checked xs held)
      ≡ checked (xs ++ (if held then end_numbers n seat i high else [])) (held && is_at_most me.index high n i)
  ends_are high xs held = by_fit (all_fit xs) held refl where
    by_fit : (b h : Bool) → all_fit xs ≡ b → both_ends high me i (if b then Some h else None)
        ≡ checked (xs ++ (if h then end_numbers n seat i high else [])) (h && is_at_most me.index high n i)
    by_fit true true e = high_is high ∙ rw (both_fit xs (end_numbers n seat i high), e) refl
    by_fit true false e = rw (both_fit xs [], e) refl
    by_fit false h e = rw (both_fit xs (if h then end_numbers n seat i high else []), e) refl

  within_is : (g : Guard) (xs : List ℤ) (held : Bool) → within g me (checked xs held) ≡ checked xs (held && is_from_on n g.from && is_up_to n g.to)
  within_is g xs held = by_fit (all_fit xs) where
    by_fit : (b : Bool) → within g me (if b then Some held else None) ≡ (if b then Some (held && is_from_on n g.from && is_up_to n g.to) else None)
    by_fit true = refl
    by_fit false = refl

  -- a guard is computed from left to right
  pub guard_is : (g : Guard) → guard_holds g me i ≡ checked (guard_numbers n seat i g) (is_for n seat i g)
  guard_is g = by_role (nat_eq me.role g.role) where
    ends : both_ends g.high me i (low_holds g.low me i) ≡ checked (end_numbers n seat i g.low ++ (if is_at_least me.index g.low n i then end_numbers n seat i g.high else [])) (is_at_least me.index g.low n i && is_at_most me.index g.high n i)
    ends = ap (both_ends g.high me i) (low_is g.low) ∙ ends_are g.high (end_numbers n seat i g.low) (is_at_least me.index g.low n i)

    by_role : (b : Bool) → (if b then within g me (both_ends g.high me i (low_holds g.low me i)) else Some false)
        ≡ checked (if b then end_numbers n seat i g.low ++ (if is_at_least me.index g.low n i then end_numbers n seat i g.high else []) else [])
        (b && is_at_least me.index g.low n i && is_at_most me.index g.high n i && is_from_on n g.from && is_up_to n g.to)
    by_role true = ap (within g me) ends ∙ within_is g (end_numbers n seat i g.low ++ (if is_at_least me.index g.low n i then end_numbers n seat i g.high else [])) (is_at_least me.index g.low n i && is_at_most me.index g.high n i)
    by_role false = refl

  if_or : (b c : Bool) → (if b then true else c) ≡ (b || c)
  if_or true c = refl
  if_or false c = refl

  -- of several guards, none is computed behind the first that holds
  pub some_is : (gs : List Guard) → some_holds gs me i ≡ checked (numbers_of n seat i gs) (is_for_some n seat i gs)
  some_is [] = refl
  some_is (g ∷ gs) =
      (rw (guard_is g, some_is gs) refl)
      ∙ or_checked true (is_for_some n seat i gs) (guard_numbers n seat i g) (numbers_of n seat i gs) (is_for n seat i g)
      ∙ ap (checked (numbers_of n seat i (g ∷ gs))) (if_or (is_for n seat i g) (is_for_some n seat i gs))

  -- ---- relays and tests

  pub source_is : (rs : List Relay) (e : Peer) → source_at rs e me i ≡ checked (relay_numbers n seat i rs) (source_of n seat i rs e)
  source_is [] e = refl
  source_is (r ∷ rs) e =
      (rw (some_is r.guards, source_is rs e) refl)
      ∙ or_checked r.from (source_of n seat i rs e) (numbers_of n seat i r.guards) (relay_numbers n seat i rs) (is_for_some n seat i r.guards)

  tested_at : (t : Test) (xs : List ℤ) (held : Bool) (others : Option ℕ) → or_else t.branch (checked xs held) others
      ≡ (if all_fit xs then (if held then Some t.branch else others) else None)
  tested_at t xs held others = by_fit (all_fit xs) where
    by_fit : (b : Bool) → or_else t.branch (if b then Some held else None) others ≡ (if b then (if held then Some t.branch else others) else None)
    by_fit true = refl
    by_fit false = refl

  pub tested_is : (ts : List Test) (label : ℕ) → tested ts label me i ≡ branch_for n seat i ts label
  tested_is [] label = refl
  tested_is (t ∷ ts) label =
      (rw (some_is t.guards, tested_is ts label) refl)
      ∙ ap (λ z. if nat_eq label t.label then z else branch_for n seat i ts label) (tested_at t (numbers_of n seat i t.guards) (is_for_some n seat i t.guards) (branch_for n seat i ts label))

-- ---- peers

then_int32 : {A : Type 0} (x : ℤ) (go : ℤ → Option A) → and_then (int32 x) go ≡ (if fits x then go x else None)
then_int32 {A} x go = by_fit (fits x) where
  by_fit : (b : Bool) → and_then (if b then Some x else None) go ≡ (if b then go x else None)
  by_fit true = refl
  by_fit false = refl

four : {A : Type 0} (a b c d e : Bool) (x : A) → (if a then (if b then (if c then (if d then (if e then Some x else None) else None) else None) else None) else None)
    ≡ (if ((a && (b && (c && (d && true)))) && e) then Some x else None)
four true true true true e x = refl
four true true true false e x = refl
four true true false d e x = refl
four true false c d e x = refl
four false b c d e x = refl

-- the peer that a sum gives to an index
abbrev summed : Sum → ℕ → ℤ → ℤ → Option ℕ
summed s ranks n x =
    if (all_fit (x ∷ (s.a *ℤ n) ∷ (x +ℤ (s.a *ℤ n)) ∷ ((x +ℤ (s.a *ℤ n)) +ℤ s.b) ∷ []) && (int_le (pos 0) ((x +ℤ (s.a *ℤ n)) +ℤ s.b) && int_lt ((x +ℤ (s.a *ℤ n)) +ℤ s.b) (pos ranks)))
    then Some (count_of ((x +ℤ (s.a *ℤ n)) +ℤ s.b))
    else None

placed_is : (f : Formula) (me : Me) (x : ℤ) → and_then (int32 x) (placed_at f me) ≡ summed (sum_of f) me.total me.n x
placed_is f me x =
    let m : ℤ = f.a *ℤ me.n in
    let y : ℤ = x +ℤ m in
    let z : ℤ = y +ℤ f.b in
    then_int32 x (placed_at f me)
    ∙ ap (λ o. if fits x then o else None)
    (then_int32 m (λ m. and_then (int32 (x +ℤ m)) (λ y. and_then (int32 (y +ℤ f.b)) (rank_if me.total)))
    ∙ ap (λ o. if fits m then o else None)
    (then_int32 y (λ y. and_then (int32 (y +ℤ f.b)) (rank_if me.total))
    ∙ ap (λ o. if fits y then o else None) (then_int32 z (rank_if me.total))))
    ∙ four (fits x) (fits m) (fits y) (fits z) (int_le (pos 0) z && int_lt z (pos me.total)) (count_of z)

place_is : (p : Program) (places : List Formula) (role : ℕ) → map sum_of places ≡ places_of p.roles → place_at p role ≡ sum_of (formula_at places role)
place_is p places role h = ap (λ (xs : List Sum). get_or xs role no_ranks) (sym h) ∙ get_or-map sum_of places role (record { a = pos 0; b = pos 0 })

pub peer_is : (p : Program) (places : List Formula) (me : Me) (i : ℤ) (e : Peer) → Knows p places me →
    peer_at places e me i ≡ (if is_peer me.n (seat_of me) i p e then Some (count_of (peer_number me.n (seat_of me) i p e)) else None)
peer_is p places me i e h =
    placed_is (formula_at places e.role) me (value e.at me.n i)
    ∙ ap (λ (s : Sum). summed s me.total me.n (value e.at me.n i)) (sym (place_is p places e.role h.placed))
    ∙ ap (λ t. summed (place_at p e.role) t me.n (value e.at me.n i)) h.numbered
