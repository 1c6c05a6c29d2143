-- The tests and relays of a choice: which branch a label tells, and from whom it comes.
use Rattle.std.proofs.Common.{◌≡◌, ℕ, ℤ, Bool, true, false, ◌&&◌, ◌||◌, nat_eq, if◌then◌else◌, Some, All, List, [], ◌∷◌, ◌++◌, refl, sym, ◌∙◌, ap, arith}
use Rattle.std.proofs.lemmas.Bool.Decides.{nat_tests}
use Rattle.std.proofs.lemmas.List.Elements.{All-head, All-tail}
use Rattle.std.proofs.lemmas.Bool.{or_right, and_parts}
use Rattle.std.proofs.Math.Bool.{or_assoc}
use Rattle.pb_affine.specs.declared.guard.Guard.{Guard}
use Rattle.pb_affine.specs.Values.{holds}
use Rattle.pb_local.specs.declared.stmt.Peer.{Peer}
use Rattle.pb_local.specs.declared.stmt.Test.{Test}
use Rattle.pb_local.specs.declared.stmt.Relay.{Relay}
use Rattle.pb_local.specs.Ranks.{Seat}
use Rattle.pb_local.specs.Tree.{Program}
use Rattle.pb_local.specs.Computed.{all_fit, is_for_some, numbers_of, source_of, relay_numbers, branch_for}
use Rattle.pb_local.specs.WellMade.{AreGuards, IsPeer, IsRelay, IsTest}
use Rattle.pb_shape.specs.Choices.{guards_of}

module _ (l : Program) (n : ℤ) (me : Seat) (i : ℤ) (fit : (gs : List Guard) → AreGuards l gs → all_fit (numbers_of n me i gs) ≡ true) where
  -- ---- tests

  both_hold : (gs hs : List Guard) → is_for_some n me i (gs ++ hs) ≡ is_for_some n me i gs || is_for_some n me i hs
  both_hold [] hs = refl
  both_hold (g ∷ gs) hs = rw (both_hold gs hs) (sym (or_assoc (holds g n i me.role me.index) (is_for_some n me i gs) (is_for_some n me i hs)))

  hold_step : (b label : ℕ) (t : Test) (ts : List Test) →
      is_for_some n me i (guards_of b label (t ∷ ts)) ≡ (nat_eq b t.branch && nat_eq label t.label && is_for_some n me i t.guards) || is_for_some n me i (guards_of b label ts)
  hold_step b label t ts = at (nat_eq b t.branch && nat_eq label t.label) refl
    where
      at : (c : Bool) → nat_eq b t.branch && nat_eq label t.label ≡ c →
          is_for_some n me i (guards_of b label (t ∷ ts)) ≡ (nat_eq b t.branch && nat_eq label t.label && is_for_some n me i t.guards) || is_for_some n me i (guards_of b label ts)
      at true e = rw e (both_hold t.guards (guards_of b label ts))
      at false e = rw e refl

  -- the first test of the label that holds leads into the one branch that it tells
  pub tested_is : (branches y label : ℕ) (ts : List Test) → All (IsTest l branches) ts → ((b : ℕ) → is_for_some n me i (guards_of b label ts) ≡ true → b ≡ y) → is_for_some n me i (guards_of y label ts) ≡ true →
      branch_for n me i ts label ≡ Some y
  tested_is branches y label [] made one h = cc
  tested_is branches y label (t ∷ ts) made one h = at (nat_eq label t.label) (is_for_some n me i t.guards) refl refl (tested_is branches y label ts (All-tail (IsTest l branches) t ts made))
    where
      fits : all_fit (numbers_of n me i t.guards) ≡ true
      fits = let m = All-head (IsTest l branches) t ts made in fit t.guards m.guards

      later : (b : ℕ) → is_for_some n me i (guards_of b label ts) ≡ true → b ≡ y
      later b e = one b (hold_step b label t ts ∙ or_right (nat_eq b t.branch && nat_eq label t.label && is_for_some n me i t.guards) (is_for_some n me i (guards_of b label ts)) e)

      left : (a c h' r : Bool) → c && h' ≡ false → (a && c && h') || r ≡ true → r ≡ true
      left a c h' r e e' = grind arith

      at : (c h' : Bool) → nat_eq label t.label ≡ c → is_for_some n me i t.guards ≡ h' →
          (((b : ℕ) → is_for_some n me i (guards_of b label ts) ≡ true → b ≡ y) → is_for_some n me i (guards_of y label ts) ≡ true → branch_for n me i ts label ≡ Some y) → branch_for n me i (t ∷ ts) label ≡ Some y
      at false h' e e' ih = rw e (ih later (left (nat_eq y t.branch) (nat_eq label t.label) (is_for_some n me i t.guards) _ (rw e refl) (sym (hold_step y label t ts) ∙ h)))
      at true false e e' ih = rw (e, fits, e') (ih later (left (nat_eq y t.branch) (nat_eq label t.label) (is_for_some n me i t.guards) _ (rw (e, e') refl) (sym (hold_step y label t ts) ∙ h)))
      at true true e e' ih = rw (e, fits, e') (ap (λ z. Some z) (one t.branch (hold_step t.branch label t ts ∙ rw (e, e', same t.branch) refl)))
        where
          same : (b : ℕ) → nat_eq b b ≡ true
          same b = grind (arith, nat_tests)

  -- ---- relays

  both_fit : (xs ys : List ℤ) → all_fit xs ≡ true → all_fit ys ≡ true → all_fit (xs ++ ys) ≡ true
  both_fit [] ys a b = b
  both_fit (x ∷ xs) ys a b = rw ((and_parts _ (all_fit xs) a).0, both_fit xs ys (and_parts _ (all_fit xs) a).1 b) refl

  if_fits : (b : Bool) (xs ys : List ℤ) → all_fit xs ≡ true → all_fit ys ≡ true → all_fit (if b then xs else ys) ≡ true
  if_fits true xs ys a b = a
  if_fits false xs ys a b = b

  pub relays_fit : (relays : List Relay) → All (IsRelay l) relays → all_fit (relay_numbers n me i relays) ≡ true
  relays_fit [] made = refl
  relays_fit (x ∷ xs) made =
      let m = All-head (IsRelay l) x xs made in
      both_fit (numbers_of n me i x.guards) (if is_for_some n me i x.guards then [] else relay_numbers n me i xs) (fit x.guards m.guards)
      (if_fits (is_for_some n me i x.guards) [] (relay_numbers n me i xs) refl (relays_fit xs (All-tail (IsRelay l) x xs made)))

  if_peer : (b : Bool) (x y : Peer) → IsPeer l x → IsPeer l y → IsPeer l (if b then x else y)
  if_peer true x y h k = h
  if_peer false x y h k = k

  pub source_made : (relays : List Relay) (from : Peer) → All (IsRelay l) relays → IsPeer l from → IsPeer l (source_of n me i relays from)
  source_made [] from made h = h
  source_made (x ∷ xs) from made h =
      let m = All-head (IsRelay l) x xs made in
      if_peer (is_for_some n me i x.guards) x.from (source_of n me i xs from) m.from (source_made xs from (All-tail (IsRelay l) x xs made) h)
