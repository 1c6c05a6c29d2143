-- How a rank's way is put together, with its silent steps counted.
use Rattle.std.proofs.Common.{◌≡◌, ◌≤◌, ℕ, suc, ◌+◌, ℤ, ◌+ℤ◌, true, false, List, [], ◌∷◌, ◌++◌, refl, sym, ap, subst, arith}
use Rattle.pb_affine.specs.declared.guard.Guard.{Guard}
use Rattle.pb_world.specs.Actions.{Kind}
use Rattle.pb_world.specs.Machine.{Machine}
use Rattle.pb_local.specs.Ranks.{Seat}
use Rattle.pb_local.specs.Tree.{Codes, size_all, Program}
use Rattle.pb_local.specs.Tree as L
use Rattle.pb_local.specs.Computed.{all_fit, numbers_of, is_for_some}
use Rattle.pb_local.specs.Machine.{Todo, do_next, Rank, silent, does, pushed, move, move_from, next_in, quiet_in, act_in, machine}
use Rattle.pb_local.proofs.Moves.{move_is}
use Rattle.pb_shape.specs.Ways as W
use Rattle.pb_shape.specs.Ways.{Way, renewed}
use Rattle.pb_shape.specs.Straight.{at_todo}

-- one way after another
pub joined : {M : Machine Rank} {bound : ℕ} {middle : Rank} {between k : ℕ} {last : Rank} {left : ℕ} {first : Rank} {s t : List Kind} →
    Way M bound middle between k first s → Way M bound last left between middle t → Way M bound last left k first (s ++ t)
joined W.here b = b
joined (W.silent e a) b = W.silent e (joined a b)
joined (W.act e f a) b = W.act e f (joined a b)

module _ (l : Program) (n : ℤ) (bound : ℕ) (me : Seat) where
  -- a silent step, and an action
  pub silently : (x y : Rank) {last : Rank} {left k : ℕ} {kinds : List Kind} → move_from l n x x.todo ≡ silent y →
      Way (machine l n) bound last left k y kinds → Way (machine l n) bound last left (suc k) x kinds
  silently x y {last = last} {left = left} {k = k} {kinds = kinds} e w =
      let e' : move l n x ≡ silent y = rw (move_is l n x) e in
      W.silent (ap next_in e') (subst (λ z. Way (machine l n) bound last left k z kinds) (sym (ap (quiet_in x) e')) w)

  pub doing : (x y : Rank) {last : Rank} {left k : ℕ} {kind : Kind} {kinds : List Kind} → move_from l n x x.todo ≡ does kind y →
      Way (machine l n) bound last left bound y kinds → Way (machine l n) bound last left k x (kind ∷ kinds)
  doing x y e w =
      let e' : move l n x ≡ does _ y = rw (move_is l n x) e in
      W.act (ap next_in e') (λ a h. ap (λ m. act_in x m a) e') w

  -- from one list of things to do to another with these actions; so many silent steps are for the codes between
  pub record Goes (k : ℕ) (i j : ℤ) (first last : Todo) (cost : ℕ) (kinds : List Kind) : Type 0 where
    pub left : ℕ
    pub enough : renewed bound k kinds ≤ left + cost
    pub way : Way (machine l n) bound (at_todo me j last) left k (at_todo me i first) kinds

  joins_enough : (k c d left between : ℕ) (s t : List Kind) → renewed bound k s ≤ between + c → renewed bound between t ≤ left + d → renewed bound k (s ++ t) ≤ left + (c + d)
  joins_enough k c d left between [] [] a b = omega arith
  joins_enough k c d left between [] (x ∷ t) a b = omega arith
  joins_enough k c d left between (x ∷ s) [] a b = omega arith
  joins_enough k c d left between (x ∷ s) (y ∷ t) a b = omega arith

  pub goes_joined : {k : ℕ} {i j h : ℤ} {first middle last : Todo} {c d : ℕ} {s t : List Kind} →
      (a : Goes k i j first middle c s) → Goes a.left j h middle last d t → Goes k i h first last (c + d) (s ++ t)
  goes_joined {k = k} {c = c} {d = d} {s = s} {t = t} a b =
      record { left = b.left; enough = joins_enough k c d b.left a.left s t a.enough b.enough; way = joined a.way b.way }

  -- what is left is enough for the codes behind
  pub still : (k c most left : ℕ) (s : List Kind) → most ≤ k → most ≤ bound → renewed bound k s ≤ left + c → most ≤ left + c
  still k c most left [] a b h = omega arith
  still k c most left (x ∷ s) a b h = omega arith

  pub stays : (k : ℕ) (i : ℤ) (todo : Todo) → Goes k i i todo todo 0 []
  stays k i todo = record { left = k; enough = omega arith; way = W.here }

  pub costs : {k : ℕ} {i j : ℤ} {first last : Todo} {c : ℕ} {s : List Kind} (d : ℕ) → c ≤ d → Goes k i j first last c s → Goes k i j first last d s
  costs d le a = record { left = a.left; enough = omega (arith, le, a.enough); way = a.way }

  one_silent : (k left c : ℕ) (s : List Kind) → renewed bound k s ≤ left + c → renewed bound (suc k) s ≤ left + suc c
  one_silent k left c [] h = omega arith
  one_silent k left c (x ∷ s) h = omega arith

  -- a silent step before the rest
  pub quiet_first : {k : ℕ} {i i' j : ℤ} {first second last : Todo} {c : ℕ} {s : List Kind} →
      move_from l n (at_todo me i first) first ≡ silent (at_todo me i' second) → Goes k i' j second last c s → Goes (suc k) i j first last (suc c) s
  quiet_first {k = k} {i = i} {i' = i'} {first = first} {second = second} {c = c} {s = s} e g =
      record { left = g.left; enough = one_silent k g.left c s g.enough; way = silently (at_todo me i first) (at_todo me i' second) e g.way }

  -- an action alone
  pub does_one : {k : ℕ} {i : ℤ} {first rest : Todo} {kind : Kind} → move_from l n (at_todo me i first) first ≡ does kind (at_todo me i rest) → Goes k i i first rest 0 (kind ∷ [])
  does_one {i = i} {first = first} {rest = rest} e = record { left = bound; enough = omega arith; way = doing (at_todo me i first) (at_todo me i rest) e W.here }

  pub when_held : {k number : ℕ} {i j : ℤ} (gs : List Guard) (a b : Codes) (rest : Todo) {last : Todo} {c : ℕ} {s : List Kind} →
      all_fit (numbers_of n me i gs) ≡ true → is_for_some n me i gs ≡ true →
      Goes k i j (pushed (suc number) a rest) last c s → Goes (suc k) i j (do_next number (L.when gs a b) rest) last (suc c) s
  when_held gs a b rest fit held g = quiet_first (rw (fit, held) refl) g

  pub when_not : {k number : ℕ} {i j : ℤ} (gs : List Guard) (a b : Codes) (rest : Todo) {last : Todo} {c : ℕ} {s : List Kind} →
      all_fit (numbers_of n me i gs) ≡ true → is_for_some n me i gs ≡ false →
      Goes k i j (pushed (suc number + size_all a) b rest) last c s → Goes (suc k) i j (do_next number (L.when gs a b) rest) last (suc c) s
  when_not gs a b rest fit held g = quiet_first (rw (fit, held) refl) g

  pub owns : {k number : ℕ} {i j : ℤ} (off : ℤ) (rest : Todo) {last : Todo} {c : ℕ} {s : List Kind} →
      all_fit ((me.index +ℤ off) ∷ []) ≡ true → Goes k (me.index +ℤ off) j rest last c s → Goes (suc k) i j (do_next number (L.own off) rest) last (suc c) s
  owns off rest fit g = quiet_first (rw fit refl) g
