-- The numbers with a mark are listed, ascending.
use Rattle.std.proofs.Common.{◌≡◌, ◌<◌, ◌≤◌, ℕ, zero, suc, ◌+◌, Bool, true, false, if◌then◌else◌, ◌↔◌, ◌⊎◌, inl, inr, List, ◌∷◌, length, get_or, refl, ap, sym, ◌∙◌, subst, arith}
use Rattle.std.specs.List.{Contains}
use Rattle.std.proofs.lemmas.Bool.{cases_eq}
use Rattle.std.proofs.lemmas.Grind.{get_or_default_zero}
use Rattle.pb_world.specs.World as W
use Rattle.pb_local.specs.Family.{Sequence, family}
use Rattle.pb_sim_ready.specs.Kept.{kept}
use Rattle.pb_sim_world.specs.States.{program, total_of}
use Rattle.pb_sim_world.specs.Worlds.{world_of}
use Rattle.pb_sim_world.specs.Can.{can}
use Rattle.pb_sim_world.specs.Sound.{IsState}
use Rattle.pb_sim_world.proofs.Stepping.{has_step}
use Rattle.pb_sim_world.proofs.Converse.{can_of}
use Rattle.pb_sim.specs.declared.seen.Seen.{Seen}
use Rattle.pb_sim.specs.Seen.{IsReadied}
use Rattle.std.specs.Bool.{IsTrue}
use Rattle.pb_sim.specs.Made.{HasStep}
use Rattle.pb_sim.specs.Runs.{IsReadyList}
use Rattle.pb_sim.proofs.Runs.{within}

-- each is at least the first that may be, and each is marked and below the end
module _ (f : ℕ → Bool) where
  pub kept_at : (n a i : ℕ) → i < length (kept f n a) → (a ≤ get_or (kept f n a) i 0) × (get_or (kept f n a) i 0 < n + a) × (f (get_or (kept f n a) i 0) ≡ true)
  kept_at zero a i h = absurd (omega (arith, h))
  kept_at (suc n) a i h = by_mark (f a) refl i h (kept_at n (suc a)) where
    by_mark : (b : Bool) → f a ≡ b → (i : ℕ) → i < length (if b then a ∷ kept f n (suc a) else kept f n (suc a)) → ((i : ℕ) → i < length (kept f n (suc a)) → (suc a ≤ get_or (kept f n (suc a)) i 0) × (get_or (kept f n (suc a)) i 0 < n + suc a) × (f (get_or (kept f n (suc a)) i 0) ≡ true)) →
        (a ≤ get_or (if b then a ∷ kept f n (suc a) else kept f n (suc a)) i 0) × (get_or (if b then a ∷ kept f n (suc a) else kept f n (suc a)) i 0 < suc n + a) × (f (get_or (if b then a ∷ kept f n (suc a) else kept f n (suc a)) i 0) ≡ true)
    by_mark true e zero h again = (omega arith, omega arith, e)
    by_mark true e (suc i) h again = let r = again i (omega (arith, h)) in let l : suc a ≤ get_or (kept f n (suc a)) i 0 = r.0 in let u : get_or (kept f n (suc a)) i 0 < n + suc a = r.1 in (omega (arith, l), omega (arith, u), r.2)
    by_mark false e i h again = let r = again i h in let l : suc a ≤ get_or (kept f n (suc a)) i 0 = r.0 in let u : get_or (kept f n (suc a)) i 0 < n + suc a = r.1 in (omega (arith, l), omega (arith, u), r.2)

  pub kept_rises : (n a i j : ℕ) → i < j → j < length (kept f n a) → get_or (kept f n a) i 0 < get_or (kept f n a) j 0
  kept_rises zero a i j lt h = absurd (omega (arith, h))
  kept_rises (suc n) a i j lt h = by_mark (f a) i j lt h (kept_rises n (suc a)) where
    by_mark : (b : Bool) → (i j : ℕ) → i < j → j < length (if b then a ∷ kept f n (suc a) else kept f n (suc a)) → ((i j : ℕ) → i < j → j < length (kept f n (suc a)) → get_or (kept f n (suc a)) i 0 < get_or (kept f n (suc a)) j 0) →
        get_or (if b then a ∷ kept f n (suc a) else kept f n (suc a)) i 0 < get_or (if b then a ∷ kept f n (suc a) else kept f n (suc a)) j 0
    by_mark true zero zero lt h again = absurd (omega (arith, lt))
    by_mark true zero (suc j) lt h again = let r = kept_at n (suc a) j (omega (arith, h)) in let l : suc a ≤ get_or (kept f n (suc a)) j 0 = r.0 in omega (arith, l)
    by_mark true (suc i) zero lt h again = absurd (omega (arith, lt))
    by_mark true (suc i) (suc j) lt h again = again i j (omega (arith, lt)) (omega (arith, h))
    by_mark false i j lt h again = again i j lt h

  pub kept_all : (n a k : ℕ) → a ≤ k → k < n + a → f k ≡ true → (i : ℕ) × (i < length (kept f n a)) × (get_or (kept f n a) i 0 ≡ k)
  kept_all zero a k l u e = absurd (omega (arith, l, u))
  kept_all (suc n) a k l u e = by_mark (f a) refl (kept_all n (suc a) k) where
    by_mark : (b : Bool) → f a ≡ b → (suc a ≤ k → k < n + suc a → f k ≡ true → (i : ℕ) × (i < length (kept f n (suc a))) × (get_or (kept f n (suc a)) i 0 ≡ k)) →
        (i : ℕ) × (i < length (if b then a ∷ kept f n (suc a) else kept f n (suc a))) × (get_or (if b then a ∷ kept f n (suc a) else kept f n (suc a)) i 0 ≡ k)
    by_mark true g again = by_place (cases_eq k a) where
      by_place : (k ≡ a) ⊎ (k ≡ a → ⊥) → (i : ℕ) × (i < length (a ∷ kept f n (suc a))) × (get_or (a ∷ kept f n (suc a)) i 0 ≡ k)
      by_place (inl h) = (0, omega arith, sym h)
      by_place (inr h) = let r = again (omega (arith, l, h)) (omega (arith, u)) e in let m : r.0 < length (kept f n (suc a)) = r.1 in (suc r.0, omega (arith, m), r.2)
    by_mark false g again = again (other (cases_eq k a)) (omega (arith, u)) e where
      clash : true ≡ false → ⊥
      clash z = cc

      other : (k ≡ a) ⊎ (k ≡ a → ⊥) → suc a ≤ k
      other (inl h) = absurd (clash (sym e ∙ ap f h ∙ g))
      other (inr h) = omega (arith, l, h)

in_list : (xs : List ℕ) (i k : ℕ) → i < length xs → get_or xs i 0 ≡ k → Contains xs k
in_list xs i k h e = (i, h, get_or_default_zero xs i k h ∙ e)

from_list : (xs : List ℕ) (k : ℕ) → Contains xs k → (i : ℕ) × (i < length xs) × (get_or xs i 0 ≡ k)
from_list xs k h = (h.0, h.1, sym (get_or_default_zero xs h.0 k h.1) ∙ h.2)

-- a mark is true of somebody exactly where the list has somebody
pub none_listed : (f : ℕ → Bool) (total : ℕ) (xs : List ℕ) → xs ≡ kept f total 0 → length xs ≡ 0 → (k : ℕ) → k < total → f k ≡ true → ⊥
none_listed f total xs is none k h e =
    let r = kept_all f total 0 k (omega arith) (omega (arith, h)) e in
    let m : r.0 < length (kept f total 0) = r.1 in
    let n : length xs ≡ length (kept f total 0) = ap length is in
    omega (arith, m, n, none)

pub some_listed : (f : ℕ → Bool) (total : ℕ) (xs : List ℕ) → xs ≡ kept f total 0 → 0 < length xs → (k : ℕ) × (k < total) × (f k ≡ true)
some_listed f total xs is some =
    let r = kept_at f total 0 0 (subst (λ (ys : List ℕ). 0 < length ys) is some) in
    let u : get_or (kept f total 0) 0 0 < total + 0 = r.1 in
    (get_or (kept f total 0) 0 0, omega (arith, u), r.2)

-- the list of ready ranks
pub ready_list : (x : Seen) (sequence : Sequence) → IsReadied x → IsReadyList (family (program x.state) x.state.n sequence) (world_of x.state) x.ready.list
ready_list x sequence h = subst (λ (xs : List ℕ). IsReadyList (family (program x.state) x.state.n sequence) (world_of x.state) xs) (sym exact) (record {
  ascends = kept_rises (can x.state) (total_of x.state) 0;
  ready = λ r m. ready r (from_list (kept (can x.state) (total_of x.state) 0) r m);
  all = λ r lt step. let k = kept_all (can x.state) (total_of x.state) 0 r (omega arith) (omega (arith, lt)) (can_of x.state r sequence h.state step) in in_list (kept (can x.state) (total_of x.state) 0) k.0 r k.1 k.2;
}) where
  exact : x.ready.list ≡ kept (can x.state) (total_of x.state) 0
  exact = h.exact ∙ ap (λ (n : ℕ). kept (can x.state) n 0) h.total

  ready : (r : ℕ) → (i : ℕ) × (i < length (kept (can x.state) (total_of x.state) 0)) × (get_or (kept (can x.state) (total_of x.state) 0) i 0 ≡ r) → (r < total_of x.state) × W.CanStep (family (program x.state) x.state.n sequence) (world_of x.state) r
  ready r m =
      let k = kept_at (can x.state) (total_of x.state) 0 m.0 m.1 in
      let u : get_or (kept (can x.state) (total_of x.state) 0) m.0 0 < total_of x.state + 0 = k.1 in
      let e : get_or (kept (can x.state) (total_of x.state) 0) m.0 0 ≡ r = m.2 in
      let lt : r < total_of x.state = omega (arith, u, e) in
      (lt, has_step x.state r h.state lt sequence (ap (can x.state) (sym e) ∙ k.2))

-- a rank that is there and has a step
pub ready_is : (x : Seen) (sequence : Sequence) (r : ℕ) (b : Bool) → IsState x.state → IsTrue b ↔ ((r < total_of x.state) × (can x.state r ≡ true)) → IsTrue b ↔ HasStep x sequence r
ready_is x sequence r b sound h = (
  (λ t. let p = h.0 t in has_step x.state r sound p.0 sequence p.1),
  (λ g. h.1 (within (family (program x.state) x.state.n sequence) (world_of x.state) r g.0 g.1 g.2, can_of x.state r sequence sound g)),
)

pub not_true : (b : Bool) → b ≡ false → IsTrue b → ⊥
not_true true e t = clash e where
  clash : true ≡ false → ⊥
  clash z = cc
not_true false e t = clash t where
  clash : IsTrue false → ⊥
  clash z = cc
