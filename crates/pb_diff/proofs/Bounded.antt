-- A system that is bounded below stays so, and each constraint adds one pair at most.
use Rattle.std.proofs.Common.{◌≡◌, ℕ, ◌+◌, ◌<◌, ◌≤◌, ◌⊎◌, inl, inr, List, length, refl, subst, sym, arith, true}
use borrow.Author.Count.{below_more}
use Rattle.pb_diff.specs.declared.constraint.Constraint.{Constraint}
use Rattle.pb_diff.specs.Systems.{Differences, IsBoundedBelow, with_constraint, has_pair}
use Rattle.pb_diff.proofs.Placed.{with_length, with_pair, with_others}

-- the variables below v have low bounds, and now v too
pub lows_step : (k : Constraint) (xs : List Constraint) (v : ℕ) → 0 ≡ k.a → v ≡ k.b → ((w : ℕ) → 0 < w → w < v → has_pair 0 w xs ≡ true) → (w : ℕ) → 0 < w → w < v + 1 → has_pair 0 w (with_constraint k xs) ≡ true
lows_step k xs v ea eb lows w some lt =
    below_more (λ z. 0 < z → has_pair 0 z (with_constraint k xs) ≡ true) v
    (λ z z_lt z_some. with_others 0 z k xs (lows z z_some z_lt))
    (λ _. subst (λ a. has_pair a v (with_constraint k xs) ≡ true) (sym ea) (subst (λ b. has_pair k.a b (with_constraint k xs) ≡ true) (sym eb) (with_pair k xs)))
    w lt some

pub still_bounded : (d : Differences) (k : Constraint) → IsBoundedBelow d → IsBoundedBelow (record { vars = d.vars; list = with_constraint k d.list })
still_bounded d k low = record { lows = λ v some lt. with_others 0 v k d.list (low.lows v some lt) }

pub record IsGrown (d e : Differences) : Type 0 where
  pub vars : e.vars ≡ d.vars
  pub few : length e.list ≤ length d.list + 1
  pub bounded : IsBoundedBelow e

pub grown : (d e : Differences) (k : Constraint) → e ≡ record { vars = d.vars; list = with_constraint k d.list } → IsBoundedBelow d → IsGrown d e
grown d e k is low = subst (λ x. IsGrown d x) (sym is) (record { vars = refl; few = with_length k d.list; bounded = still_bounded d k low })

pub record HasLowUpTo (d e : Differences) (v : ℕ) : Type 0 where
  pub vars : e.vars ≡ d.vars
  pub few : length e.list ≤ length d.list + 1
  pub lows : (w : ℕ) → 0 < w → w < v + 1 → has_pair 0 w e.list ≡ true

pub low_added : (d e : Differences) (k : Constraint) (v : ℕ) → 0 ≡ k.a → v ≡ k.b → e ≡ record { vars = d.vars; list = with_constraint k d.list } → ((w : ℕ) → 0 < w → w < v → has_pair 0 w d.list ≡ true) → HasLowUpTo d e v
low_added d e k v ea eb is lows = subst (λ x. HasLowUpTo d x v) (sym is) (record { vars = refl; few = with_length k d.list; lows = lows_step k d.list v ea eb lows })
