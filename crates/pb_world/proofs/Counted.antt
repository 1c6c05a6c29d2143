-- What a machine does within the bound, the machine that counts does too.
use Rattle.std.proofs.Common.{◌≡◌, ℕ, zero, suc, ◌+◌, ◌<◌, cond, Bool, true, false, ◌&&◌, List, refl, sym, ap, ◌∙◌, subst, nat_le, arith}
use Rattle.std.proofs.lemmas.Bool.Decides.{nat_tests}
use Rattle.pb_world.specs.Actions.{Action}
use Rattle.pb_world.specs.Machine.{Lost, Machine, IsStanding, Follows}
use Rattle.pb_world.specs.Counted.{Counted, is_quiet, one_more, counted, FollowsWithin, stands, ended, silent, act, probe}

below_bound : (b n : ℕ) → n < b → nat_le b n ≡ false
below_bound b n h = grind (arith, nat_tests)

module _ {S : Type 0} (bound : ℕ) (M : Machine S) (allowed : Action → Bool) where
  abbrev at : S → ℕ → Counted S
  at x n = record { state = x; count = n }

  next_below : (x : S) (n : ℕ) → n < bound → (counted bound M).next (at x n) ≡ M.next x
  next_below x n h = ap (λ b. cond (is_quiet (M.next x) && b) Lost (M.next x)) (below_bound bound n h) ∙ go (is_quiet (M.next x))
    where
      go : (q : Bool) → cond (q && false) Lost (M.next x) ≡ M.next x
      go true = refl
      go false = refl

  next_loud : (x : S) (n : ℕ) → is_quiet (M.next x) ≡ false → (counted bound M).next (at x n) ≡ M.next x
  next_loud x n h = ap (λ b. cond (b && nat_le bound n) Lost (M.next x)) h

  pub counts : {k : ℕ} {x : S} {s : List Action} {ends : Bool} (n : ℕ) → n + k ≡ bound → FollowsWithin bound M allowed k x s ends → Follows (counted bound M) allowed (at x n) s ends
  counts {x = x} n e (stands {k = k} h room) =
      Follows.stands (go (is_quiet (M.next x)) refl)
    where
      go : (q : Bool) → is_quiet (M.next x) ≡ q → IsStanding ((counted bound M).next (at x n))
      go true y = subst IsStanding (sym (next_below x n (let r = room y in omega arith))) h
      go false y = subst IsStanding (sym (next_loud x n y)) h
  counts {x = x} n e (ended h) = Follows.ended (next_loud x n (ap is_quiet h) ∙ h)
  counts {x = x} n e (silent {k = k} h f) = Follows.silent (next_below x n (omega arith) ∙ h) (counts (suc n) (omega arith) f)
  counts {x = x} n e (act {k = k} h al f) = Follows.act (next_loud x n (ap is_quiet h) ∙ h) al (counts zero (omega arith) f)
  counts {x = x} n e (probe {k = k} {y = y} h rd f) = Follows.probe (next_below x n (omega arith) ∙ h) (ap (one_more n) rd) (counts (suc n) (omega arith) f)
