-- The ranks that two lists of guards single out.
use Rattle.std.specs.Prelude.{◌≡◌, ℕ, ℤ, pos, ◌≤ℤ◌, Bool, true, false, not, ◌&&◌, ◌||◌, nat_lt, nat_eq, int_lt, List}
use Rattle.pb_affine.specs.declared.guard.Guard.{Guard}
use Rattle.pb_affine.specs.declared.range.NRange.{NRange}
use Rattle.pb_affine.specs.Values.{hold}
use Rattle.pb_cases.specs.declared.region.Wanted.{Wanted}
use Rattle.pb_cases.specs.declared.region.Wanted.TheVariants.{Both, FirstAlone}
use Rattle.pb_cases.specs.Breakpoints.{IsInRange}

-- some guard of the first list holds, and none of the second
abbrev pub is_bad : List Guard → List Guard → ℤ → ℕ → ℤ → Bool
is_bad inside outside n role index = hold inside n (pos 0) role index && not (hold outside n (pos 0) role index)

-- some guard of each list holds
abbrev pub is_meet : List Guard → List Guard → ℤ → ℕ → ℤ → Bool
is_meet a b n role index = hold a n (pos 0) role index && hold b n (pos 0) role index

-- by role, then by index
abbrev pub is_before : ℕ → ℤ → ℕ → ℤ → Bool
is_before r x s y = nat_lt r s || (nat_eq r s && int_lt x y)

pub record IsFirst (range : NRange) (region : ℤ → ℕ → ℤ → Bool) (n : ℤ) (role : ℕ) (index : ℤ) : Type 0 where
  pub in_range : IsInRange range n
  pub there : region n role index ≡ true
  pub least_n : (m : ℤ) (r : ℕ) (x : ℤ) → IsInRange range m → region m r x ≡ true → n ≤ℤ m
  pub least_rank : (r : ℕ) (x : ℤ) → region n r x ≡ true → is_before r x role index ≡ false

pub record IsNowhere (range : NRange) (region : ℤ → ℕ → ℤ → Bool) : Type 0 where
  pub none : (n : ℤ) (r : ℕ) (x : ℤ) → IsInRange range n → region n r x ≡ true → ⊥

-- the ranks that are wanted
abbrev pub is_wanted : Wanted → List Guard → List Guard → ℤ → ℕ → ℤ → Bool
is_wanted Both a b n role index = is_meet a b n role index
is_wanted FirstAlone a b n role index = is_bad a b n role index
