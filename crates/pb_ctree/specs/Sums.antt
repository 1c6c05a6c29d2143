-- How large the sums over roles are.
use Rattle.std.specs.Prelude.{ℕ, ◌*◌, ◌^◌, ℤ, pos, negsuc, ◌-ℤ◌, ◌≤ℤ◌}
use Rattle.pb_affine.specs.Values.{IsSmall}
use Rattle.pb_local.specs.declared.tables.Role.{Role}
use Rattle.pb_ctree.specs.declared.tree.Formula.{Formula}

pub record HasSmallEnds (r : Role) : Type 0 where
  pub low : IsSmall r.low.off
  pub high : IsSmall r.high.off

-- a role adds at most this to a sum
abbrev pub most_added : ℕ
most_added = 2000001

-- so many more roles can be added
pub record HasRoomFor (roles : ℕ) (f : Formula) : Type 0 where
  pub a_low : (pos (most_added * roles) -ℤ pos (2 ^ 40)) ≤ℤ f.a
  pub a_high : f.a ≤ℤ (pos (2 ^ 40) -ℤ pos (most_added * roles))
  pub b_low : (pos (most_added * roles) -ℤ pos (2 ^ 40)) ≤ℤ f.b
  pub b_high : f.b ≤ℤ (pos (2 ^ 40) -ℤ pos (most_added * roles))

abbrev pub HasRoom : Formula → Type 0
HasRoom f = HasRoomFor 0 f

pub record IsWide (x : ℤ) : Type 0 where
  pub low : negsuc (2 ^ 50) ≤ℤ x
  pub high : x ≤ℤ pos (2 ^ 50)
