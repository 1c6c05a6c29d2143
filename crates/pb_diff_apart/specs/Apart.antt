-- The ranks at which two lins differ.
use Rattle.std.specs.Prelude.{◌≡◌, ℕ, ℤ, pos, negsuc, ◌+ℤ◌, ◌≤ℤ◌, Bool, true, not, ◌&&◌, ◌||◌, int_lt, if◌then◌else◌, Option, Some, None}
use Rattle.std.specs.Ordering.{int_eq}
use Rattle.pb_affine.specs.declared.lin.Lin.{Lin}
use Rattle.pb_affine.specs.declared.guard.Guard.{Guard}
use Rattle.pb_affine.specs.declared.range.NRange.{NRange}
use Rattle.pb_affine.specs.Values.{value, holds, shifted}
use Rattle.pb_cases.specs.declared.bad.Bad.{Bad}
use Rattle.pb_cases.specs.Breakpoints.{IsInRange}

-- both guards hold of the rank, and the lins differ there, with the rank's index for their variable
abbrev pub is_apart : Guard → Guard → Lin → Lin → ℤ → ℕ → ℤ → Bool
is_apart g h p q n role index = (holds g n (pos 0) role index && holds h n (pos 0) role index) && not (int_eq (value p n index) (value q n index))

-- the guard holds of the rank, whose index isn't the value of `but`, and the lins differ there
abbrev pub is_apart_other : Guard → Lin → Lin → Lin → ℤ → ℕ → ℤ → Bool
is_apart_other g but p q n role index = (holds g n (pos 0) role index && not (int_eq index (value but n (pos 0)))) && not (int_eq (value p n index) (value q n index))

-- the ranks of the guard's role whose index is below the value of `but`, and those above it
abbrev pub under : Guard → Lin → Guard
under g but = record { role = g.role; low = None; high = Some (shifted but (negsuc 0)); from = None; to = None }

abbrev pub over : Guard → Lin → Guard
over g but = record { role = g.role; low = Some (shifted but (pos 1)); high = None; from = None; to = None }

-- of the ranks of `is_apart` those where the first lin is less than the second than the second
abbrev pub is_below : Guard → Guard → Lin → Lin → ℤ → ℕ → ℤ → Bool
is_below g h p q n role index = (holds g n (pos 0) role index && holds h n (pos 0) role index) && int_lt (value p n index) (value q n index)

-- the same of the first guard's role, part by part
pub record IsPlace (range : NRange) (g h : Guard) (p q : Lin) (n index : ℤ) : Type 0 where
  pub in_range : IsInRange range n
  pub in_g : holds g n (pos 0) g.role index ≡ true
  pub in_h : holds h n (pos 0) h.role index ≡ true
  pub less : (value p n index +ℤ pos 1) ≤ℤ value q n index

-- the earlier of two answers for one role
abbrev pub lesser : Option Bad → Option Bad → Option Bad
lesser None b = b
lesser (Some x) None = Some x
lesser (Some x) (Some y) = if (int_lt x.n y.n || (int_eq x.n y.n && int_lt x.index y.index)) then Some x else Some y
