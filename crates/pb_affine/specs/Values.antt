-- The value of a lin, and the ranks of which a guard holds.
use Rattle.std.specs.Prelude.{ℕ, zero, suc, ◌-◌, ◌^◌, ℤ, pos, negsuc, ◌+ℤ◌, ◌-ℤ◌, ◌≤ℤ◌, Bool, true, false, ◌&&◌, ◌||◌, nat_eq, int_le, Option, Some, None, List, [], ◌∷◌}
use Rattle.pb_text.specs.declared.limits.TheConstants.{LEAST_OFFSET, MOST_OFFSET}
use Rattle.pb_affine.specs.declared.lin.Base.{Base}
use Rattle.pb_affine.specs.declared.lin.Base.TheVariants.{Fixed, Param, Var}
use Rattle.pb_affine.specs.declared.lin.Lin.{Lin}
use Rattle.pb_affine.specs.declared.guard.Guard.{Guard}

-- what a base adds
abbrev pub base_value : Base → ℤ → ℤ → ℤ
base_value Fixed n i = pos 0
base_value Param n i = n
base_value Var n i = i

-- the value of a lin at N = n and with i for the variable
abbrev pub value : Lin → ℤ → ℤ → ℤ
value l n i = l.off +ℤ base_value l.base n i

-- a lower bound that isn't there holds
abbrev pub is_at_least : ℤ → Option Lin → ℤ → ℤ → Bool
is_at_least x None n i = true
is_at_least x (Some l) n i = int_le (value l n i) x

abbrev pub is_at_most : ℤ → Option Lin → ℤ → ℤ → Bool
is_at_most x None n i = true
is_at_most x (Some l) n i = int_le x (value l n i)

abbrev pub is_from_on : ℤ → Option ℕ → Bool
is_from_on n None = true
is_from_on n (Some a) = int_le (pos a) n

abbrev pub is_up_to : ℤ → Option ℕ → Bool
is_up_to n None = true
is_up_to n (Some b) = int_le n (pos b)

-- the guard holds of the rank with this role and index
abbrev pub holds : Guard → ℤ → ℤ → ℕ → ℤ → Bool
holds g n i role index =
    nat_eq role g.role && is_at_least index g.low n i && is_at_most index g.high n i && is_from_on n g.from && is_up_to n g.to

-- some guard holds
abbrev pub hold : List Guard → ℤ → ℤ → ℕ → ℤ → Bool
hold [] n i role index = false
hold (g ∷ gs) n i role index = holds g n i role index || hold gs n i role index

-- within 2 ^ 40 of zero, and an offset within 1,000,000 of zero
pub record IsNear (x : ℤ) : Type 0 where
  pub low : negsuc (2 ^ 40 - 1) ≤ℤ x
  pub high : x ≤ℤ pos (2 ^ 40)

pub record IsSmall (x : ℤ) : Type 0 where
  pub low : LEAST_OFFSET ≤ℤ x
  pub high : x ≤ℤ MOST_OFFSET

abbrev pub IsSmallIf : Option Lin → Type 0
IsSmallIf None = Unit {0}
IsSmallIf (Some l) = IsSmall l.off

abbrev pub count_of : ℤ → ℕ
count_of (pos n) = n
count_of (negsuc n) = 0

-- n whole numbers from a on
abbrev pub count_from : ℕ → ℤ → List ℤ
count_from zero a = []
count_from (suc n) a = a ∷ count_from n (a +ℤ pos 1)

-- the whole numbers from low to high, ascending
abbrev pub range : ℤ → ℤ → List ℤ
range low high = count_from (count_of (high +ℤ pos 1 -ℤ low)) low

pub record IsSmallGuard (g : Guard) : Type 0 where
  pub low : IsSmallIf g.low
  pub high : IsSmallIf g.high

-- the lin with a number added to its offset
abbrev pub shifted : Lin → ℤ → Lin
shifted l c = record { base = l.base; off = l.off +ℤ c }

-- a lin over the variable, with another lin in the variable's place
abbrev pub put_base : Base → Lin → Lin → Lin
put_base Fixed l by = l
put_base Param l by = l
put_base Var l by = shifted by l.off

abbrev pub put : Lin → Lin → Lin
put l by = put_base l.base l by
