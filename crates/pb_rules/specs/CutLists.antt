-- Lists of cuts: those whose numbers are small, and those that have the same cuts.
use Rattle.std.specs.Prelude.{◌≡◌, ℤ, pos, negsuc, int_le, Bool, true, ◌&&◌, ◌⊎◌, List, [], ◌∷◌, ◌++◌, map}
use Rattle.std.specs.List.{Contains}
use Rattle.pb_text.specs.declared.limits.TheConstants.{LEAST_OFFSET, MOST_OFFSET}
use Rattle.pb_affine.specs.declared.lin.Base.{Base}
use Rattle.pb_affine.specs.declared.lin.Base.TheVariants.{Fixed, Param}
use Rattle.pb_affine.specs.declared.lin.Lin.{Lin}
use Rattle.pb_core_language.specs.Sound.{is_over_n}
use Rattle.pb_rules.specs.declared.cuts.Wide.{Wide}
use Rattle.pb_rules.specs.declared.offsets.Offsets.{Offsets}

-- no variable, and an offset within 1,000,000 of zero
abbrev pub is_cut : Lin → Bool
is_cut l = is_over_n l.base && (int_le LEAST_OFFSET l.off && int_le l.off MOST_OFFSET)

abbrev pub are_cuts : List Lin → Bool
are_cuts [] = true
are_cuts (l ∷ ls) = is_cut l && are_cuts ls

abbrev pub lin_of : Wide → Lin
lin_of w = record { base = w.base; off = w.off }

-- ---- each cut once

-- the same lins, however often each stands there and in whatever order
pub record HaveSame (xs ys : List Lin) : Type 0 where
  pub only : (l : Lin) → Contains xs l → Contains ys l
  pub all : (l : Lin) → Contains ys l → Contains xs l

-- no lin stands twice
abbrev pub AreApart : List Lin → Type 0
AreApart [] = Unit {0}
AreApart (l ∷ ls) = (Contains ls l → ⊥) × AreApart ls

abbrev pub lin_at : Base → ℤ → Lin
lin_at base off = record { base = base; off = off }

-- the cuts with these offsets
abbrev pub listed : Offsets → List Lin
listed o = map (lin_at Fixed) o.fixed.keys ++ map (lin_at Param) o.moving.keys

-- the cut is there, and else what was there before
pub record IsWith (cut : Lin) (old new : List Lin) : Type 0 where
  pub only : (l : Lin) → Contains new l → Contains old l ⊎ (l ≡ cut)
  pub all : (l : Lin) → Contains old l ⊎ (l ≡ cut) → Contains new l

pub record IsOffsetWith (off : ℤ) (old new : List ℤ) : Type 0 where
  pub only : (x : ℤ) → Contains new x → Contains old x ⊎ (x ≡ off)
  pub all : (x : ℤ) → Contains old x ⊎ (x ≡ off) → Contains new x
