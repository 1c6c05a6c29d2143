-- Lins that are cuts.
use Rattle.std.proofs.Common.{◌≡◌, ℤ, pos, negsuc, ◌+ℤ◌, ◌≤ℤ◌, true, false, List, [], ◌∷◌, ◌++◌, Option, Some, None, refl, sym, arith}
use Rattle.std.specs.List.{Contains}
use Rattle.std.proofs.lemmas.Int.{ints}
use Rattle.std.proofs.lemmas.Bool.{and_parts, false≢true}
use Rattle.std.proofs.lemmas.Bool.Decides.{nat_tests}
use Rattle.pb_affine.specs.declared.lin.Base.{Base}
use Rattle.pb_affine.specs.declared.lin.Base.TheVariants.{Fixed, Param, Var}
use Rattle.pb_affine.specs.declared.lin.Lin.{Lin}
use Rattle.pb_affine.specs.Values.{shifted}
use Rattle.pb_part_areas.specs.Fits.{IsCutOf}
use Rattle.pb_core_language.specs.declared.tree.CoreEnd.{CoreEnd}
use Rattle.pb_core_language.specs.Cuts.{end_cuts, lin_cuts}
use Rattle.pb_core_language.specs.Sound.{is_small, is_bound, is_over_n}
use Rattle.pb_core_language.specs.declared.tree.Bounds.{Bounds}
use Rattle.pb_core_flat.specs.Meets.{is_var}
use Rattle.pb_part_takers.specs.Pieces.{AreAmong}

pub among_left : (xs ys cuts : List Lin) → AreAmong (xs ++ ys) cuts → AreAmong xs cuts
among_left [] ys cuts h = tt
among_left (x ∷ xs) ys cuts h = (h.0, among_left xs ys cuts h.1)

pub among_right : (xs ys cuts : List Lin) → AreAmong (xs ++ ys) cuts → AreAmong ys cuts
among_right [] ys cuts h = h
among_right (x ∷ xs) ys cuts h = among_right xs ys cuts h.1

pub among_both : (xs ys cuts : List Lin) → AreAmong xs cuts → AreAmong ys cuts → AreAmong (xs ++ ys) cuts
among_both [] ys cuts h k = k
among_both (x ∷ xs) ys cuts h k = (h.0, among_both xs ys cuts h.1 k)

no_var : (b : Base) → is_over_n b ≡ true → b ≡ Var → ⊥
no_var Fixed h e = cc
no_var Param h e = cc
no_var Var h e = false≢true h

still_base : (b : Base) → is_over_n b ≡ true → is_var b ≡ false
still_base Fixed h = refl
still_base Param h = refl
still_base Var h = absurd (false≢true h)

pub over_base : (b : Base) → is_var b ≡ false → is_over_n b ≡ true
over_base Fixed h = refl
over_base Param h = refl
over_base Var h = absurd (false≢true (sym h))

pub cut_of : (cuts : List Lin) (l : Lin) → Contains cuts l → is_over_n l.base ≡ true → negsuc 299999 ≤ℤ l.off → l.off ≤ℤ pos 300000 → IsCutOf cuts l
cut_of cuts l c h low high = record { there = c; no_var = no_var l.base h; least = omega (arith, ints, low); most = omega (arith, ints, high) }

pub record IsNearZero (x : ℤ) : Type 0 where
  pub low : negsuc 99999 ≤ℤ x
  pub high : x ≤ℤ pos 100000

pub near : (x : ℤ) → is_small x ≡ true → IsNearZero x
near x h = record { low = grind (arith, ints, nat_tests); high = grind (arith, ints, nat_tests) }

pub bound_parts : (l : Lin) → is_bound l ≡ true → (is_over_n l.base ≡ true) × (is_small l.off ≡ true)
bound_parts l h = and_parts (is_over_n l.base) (is_small l.off) h

-- an end and the lin behind it, where it doesn't vary
lin_still : (over : Option Bounds) (b : Base) (c : ℤ) (cuts : List Lin) → is_var b ≡ false → AreAmong (lin_cuts over b c) cuts → Contains cuts (record { base = b; off = c }) × Contains cuts (record { base = b; off = c +ℤ pos 1 })
lin_still over Fixed c cuts e h = (h.0, h.1.0)
lin_still over Param c cuts e h = (h.0, h.1.0)
lin_still over Var c cuts e h = absurd (false≢true (sym e))

pub end_still : (over : Option Bounds) (e : CoreEnd) (cuts : List Lin) → is_var e.at.base ≡ false → AreAmong (end_cuts over e) cuts → Contains cuts e.at × Contains cuts (shifted e.at (pos 1))
end_still over e cuts v h = lin_still over e.at.base e.at.off cuts v h

-- and where it varies
lin_moving : (k : Bounds) (b : Base) (c : ℤ) (cuts : List Lin) → is_var b ≡ true → AreAmong (lin_cuts (Some k) b c) cuts → Contains cuts (shifted k.low c) × Contains cuts (shifted (shifted k.high c) (pos 1))
lin_moving k Fixed c cuts e h = absurd (false≢true e)
lin_moving k Param c cuts e h = absurd (false≢true e)
lin_moving k Var c cuts e h = (h.0, h.1.0)

pub end_moving : (k : Bounds) (e : CoreEnd) (cuts : List Lin) → is_var e.at.base ≡ true → AreAmong (end_cuts (Some k) e) cuts → Contains cuts (shifted k.low e.at.off) × Contains cuts (shifted (shifted k.high e.at.off) (pos 1))
end_moving k e cuts v h = lin_moving k e.at.base e.at.off cuts v h

pub still_end : (e : CoreEnd) → is_over_n e.at.base ≡ true → is_var e.at.base ≡ false
still_end e h = still_base e.at.base h

lin_alike : (k : Bounds) (b : Base) (c : ℤ) (cuts : List Lin) → is_var b ≡ false → AreAmong (lin_cuts (Some k) b c) cuts → AreAmong (lin_cuts None b c) cuts
lin_alike k Fixed c cuts e h = h
lin_alike k Param c cuts e h = h
lin_alike k Var c cuts e h = absurd (false≢true (sym e))

pub end_alike : (k : Bounds) (e : CoreEnd) (cuts : List Lin) → is_var e.at.base ≡ false → AreAmong (end_cuts (Some k) e) cuts → AreAmong (end_cuts None e) cuts
end_alike k e cuts v h = lin_alike k e.at.base e.at.off cuts v h
