-- Numbers that a rank computes are int32s.
use Rattle.std.proofs.Common.{◌≡◌, ◌^◌, ℤ, pos, negsuc, ◌+ℤ◌, ◌≤ℤ◌, Bool, true, false, nat_eq, if◌then◌else◌, Option, Some, None, List, [], ◌∷◌, ◌++◌, All, refl, lt-ltb, arith}
use Rattle.std.proofs.lemmas.Int.{ints}
use Rattle.std.proofs.lemmas.List.Elements.{All-head, All-tail}
use Rattle.std.proofs.lemmas.Bool.{and_parts}
use Rattle.pb_affine.specs.declared.lin.Base.{Base}
use Rattle.pb_affine.specs.declared.lin.Base.TheVariants.{Fixed, Param, Var}
use Rattle.pb_affine.specs.declared.lin.Lin.{Lin}
use Rattle.pb_affine.specs.declared.guard.Guard.{Guard}
use Rattle.pb_affine.specs.Values.{value, base_value, is_at_least, IsSmall, IsSmallIf}
use Rattle.pb_local.specs.Ranks.{Seat}
use Rattle.pb_local.specs.Tree.{Program}
use Rattle.pb_local.specs.Computed.{fits, all_fit, end_numbers, guard_numbers, is_for, numbers_of}
use Rattle.pb_local.specs.WellMade.{IsGuard, AreGuards}
use Rattle.pb_shape.specs.Straight.{IsVariable}

-- a value of N
pub record IsSize (n : ℤ) : Type 0 where
  pub low : pos 1 ≤ℤ n
  pub high : n ≤ℤ pos 2012900000

pub fits_is : (x : ℤ) → negsuc 2147483647 ≤ℤ x → x ≤ℤ pos 2147483647 → fits x ≡ true
fits_is (pos n) l u = lt-ltb n (2 ^ 31) (omega (arith, ints, u))
fits_is (negsuc n) l u = lt-ltb n (2 ^ 31) (omega (arith, ints, l))

module _ (l : Program) (n : ℤ) (me : Seat) (i : ℤ) (size : IsSize n) (near : IsVariable i) where
  pub value_fits : (e : Lin) → IsSmall e.off → fits (value e n i) ≡ true
  value_fits e s = at e.base e.off s
    where
      at : (b : Base) (off : ℤ) → IsSmall off → fits (off +ℤ base_value b n i) ≡ true
      at Fixed off s = fits_is (off +ℤ pos 0) (omega (arith, ints, s.low, s.high)) (omega (arith, ints, s.low, s.high))
      at Param off s = fits_is (off +ℤ n) (omega (arith, ints, s.low, s.high, size.low, size.high)) (omega (arith, ints, s.low, s.high, size.low, size.high))
      at Var off s = fits_is (off +ℤ i) (omega (arith, ints, s.low, s.high, near.low, near.high)) (omega (arith, ints, s.low, s.high, near.low, near.high))

  end_fits : (b : Option Lin) → IsSmallIf b → all_fit (end_numbers n me i b) ≡ true
  end_fits None s = refl
  end_fits (Some e) s = rw (value_fits e s) refl

  both_fit : (xs ys : List ℤ) → all_fit xs ≡ true → all_fit ys ≡ true → all_fit (xs ++ ys) ≡ true
  both_fit [] ys a b = b
  both_fit (x ∷ xs) ys a b = rw ((and_parts (fits x) (all_fit xs) a).0, both_fit xs ys (and_parts (fits x) (all_fit xs) a).1 b) refl

  if_fits : (b : Bool) (xs ys : List ℤ) → all_fit xs ≡ true → all_fit ys ≡ true → all_fit (if b then xs else ys) ≡ true
  if_fits true xs ys a b = a
  if_fits false xs ys a b = b

  pub guard_fits : (g : Guard) → IsGuard l g → all_fit (guard_numbers n me i g) ≡ true
  guard_fits g h =
      if_fits (nat_eq me.role g.role) _ [] (both_fit (end_numbers n me i g.low) (if is_at_least me.index g.low n i then end_numbers n me i g.high else [])
      (end_fits g.low h.small.low) (if_fits (is_at_least me.index g.low n i) _ [] (end_fits g.high h.small.high) refl)) refl

  pub each_fits : (gs : List Guard) → All (IsGuard l) gs → all_fit (numbers_of n me i gs) ≡ true
  each_fits [] s = refl
  each_fits (g ∷ gs) s =
      both_fit (guard_numbers n me i g) (if is_for n me i g then [] else numbers_of n me i gs)
      (guard_fits g (All-head (IsGuard l) g gs s)) (if_fits (is_for n me i g) [] (numbers_of n me i gs) refl (each_fits gs (All-tail (IsGuard l) g gs s)))

  pub guards_fit : (gs : List Guard) → AreGuards l gs → all_fit (numbers_of n me i gs) ≡ true
  guards_fit gs s = each_fits gs s.each
