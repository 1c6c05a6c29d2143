-- Areas as guards.
use Rattle.std.proofs.Common.{◌≡◌, ℤ, pos, negsuc, ◌+ℤ◌, ◌≤ℤ◌, ℕ, Bool, false, ◌||◌, refl, arith, ap, sym, ◌∙◌, List, [], ◌∷◌, ◌++◌, Option, Some, subst}
use Rattle.std.proofs.lemmas.Int.{ints}
use Rattle.std.specs.List.{Contains}
use Rattle.pb_affine.specs.declared.lin.Lin.{Lin}
use Rattle.pb_affine.specs.declared.guard.Guard.{Guard}
use Rattle.pb_affine.specs.declared.range.NRange.{NRange}
use Rattle.pb_affine.specs.Values.{holds, hold, shifted, IsSmall}
use Rattle.pb_cases.specs.Breakpoints.{Division}
use Rattle.pb_cases.specs.Bounds.{IsAligned, IsEdgeIf, after}
use Rattle.pb_part_areas.specs.declared.area.Area.{Area}
use Rattle.pb_part_areas.specs.Fits.{Fits}
use Rattle.pb_part_areas.specs.Small.{IsSmallArea}
use Rattle.pb_part_areas.proofs.Bools as bools

back : (a : ℤ) → (a +ℤ negsuc 0) +ℤ pos 1 ≡ a
back a = omega (arith, ints)

after_before : (l high : Lin) → high ≡ shifted l (negsuc 0) → after high ≡ l
after_before l high e = ap after e ∙ ap (λ (z : ℤ). record { base = l.base; off = z }) (back l.off)

pub aligned : (d : Division) (a : Area) (high : Lin) (from to : Option ℕ) → high ≡ shifted a.end (negsuc 0) → Fits d.range d.cuts a → IsEdgeIf d (pos 0) from → IsEdgeIf d (pos 1) to →
    IsAligned d (record { role = a.role; low = Some a.low; high = Some high; from = from; to = to })
aligned d a high from to e f ef et = record {
  bounded = record { low_is = refl; high_is = refl };
  low_in = f.low.there;
  high_in = subst (λ z. Contains d.cuts z) (sym (after_before a.end high e)) f.end.there;
  from_edge = ef;
  to_edge = et;
}

hold_append : (xs ys : List Guard) (n : ℤ) (role : ℕ) (x : ℤ) → hold (xs ++ ys) n (pos 0) role x ≡ hold xs n (pos 0) role x || hold ys n (pos 0) role x
hold_append [] ys n role x = refl
hold_append (g ∷ xs) ys n role x = ap (λ z. holds g n (pos 0) role x || z) (hold_append xs ys n role x) ∙ bools.or_assoc (holds g n (pos 0) role x) _ _

pub hold_pushed : (xs ys : List Guard) (g : Guard) (h : Bool) (n : ℤ) (role : ℕ) (x : ℤ) → ys ≡ xs ++ g ∷ [] → holds g n (pos 0) role x ≡ h → hold ys n (pos 0) role x ≡ hold xs n (pos 0) role x || h
hold_pushed xs ys g h n role x e eh =
    ap (λ z. hold z n (pos 0) role x) e ∙ hold_append xs (g ∷ []) n role x ∙ ap (λ z. hold xs n (pos 0) role x || z) (sym (bools.or_false (holds g n (pos 0) role x)) ∙ eh)

pub or_nothing : (o h : Bool) → h ≡ false → o ≡ o || h
or_nothing o h e = bools.or_false o ∙ ap (λ z. o || z) (sym e)

one_less : (x : ℤ) → negsuc 999998 ≤ℤ x → x ≤ℤ pos 1000000 → IsSmall (x +ℤ negsuc 0)
one_less x h k = record { low = omega (arith, ints, h); high = omega (arith, ints, k) }

near_zero : (x : ℤ) → negsuc 999998 ≤ℤ x → x ≤ℤ pos 1000000 → IsSmall x
near_zero x h k = record { low = omega (arith, ints, h); high = k }

-- an area that fits can be said by a guard
pub fits_small : (range : NRange) (cuts : List Lin) (a : Area) → Fits range cuts a → IsSmallArea a
fits_small range cuts a f = record { low = near_zero a.low.off f.low.least f.low.most; end = one_less a.end.off f.end.least f.end.most }
