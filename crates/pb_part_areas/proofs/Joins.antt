-- Two areas as one.
use Rattle.std.proofs.Common.{◌≡◌, ◌<◌, ℕ, zero, suc, ℤ, pos, Bool, true, ◌&&◌, ◌||◌, int_le, int_lt, nat_eq, arith, ap, ap₂, sym, subst, ◌∙◌, List, [], ◌∷◌, take, drop, length, get_or, Option, Some, None}
use Rattle.std.specs.List.{All, remove}
use Rattle.std.specs.Option.{IfSome}
use Rattle.std.proofs.lemmas.List.Elements.{All-append, All-take, All-drop}
use Rattle.std.proofs.Math.Bool.{or_comm}
use Rattle.pb_affine.specs.declared.lin.Lin.{Lin}
use Rattle.pb_affine.specs.declared.range.NRange.{NRange}
use Rattle.pb_part_areas.specs.declared.area.Area.{Area}
use Rattle.pb_part_areas.specs.Areas.{has, have, at, is_before, IsUpright}
use Rattle.pb_part_areas.specs.Fits.{Fits}
use Rattle.pb_part_areas.specs.Joins.{blank, IsUnion, IsJoin}
use Rattle.pb_part_areas.proofs.Bools as bools

pub beside : (a b : Area) → a.role ≡ b.role → a.end ≡ b.low → a.from ≡ b.from → a.until ≡ b.until → IsUpright a → IsUpright b → IsUnion a b (record a { end = b.end })
beside a b er el ef eu ua ub = record {
  is = λ n role x. bools.side_by_side_of (nat_eq role a.role) (nat_eq role b.role) (int_le (pos a.from) n) (int_le (pos b.from) n) (is_before n a.until) (is_before n b.until)
      x (at a.low n) (at a.end n) (at b.low n) (at b.end n)
      (ap (nat_eq role) er) (ap (λ z. at z n) el) (ap (λ z. int_le (pos z) n) ef) (ap (is_before n) eu) (ua.upright n) (ub.upright n);
  fits = λ range cuts fa fb. record { low = fa.low; end = fb.end; from = fa.from; until = fa.until };
}

follow_is : (p p2 : Bool) (n : ℤ) (from m : ℕ) (until end : Option ℕ) → p ≡ p2 → until ≡ Some m → from < m → IfSome end (λ e. m < e) →
    p && int_le (pos from) n && is_before n end ≡ (p && int_le (pos from) n && is_before n until) || (p2 && int_le (pos m) n && is_before n end)
follow_is p p2 n from m until None ep eu h k =
    bools.one_after_other_open p n from m h ∙ ap₂ (λ y z. (p && int_le (pos from) n && is_before n y) || (z && int_le (pos m) n && true)) (sym eu) ep
follow_is p p2 n from m until (Some e) ep eu h k =
    bools.one_after_other p n from m e h k ∙ ap₂ (λ y z. (p && int_le (pos from) n && is_before n y) || (z && int_le (pos m) n && int_lt n (pos e))) (sym eu) ep

same_place : (role : ℕ) (x n : ℤ) (a b : Area) → a.role ≡ b.role → a.low ≡ b.low → a.end ≡ b.end →
    nat_eq role a.role && int_le (at a.low n) x && int_lt x (at a.end n) ≡ nat_eq role b.role && int_le (at b.low n) x && int_lt x (at b.end n)
same_place role x n a b er el ee =
    ap₂ (λ y z. y && z) (ap₂ (λ y z. nat_eq role y && int_le (at z n) x) er el) (ap (λ z. int_lt x (at z n)) ee)

first_some : (from m : ℕ) (until : Option ℕ) → until ≡ Some m → IfSome until (λ e. from < e) → from < m
first_some from m until e h = subst (λ z. IfSome z (λ e. from < e)) e h

pub behind : (a b : Area) → a.role ≡ b.role → a.low ≡ b.low → a.end ≡ b.end → a.until ≡ Some b.from → IfSome a.until (λ e. a.from < e) → IfSome b.until (λ e. b.from < e) →
    IsUnion a b (record a { until = b.until })
behind a b er el ee eu oa ob = record {
  is = λ n role x. follow_is (nat_eq role a.role && int_le (at a.low n) x && int_lt x (at a.end n)) (nat_eq role b.role && int_le (at b.low n) x && int_lt x (at b.end n))
      n a.from b.from a.until b.until (same_place role x n a b er el ee) eu (first_some a.from b.from a.until eu oa) ob;
  fits = λ range cuts fa fb. record { low = fa.low; end = fa.end; from = fa.from; until = fb.until };
}

pub exchanged : (a b m : Area) → IsUnion b a m → IsUnion a b m
exchanged a b m u = record {
  is = λ n role x. u.is n role x ∙ or_comm (has b n role x) (has a n role x);
  fits = λ range cuts fa fb. u.fits range cuts fb fa;
}

-- ---- in a list

or_moved : (h g y z : Bool) → y ≡ z || g → h || y ≡ (h || z) || g
or_moved h g y z e = ap (λ w. h || w) e ∙ bools.or_assoc h z g

pub have_removed : (xs : List Area) (i : ℕ) → i < length xs → (n : ℤ) (role : ℕ) (x : ℤ) → have xs n role x ≡ have (remove xs i) n role x || has (get_or xs i blank) n role x
have_removed [] i lt n role x = absurd (omega (arith, lt))
have_removed (a ∷ xs) zero lt n role x = or_comm (has a n role x) (have xs n role x)
have_removed (a ∷ xs) (suc i) lt n role x = or_moved (has a n role x) (has (get_or xs i blank) n role x) _ _ (have_removed xs i (omega (arith, lt)) n role x)

pub join_is : (xs ys : List Area) (i : ℕ) (last m : Area) → IsJoin xs last i m → ys ≡ remove xs i → (n : ℤ) (role : ℕ) (x : ℤ) (o : Bool) →
    have xs n role x || has last n role x ≡ o → have ys n role x || has m n role x ≡ o
join_is xs ys i last m j e n role x o h =
    bools.joined_bools (have xs n role x) (have ys n role x) (has (get_or xs i blank) n role x) (has last n role x) (has m n role x) o
    (have_removed xs i j.within n role x ∙ ap (λ z. have z n role x || has (get_or xs i blank) n role x) (sym e)) (j.union.is n role x) h

pub All_removed : (range : NRange) (cuts : List Lin) (xs ys : List Area) (i : ℕ) → ys ≡ remove xs i → All (Fits range cuts) xs → All (Fits range cuts) ys
All_removed range cuts xs ys i e h =
    subst (All (Fits range cuts)) (sym e) (All-append (Fits range cuts) (take i xs) (drop (suc i) xs) (All-take (Fits range cuts) i xs h) (All-drop (Fits range cuts) (suc i) xs h))

pub join_fits : (range : NRange) (cuts : List Lin) (xs : List Area) (i : ℕ) (last m : Area) → IsJoin xs last i m → All (Fits range cuts) xs → Fits range cuts last → Fits range cuts m
join_fits range cuts xs i last m j h f = j.union.fits range cuts (h i blank j.within) f
