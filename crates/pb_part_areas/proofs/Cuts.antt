-- The parts of an area on the sides of a cut.
use Rattle.std.proofs.Common.{◌≡◌, ℕ, ℤ, pos, false, ◌&&◌, ◌||◌, int_le, int_lt, nat_eq, ap₂, ◌∙◌}
use Rattle.pb_affine.specs.declared.lin.Lin.{Lin}
use Rattle.pb_part_areas.specs.declared.area.Area.{Area}
use Rattle.pb_part_areas.specs.Areas.{has, at, is_before}
use Rattle.pb_part_areas.proofs.Bools as bools

pub end_lowered : (a s : Area) (cut end : Lin) →
    ((n x : ℤ) → int_lt x (at end n) ≡ int_lt x (at a.end n) && int_lt x (at cut n)) →
    ((n : ℤ) (role : ℕ) (x : ℤ) → has s n role x ≡ false) →
    (n : ℤ) (role : ℕ) (x : ℤ) → has (record a { end = end }) n role x || has s n role x ≡ has a n role x && int_lt x (at cut n)
end_lowered a s cut end h e n role x = bools.end_lowered (nat_eq role a.role && int_le (at a.low n) x) (int_le (pos a.from) n) (is_before n a.until) _ _ _ _ (h n x) (e n role x)

pub end_split : (a s b : Area) (cut : Lin) (t : ℕ) →
    ((n : ℤ) (role : ℕ) (x : ℤ) → has s n role x ≡ has a n role x && int_le (pos t) n) →
    ((n : ℤ) (role : ℕ) (x : ℤ) → has b n role x ≡ has (record a { end = cut }) n role x && int_lt n (pos t)) →
    ((n : ℤ) → int_le (pos t) n ≡ int_le (pos 0) n && int_le (at a.end n) (at cut n)) →
    (n : ℤ) (role : ℕ) (x : ℤ) → has s n role x || has b n role x ≡ has a n role x && int_lt x (at cut n)
end_split a s b cut t hs hb h n role x =
    ap₂ (λ y z. y || z) (hs n role x) (hb n role x)
    ∙ bools.end_split (nat_eq role a.role && int_le (at a.low n) x) (is_before n a.until) x (at a.end n) (at cut n) n a.from t (h n)

pub end_split_other : (a s b : Area) (cut : Lin) (t : ℕ) →
    ((n : ℤ) (role : ℕ) (x : ℤ) → has s n role x ≡ has (record a { end = cut }) n role x && int_le (pos t) n) →
    ((n : ℤ) (role : ℕ) (x : ℤ) → has b n role x ≡ has a n role x && int_lt n (pos t)) →
    ((n : ℤ) → int_le (pos t) n ≡ int_le (pos 0) n && int_le (at cut n) (at a.end n)) →
    (n : ℤ) (role : ℕ) (x : ℤ) → has s n role x || has b n role x ≡ has a n role x && int_lt x (at cut n)
end_split_other a s b cut t hs hb h n role x =
    ap₂ (λ y z. y || z) (hs n role x) (hb n role x)
    ∙ bools.end_split_other (nat_eq role a.role && int_le (at a.low n) x) (is_before n a.until) x (at a.end n) (at cut n) n a.from t (h n)

pub low_raised : (a s : Area) (cut low : Lin) →
    ((n x : ℤ) → int_le (at low n) x ≡ int_le (at a.low n) x && int_le (at cut n) x) →
    ((n : ℤ) (role : ℕ) (x : ℤ) → has s n role x ≡ false) →
    (n : ℤ) (role : ℕ) (x : ℤ) → has (record a { low = low }) n role x || has s n role x ≡ has a n role x && int_le (at cut n) x
low_raised a s cut low h e n role x = bools.low_raised (nat_eq role a.role) (int_lt x (at a.end n)) (int_le (pos a.from) n) (is_before n a.until) _ _ _ _ (h n x) (e n role x)

pub low_split : (a s b : Area) (cut : Lin) (t : ℕ) →
    ((n : ℤ) (role : ℕ) (x : ℤ) → has s n role x ≡ has (record a { low = cut }) n role x && int_le (pos t) n) →
    ((n : ℤ) (role : ℕ) (x : ℤ) → has b n role x ≡ has a n role x && int_lt n (pos t)) →
    ((n : ℤ) → int_le (pos t) n ≡ int_le (pos 0) n && int_le (at a.low n) (at cut n)) →
    (n : ℤ) (role : ℕ) (x : ℤ) → has s n role x || has b n role x ≡ has a n role x && int_le (at cut n) x
low_split a s b cut t hs hb h n role x =
    ap₂ (λ y z. y || z) (hs n role x) (hb n role x)
    ∙ bools.low_split (nat_eq role a.role) (int_lt x (at a.end n)) (is_before n a.until) x (at a.low n) (at cut n) n a.from t (h n)

pub low_split_other : (a s b : Area) (cut : Lin) (t : ℕ) →
    ((n : ℤ) (role : ℕ) (x : ℤ) → has s n role x ≡ has a n role x && int_le (pos t) n) →
    ((n : ℤ) (role : ℕ) (x : ℤ) → has b n role x ≡ has (record a { low = cut }) n role x && int_lt n (pos t)) →
    ((n : ℤ) → int_le (pos t) n ≡ int_le (pos 0) n && int_le (at cut n) (at a.low n)) →
    (n : ℤ) (role : ℕ) (x : ℤ) → has s n role x || has b n role x ≡ has a n role x && int_le (at cut n) x
low_split_other a s b cut t hs hb h n role x =
    ap₂ (λ y z. y || z) (hs n role x) (hb n role x)
    ∙ bools.low_split_other (nat_eq role a.role) (int_lt x (at a.end n)) (is_before n a.until) x (at a.low n) (at cut n) n a.from t (h n)

-- ---- without the ends where there are none

pub tight_from : (a s : Area) (t : ℕ) →
    ((n : ℤ) (role : ℕ) (x : ℤ) → has s n role x ≡ has a n role x && int_le (pos t) n) →
    ((n : ℤ) → int_le (pos t) n ≡ int_le (pos 0) n && int_le (at a.low n) (at a.end n)) →
    (n : ℤ) (role : ℕ) (x : ℤ) → has s n role x ≡ has a n role x
tight_from a s t hs h n role x = hs n role x ∙ bools.tight_from (nat_eq role a.role) (is_before n a.until) x (at a.low n) (at a.end n) n a.from t (h n)

pub tight_until : (a s : Area) (t : ℕ) →
    ((n : ℤ) (role : ℕ) (x : ℤ) → has s n role x ≡ has a n role x && int_lt n (pos t)) →
    ((n : ℤ) → int_le (pos t) n ≡ int_le (pos 0) n && int_le (at a.end n) (at a.low n)) →
    (n : ℤ) (role : ℕ) (x : ℤ) → has s n role x ≡ has a n role x
tight_until a s t hs h n role x = hs n role x ∙ bools.tight_until (nat_eq role a.role) (is_before n a.until) x (at a.low n) (at a.end n) n a.from t (h n)
