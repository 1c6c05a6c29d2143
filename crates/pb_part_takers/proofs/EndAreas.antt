-- The areas of ends.
use Rattle.std.proofs.Common.{◌≡◌, ℕ, ℤ, pos, negsuc, ◌+ℤ◌, ◌-ℤ◌, ◌≤ℤ◌, ◌<ℤ◌, int_le, int_lt, nat_eq, Bool, true, false, ◌&&◌, if◌then◌else◌, List, Some, None, refl, sym, ap, subst, ◌∙◌, ◌⊎◌, inl, inr, arith}
use Rattle.std.specs.Ordering.{int_eq}
use Rattle.std.proofs.lemmas.Int.{ints}
use Rattle.std.proofs.lemmas.Bool.Decides.{nat_tests}
use Rattle.pb_affine.specs.declared.lin.Lin.{Lin}
use Rattle.pb_affine.specs.declared.range.NRange.{NRange}
use Rattle.pb_affine.specs.Values.{value, shifted}
use Rattle.pb_part_areas.specs.declared.area.Area.{Area}
use Rattle.pb_part_areas.specs.Areas.{has, at, is_param, is_before}
use Rattle.pb_part_areas.specs.Fits.{Fits, IsCutOf, IsEdgeOf}
use Rattle.pb_part_areas.proofs.Meets.{zero_edge, meeting_edge, apart}
use Rattle.pb_core_language.specs.declared.tree.CoreEnd.{CoreEnd}
use Rattle.pb_core_language.specs.Cuts.{edges, end_cuts}
use Rattle.pb_core_language.specs.Sound.{is_small, is_bound}
use Rattle.pb_core_language.specs.declared.tree.Bounds.{Bounds}
use Rattle.pb_core_flat.specs.Meets.{is_met, is_var, is_passed}
use Rattle.pb_part_takers.specs.Ends.{IsEndArea, IsMetArea}
use Rattle.pb_part_takers.specs.Sums.{IsSum}
use Rattle.pb_part_takers.proofs.Among.{near, cut_of, bound_parts, end_still, end_moving, still_end, end_alike, over_base, among_right}

-- ---- sums

pub next_is : (l m : Lin) → IsSum l (pos 1) m → negsuc 999999 ≤ℤ l.off → l.off ≤ℤ pos 1000000 → m ≡ shifted l (pos 1)
next_is l m s low high = s.exact (omega (arith, ints, low)) (omega (arith, ints, high))

pub sum_is : (l m : Lin) (c : ℤ) → IsSum l c m → is_small l.off ≡ true → is_small c ≡ true → m ≡ shifted l c
sum_is l m c s h k =
    let a = near l.off h in
    let b = near c k in
    s.exact (omega (arith, ints, a.low, b.low)) (omega (arith, ints, a.high, b.high))

-- ---- an end that stays

end_ints : (role r : ℕ) (x v w n : ℤ) → w ≡ v +ℤ pos 1 → pos 0 ≤ℤ n → nat_eq role r && int_le v x && int_lt x w && int_le (pos 0) n && true ≡ nat_eq r role && int_eq v x
end_ints role r x v w n e h = grind (arith, ints, nat_tests)

value_next : (l : Lin) (n : ℤ) → value (shifted l (pos 1)) n (pos 0) ≡ value l n (pos 0) +ℤ pos 1
value_next l n = omega (arith, ints)

pub end_is : (e : CoreEnd) (m : Lin) → IsSum e.at (pos 1) m → IsEndArea e (record { role = e.role; low = e.at; end = m; from = 0; until = None })
end_is e m s = record {
  is = λ n role x h small.
      let z = near e.at.off small in
      let k : m ≡ shifted e.at (pos 1) = next_is e.at m s (omega (arith, ints, z.low)) (omega (arith, ints, z.high)) in
      end_ints role e.role x (value e.at n (pos 0)) (at m n) n (ap (λ w. at w n) k ∙ value_next e.at n) h;
  fits = λ range cuts small over among.
      let z = near e.at.off small in
      let k : m ≡ shifted e.at (pos 1) = next_is e.at m s (omega (arith, ints, z.low)) (omega (arith, ints, z.high)) in
      let two = end_still None e cuts (still_end e over) among in
      record {
        low = cut_of cuts e.at two.0 over (omega (arith, ints, z.low)) (omega (arith, ints, z.high));
        end = subst (IsCutOf cuts) (sym k) (cut_of cuts (shifted e.at (pos 1)) two.1 over (omega (arith, ints, z.low)) (omega (arith, ints, z.high)));
        from = zero_edge range cuts;
        until = tt;
      };
}

-- ---- an end that moves

moving_ints : (role r : ℕ) (x lo hi c v w n : ℤ) → v ≡ lo +ℤ c → w ≡ (hi +ℤ c) +ℤ pos 1 → pos 0 ≤ℤ n →
    nat_eq role r && int_le v x && int_lt x w && int_le (pos 0) n && true ≡ nat_eq r role && (int_le (lo +ℤ c) x && int_le x (hi +ℤ c))
moving_ints role r x lo hi c v w n ev ew h = grind (arith, ints, nat_tests)

value_moved : (l : Lin) (c n : ℤ) → value (shifted l c) n (pos 0) ≡ value l n (pos 0) +ℤ c
value_moved l c n = omega (arith, ints)

value_after : (l : Lin) (c n : ℤ) → value (shifted (shifted l c) (pos 1)) n (pos 0) ≡ (value l n (pos 0) +ℤ c) +ℤ pos 1
value_after l c n = omega (arith, ints)

record IsMovedEnds (k : Bounds) (e : CoreEnd) (low end : Lin) : Type 0 where
  low_is : low ≡ shifted k.low e.at.off
  end_is : end ≡ shifted (shifted k.high e.at.off) (pos 1)

moved_ends : (k : Bounds) (e : CoreEnd) (low high end : Lin) → IsSum k.low e.at.off low → IsSum k.high e.at.off high → IsSum high (pos 1) end →
    is_bound k.low ≡ true → is_bound k.high ≡ true → is_small e.at.off ≡ true → IsMovedEnds k e low end
moved_ends k e low high end sl sh se bl bh small =
    let hl = bound_parts k.low bl in
    let hh = bound_parts k.high bh in
    let a = near k.high.off hh.1 in
    let b = near e.at.off small in
    let eh : high ≡ shifted k.high e.at.off = sum_is k.high high e.at.off sh hh.1 small in
    let off : high.off ≡ k.high.off +ℤ e.at.off = ap (λ l. l.off) eh in
    record {
      low_is = sum_is k.low low e.at.off sl hl.1 small;
      end_is = next_is high end se (omega (arith, ints, a.low, b.low, off)) (omega (arith, ints, a.high, b.high, off)) ∙ ap (λ l. shifted l (pos 1)) eh;
    }

met_moving : (e : CoreEnd) (lo hi n : ℤ) (role : ℕ) (x : ℤ) → is_var e.at.base ≡ true → nat_eq e.role role && is_passed e.at.off lo hi x ≡ is_met e lo hi n role x
met_moving e lo hi n role x v = ap (λ b. nat_eq e.role role && (if b then is_passed e.at.off lo hi x else int_le lo hi && int_eq (value e.at n (pos 0)) x)) (sym v)

pub moving_is : (k : Bounds) (e : CoreEnd) (low high end : Lin) → is_var e.at.base ≡ true → IsSum k.low e.at.off low → IsSum k.high e.at.off high → IsSum high (pos 1) end →
    IsMetArea k e (record { role = e.role; low = low; end = end; from = 0; until = None })
moving_is k e low high end v sl sh se = record {
  is = λ n role x h bl bh small.
      let m = moved_ends k e low high end sl sh se bl bh small in
      moving_ints role e.role x (value k.low n (pos 0)) (value k.high n (pos 0)) e.at.off (at low n) (at end n) n
      (ap (λ l. at l n) m.low_is ∙ value_moved k.low e.at.off n) (ap (λ l. at l n) m.end_is ∙ value_after k.high e.at.off n) h
      ∙ met_moving e (value k.low n (pos 0)) (value k.high n (pos 0)) n role x v;
  fits = λ range cuts bl bh small among.
      let m = moved_ends k e low high end sl sh se bl bh small in
      let hl = bound_parts k.low bl in
      let hh = bound_parts k.high bh in
      let a = near k.low.off hl.1 in
      let b = near k.high.off hh.1 in
      let d = near e.at.off small in
      let two = end_moving k e cuts v (among_right (edges k.low k.high) (end_cuts (Some k) e) cuts among) in
      record {
        low = subst (IsCutOf cuts) (sym m.low_is) (cut_of cuts (shifted k.low e.at.off) two.0 hl.0 (omega (arith, ints, a.low, d.low)) (omega (arith, ints, a.high, d.high)));
        end = subst (IsCutOf cuts) (sym m.end_is) (cut_of cuts (shifted (shifted k.high e.at.off) (pos 1)) two.1 hh.0 (omega (arith, ints, b.low, d.low)) (omega (arith, ints, b.high, d.high)));
        from = zero_edge range cuts;
        until = tt;
      };
}

-- ---- where there is some value

still_bools : (r a v lo : Bool) → (r && a) && lo ≡ r && (lo && a)
still_bools true true v true = refl
still_bools true true v false = refl
still_bools true false v true = refl
still_bools true false v false = refl
still_bools false a v lo = refl

met_still : (e : CoreEnd) (lo hi n : ℤ) (role : ℕ) (x : ℤ) → is_var e.at.base ≡ false → nat_eq e.role role && (int_le lo hi && int_eq (value e.at n (pos 0)) x) ≡ is_met e lo hi n role x
met_still e lo hi n role x v = ap (λ b. nat_eq e.role role && (if b then is_passed e.at.off lo hi x else int_le lo hi && int_eq (value e.at n (pos 0)) x)) (sym v)

pub still_is : (k : Bounds) (e : CoreEnd) (a b : Area) → is_var e.at.base ≡ false → IsEndArea e a →
    ((n : ℤ) (role : ℕ) (x : ℤ) → is_small k.high.off ≡ true → has b n role x ≡ has a n role x && int_le (at k.low n) (at k.high n)) →
    ((range : NRange) (cuts : List Lin) → is_small k.high.off ≡ true → Fits range cuts a → IsCutOf cuts k.low → IsCutOf cuts (shifted k.high (pos 1)) → Fits range cuts b) →
    IsMetArea k e b
still_is k e a b v ea is fits = record {
  is = λ n role x h bl bh small.
      let lo : ℤ = value k.low n (pos 0) in
      let hi : ℤ = value k.high n (pos 0) in
      is n role x (bound_parts k.high bh).1
      ∙ ap (λ z. z && int_le lo hi) (ea.is n role x h small)
      ∙ still_bools (nat_eq e.role role) (int_eq (value e.at n (pos 0)) x) true (int_le lo hi)
      ∙ met_still e lo hi n role x v;
  fits = λ range cuts bl bh small among.
      let hl = bound_parts k.low bl in
      let hh = bound_parts k.high bh in
      let p = near k.low.off hl.1 in
      let q = near k.high.off hh.1 in
      let rest = among_right (edges k.low k.high) (end_cuts (Some k) e) cuts among in
      fits range cuts hh.1 (ea.fits range cuts small (over_base e.at.base v) (end_alike k e cuts v rest))
      (cut_of cuts k.low among.0 hl.0 (omega (arith, ints, p.low)) (omega (arith, ints, p.high)))
      (cut_of cuts (shifted k.high (pos 1)) among.1.0 hh.0 (omega (arith, ints, q.low)) (omega (arith, ints, q.high)));
}

-- ---- for the N at which there is some value

had_from : (p u : Bool) (from : ℕ) (n : ℤ) → p && int_le (pos from) n && u ≡ true → pos 0 ≤ℤ n
had_from p u from n h = grind (arith, ints, nat_tests)

pub has_from_zero : (a : Area) (n : ℤ) (role : ℕ) (x : ℤ) → has a n role x ≡ true → pos 0 ≤ℤ n
has_from_zero a n role x h = had_from (nat_eq role a.role && int_le (at a.low n) x && int_lt x (at a.end n)) (is_before n a.until) a.from n h

some_bools : (a : Bool) (l h p q : ℤ) → l ≤ℤ h → p -ℤ l ≡ q -ℤ h → a ≡ a && int_le p q
some_bools a l h p q le e = grind (arith, ints, nat_tests)

none_bools : (a b : Bool) (l h p q : ℤ) → h <ℤ l → p -ℤ l ≡ q -ℤ h → b ≡ false → b ≡ a && int_le p q
none_bools a b l h p q le e f = grind (arith, ints, nat_tests)

until_bools : (a b : Bool) (t : ℕ) (n low high end : ℤ) → (a ≡ true → pos 0 ≤ℤ n) → b ≡ a && int_lt n (pos t) → int_le (pos t) n ≡ int_le (pos 0) n && int_le end low → end ≡ high +ℤ pos 1 →
    b ≡ a && int_le low high
until_bools a b t n low high end z eb et ee = grind (arith, ints, nat_tests)

since_bools : (a b : Bool) (t : ℕ) (n low high : ℤ) → (a ≡ true → pos 0 ≤ℤ n) → b ≡ a && int_le (pos t) n → int_le (pos t) n ≡ int_le (pos 0) n && int_le low high →
    b ≡ a && int_le low high
since_bools a b t n low high z eb et = grind (arith, ints, nat_tests)

pub some_same : (a : Area) (k : Bounds) (end : Lin) → IsSum k.high (pos 1) end → is_param k.low.base ≡ is_param end.base → k.low.off ≤ℤ k.high.off →
    (n : ℤ) (role : ℕ) (x : ℤ) → has a n role x ≡ has a n role x && int_le (at k.low n) (at k.high n)
some_same a k end s same le n role x =
    some_bools (has a n role x) k.low.off k.high.off (at k.low n) (at k.high n) le (apart k.low k.high n (same ∙ ap is_param s.base))

pub none_same : (a b : Area) (k : Bounds) (end : Lin) → IsSum k.high (pos 1) end → is_param k.low.base ≡ is_param end.base → k.high.off <ℤ k.low.off →
    ((n : ℤ) (role : ℕ) (x : ℤ) → has b n role x ≡ false) →
    (n : ℤ) (role : ℕ) (x : ℤ) → has b n role x ≡ has a n role x && int_le (at k.low n) (at k.high n)
none_same a b k end s same lt none n role x =
    none_bools (has a n role x) (has b n role x) k.low.off k.high.off (at k.low n) (at k.high n) lt (apart k.low k.high n (same ∙ ap is_param s.base)) (none n role x)

after_is : (k : Bounds) (end : Lin) → IsSum k.high (pos 1) end → is_small k.high.off ≡ true → end ≡ shifted k.high (pos 1)
after_is k end s small = let z = near k.high.off small in next_is k.high end s (omega (arith, ints, z.low)) (omega (arith, ints, z.high))

pub some_until : (a b : Area) (k : Bounds) (end : Lin) (t : ℕ) → IsSum k.high (pos 1) end →
    ((n : ℤ) (role : ℕ) (x : ℤ) → has b n role x ≡ has a n role x && int_lt n (pos t)) →
    ((n : ℤ) → int_le (pos t) n ≡ int_le (pos 0) n && int_le (at end n) (at k.low n)) →
    (n : ℤ) (role : ℕ) (x : ℤ) → is_small k.high.off ≡ true → has b n role x ≡ has a n role x && int_le (at k.low n) (at k.high n)
some_until a b k end t s is meet n role x small =
    until_bools (has a n role x) (has b n role x) t n (at k.low n) (at k.high n) (at end n) (has_from_zero a n role x) (is n role x) (meet n)
    (ap (λ l. at l n) (after_is k end s small) ∙ value_next k.high n)

pub some_since : (a b : Area) (k : Bounds) (t : ℕ) →
    ((n : ℤ) (role : ℕ) (x : ℤ) → has b n role x ≡ has a n role x && int_le (pos t) n) →
    ((n : ℤ) → int_le (pos t) n ≡ int_le (pos 0) n && int_le (at k.low n) (at k.high n)) →
    (n : ℤ) (role : ℕ) (x : ℤ) → has b n role x ≡ has a n role x && int_le (at k.low n) (at k.high n)
some_since a b k t is meet n role x = since_bools (has a n role x) (has b n role x) t n (at k.low n) (at k.high n) (has_from_zero a n role x) (is n role x) (meet n)

pub until_edge : (range : NRange) (cuts : List Lin) (k : Bounds) (end : Lin) (t : ℕ) → IsSum k.high (pos 1) end → is_small k.high.off ≡ true → IsCutOf cuts k.low → IsCutOf cuts (shifted k.high (pos 1)) →
    (IsCutOf cuts end → IsCutOf cuts k.low → IsEdgeOf range cuts (pos t)) → IsEdgeOf range cuts (pos t)
until_edge range cuts k end t s small low next edge = edge (subst (IsCutOf cuts) (sym (after_is k end s small)) next) low

one_further : (l h : ℤ) → l -ℤ h ≡ (l -ℤ (h +ℤ pos 1)) +ℤ pos 1
one_further l h = omega (arith, ints)

pub since_edge : (range : NRange) (cuts : List Lin) (k : Bounds) (t : ℕ) → is_param k.low.base ≡ false → is_param k.high.base ≡ true → IsCutOf cuts k.low → IsCutOf cuts (shifted k.high (pos 1)) →
    (t ≡ 0) ⊎ (pos t ≡ k.low.off -ℤ k.high.off) → IsEdgeOf range cuts (pos t)
since_edge range cuts k t still grows low next (inl e) = subst (λ z. IsEdgeOf range cuts (pos z)) (sym e) (zero_edge range cuts)
since_edge range cuts k t still grows low next (inr e) =
    meeting_edge range cuts k.low (shifted k.high (pos 1)) (pos t) low next still grows (inr (e ∙ one_further k.low.off k.high.off))
