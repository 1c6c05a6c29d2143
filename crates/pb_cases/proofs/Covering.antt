-- Spans with one more, their greatest high ends, and what covers a number.
use Rattle.std.proofs.Common.{◌≡◌, ◌≢◌, ℕ, ◌+◌, ◌-◌, ◌<◌, ◌≤◌, ℤ, pos, ◌+ℤ◌, ◌≤ℤ◌, ◌<ℤ◌, ◌⊎◌, inl, inr, List, [], ◌∷◌, ◌++◌, set, length, get_or, get_or-set_other, get_or-set_same, length-set, length-append, sym, ap, ◌∙◌, subst, arith}
use Rattle.std.proofs.lemmas.Int.{ints}
use Rattle.std.specs.List.{insert}
use Rattle.std.proofs.lemmas.List.Edits.{length-insert, get_or-insert_below, get_or-insert_at, get_or-insert_above}
use Rattle.std.proofs.lemmas.List.{get_or_append_left}
use Rattle.std.proofs.Math.Seq.{get_or-append_right}
use Rattle.pb_cases.specs.Numbers.{nth}
use Rattle.pb_cases.specs.Spans.{IsCovered, IsSpans, IsTops, IsWithSpan}
use Rattle.pb_cases.proofs.Sorted.{IsSeen, before, here, later, seen, three, beyond, less_or_same}

same_or_not : (j i : ℕ) → (j ≡ i) ⊎ (j ≢ i)
same_or_not j i = grind arith

pub raised_span : (low high top : ℤ) (lows highs : List ℤ) (i : ℕ) → IsSpans lows highs → i < length lows → nth lows i ≡ low → nth highs i ≤ℤ top → high ≤ℤ top → (top ≡ nth highs i) ⊎ (top ≡ high) → IsWithSpan low high lows highs lows (set highs i top)
raised_span low high top lows highs i spans lt is old_le high_le either = record {
  spans = record { ascending = spans.ascending; same = simp length-set spans.same };
  kept = λ x c. record {
    place = c.place;
    within = c.within;
    low = c.low;
    high = elim (same_or_not c.place i) [
      | inl e ↦ subst (λ k. x ≤ℤ nth (set highs i top) k) (sym e) (let le = subst (λ k. x ≤ℤ nth highs k) e c.high in rw same (omega (arith, ints, le, old_le)))
      | inr ne ↦ rw (get_or-set_other highs i c.place top (pos 0) ne) c.high
    ];
  };
  own = λ x l h. record { place = i; within = lt; low = omega (arith, ints, is, l); high = rw same (omega (arith, ints, h, high_le)) };
  only = λ x c. elim (same_or_not c.place i) [
    | inl e ↦ let le = subst (λ k. x ≤ℤ nth (set highs i top) k) e c.high in let up : x ≤ℤ top = subst (λ z. x ≤ℤ z) same le in let l = subst (λ k. nth lows k ≤ℤ x) e c.low in elim either [
      | inl t ↦ inl (record { place = i; within = lt; low = l; high = omega (arith, ints, up, t) })
      | inr t ↦ inr (omega (arith, ints, l, is), omega (arith, ints, up, t))
    ]
    | inr ne ↦ inl (record { place = c.place; within = c.within; low = c.low; high = subst (λ z. x ≤ℤ z) (get_or-set_other highs i c.place top (pos 0) ne) c.high })
  ];
} where
  same : nth (set highs i top) i ≡ top
  same = let room : i < length highs = omega (arith, spans.same) in get_or-set_same highs i top (pos 0) room

pub inserted_span : (low high : ℤ) (lows highs lows' highs' : List ℤ) (i : ℕ) → IsSpans lows highs → i ≤ length lows → ((j : ℕ) → j < i → nth lows j <ℤ low) → ((j : ℕ) → i ≤ j → j < length lows → low ≤ℤ nth lows j) → (i < length lows → nth lows i ≢ low) → lows' ≡ insert lows i low → highs' ≡ insert highs i high → IsWithSpan low high lows highs lows' highs'
inserted_span low high lows highs lows' highs' i spans le below above other ls hs = subst (λ l. IsWithSpan low high lows highs l highs') (sym ls) (subst (λ h. IsWithSpan low high lows highs (insert lows i low) h) (sym hs) (record {
  spans = record { ascending = record { below = λ j k lt k_lt. rising j k (nth (insert lows i low) j) (nth (insert lows i low) k) lt k_lt (seen lows low i j le) (seen lows low i k le) }; same = omega (arith, spans.same, long, long_h) };
  kept = λ x c. elim (three i c.place) [
    | inl lt ↦ record { place = c.place; within = omega (arith, long, c.within); low = rw (get_or-insert_below lows i low (pos 0) c.place lt le) c.low; high = rw (get_or-insert_below highs i high (pos 0) c.place lt le_h) c.high }
    | inr rest ↦ let c_in : c.place < length lows = c.within in let i_le : i ≤ c.place = elim rest [ inl e ↦ omega arith | inr gt ↦ omega arith ] in record { place = c.place + 1; within = omega (arith, long, c_in); low = rw (get_or-insert_above lows i low (pos 0) c.place i_le le) c.low; high = rw (get_or-insert_above highs i high (pos 0) c.place i_le le_h) c.high }
  ];
  own = λ x l h. record { place = i; within = omega (arith, long); low = rw (get_or-insert_at lows i low (pos 0) le) l; high = rw (get_or-insert_at highs i high (pos 0) le_h) h };
  only = λ x c. from x c.place (nth (insert lows i low) c.place) (nth (insert highs i high) c.place) c.within c.low c.high (seen lows low i c.place le) (seen highs high i c.place le_h);
})) where
  le_h : i ≤ length highs
  le_h = omega (arith, spans.same)

  long : length (insert lows i low) ≡ length lows + 1
  long = length-insert lows i low le

  long_h : length (insert highs i high) ≡ length highs + 1
  long_h = length-insert highs i high le_h

  far : (j : ℕ) → i ≤ j → j < length lows → low <ℤ nth lows j
  far = beyond lows low i spans.ascending above other

  rising : (j k : ℕ) (y z : ℤ) → j < k → k < length (insert lows i low) → IsSeen lows low i j y → IsSeen lows low i k z → y <ℤ z
  rising j k y z lt k_lt (before p e) (before q f) = let l = spans.ascending.below j k lt (omega (arith, long)) in omega (arith, ints, l, e, f)
  rising j k y z lt k_lt (before p e) (here q f) = let l = below j p in omega (arith, ints, l, e, f)
  rising j k y z lt k_lt (before p e) (later v q i_le f) = let l = below j p in let g = far v i_le (omega (arith, long)) in omega (arith, ints, l, g, e, f)
  rising j k y z lt k_lt (here p e) (before q f) = absurd (omega arith)
  rising j k y z lt k_lt (here p e) (here q f) = absurd (omega arith)
  rising j k y z lt k_lt (here p e) (later v q i_le f) = let g = far v i_le (omega (arith, long)) in omega (arith, ints, g, e, f)
  rising j k y z lt k_lt (later u p u_le e) (before q f) = absurd (omega arith)
  rising j k y z lt k_lt (later u p u_le e) (here q f) = absurd (omega arith)
  rising j k y z lt k_lt (later u p u_le e) (later v q i_le f) = let l = spans.ascending.below u v (omega arith) (omega (arith, long)) in omega (arith, ints, l, e, f)

  from : (x : ℤ) (j : ℕ) (y z : ℤ) → j < length (insert lows i low) → y ≤ℤ x → x ≤ℤ z → IsSeen lows low i j y → IsSeen highs high i j z → IsCovered lows highs x ⊎ ((low ≤ℤ x) × (x ≤ℤ high))
  from x j y z lt l h (before p e) (before q f) = inl (record { place = j; within = omega arith; low = omega (arith, ints, e, l); high = omega (arith, ints, f, h) })
  from x j y z lt l h (here p e) (here q f) = inr (omega (arith, ints, e, l), omega (arith, ints, f, h))
  from x j y z lt l h (later u p u_le e) (later v q v_le f) =
      let same : v ≡ u = omega arith in
      let f_u : z ≡ nth highs u = subst (λ w. z ≡ nth highs w) same f in
      inl (record { place = u; within = omega (arith, long); low = omega (arith, ints, e, l); high = omega (arith, ints, f_u, h) })
  from x j y z lt l h (before p e) (here q f) = absurd (omega arith)
  from x j y z lt l h (before p e) (later v q v_le f) = absurd (omega arith)
  from x j y z lt l h (here p e) (before q f) = absurd (omega arith)
  from x j y z lt l h (here p e) (later v q v_le f) = absurd (omega arith)
  from x j y z lt l h (later u p u_le e) (before q f) = absurd (omega arith)
  from x j y z lt l h (later u p u_le e) (here q f) = absurd (omega arith)

pub tops_step : (highs tops tops' : List ℤ) (i : ℕ) (high top : ℤ) → high ≡ nth highs i → high ≤ℤ top → (0 < length tops → nth tops (length tops - 1) ≤ℤ top) → (top ≡ high) ⊎ ((0 < length tops) × (top ≡ nth tops (length tops - 1))) → tops' ≡ tops ++ top ∷ [] → IsTops highs tops i → IsTops highs tops' (i + 1)
tops_step highs tops tops' i high top high_is own over among is old = subst (λ l. IsTops highs l (i + 1)) (sym is) (record {
  size = omega (arith, old.size, length-append tops (top ∷ []));
  over = λ j k le lt. elim (less_or_same k i lt) [
    | inl e ↦ subst (λ w. nth highs j ≤ℤ nth (tops ++ top ∷ []) w) (sym e) (rw last (over_last j (omega arith)))
    | inr less ↦ rw (first k less) (old.over j k le less)
  ];
  among = λ k lt. elim (less_or_same k i lt) [
    | inl e ↦ subst (λ w. (j : ℕ) × (j ≤ w) × (nth (tops ++ top ∷ []) w ≡ nth highs j)) (sym e) (elim among [
      | inl t ↦ (i, omega arith, last ∙ t ∙ high_is)
      | inr t ↦ let some : 0 < i = omega (arith, old.size, t.0) in let size : length tops ≡ i = old.size in let a = old.among (i - 1) (omega arith) in let same : nth tops (length tops - 1) ≡ nth tops (i - 1) = ap (λ n. nth tops (n - 1)) size in (a.0, omega (arith, a.1), last ∙ t.1 ∙ same ∙ a.2)
    ])
    | inr less ↦ let a = old.among k less in (a.0, a.1, first k less ∙ a.2)
  ];
}) where
  first : (k : ℕ) → k < i → nth (tops ++ top ∷ []) k ≡ nth tops k
  first k lt = let k_in : k < length tops = omega (arith, old.size) in get_or_append_left tops (top ∷ []) (pos 0) k k_in

  last : nth (tops ++ top ∷ []) i ≡ top
  last = let le : length tops ≤ i = omega (arith, old.size) in get_or-append_right tops (top ∷ []) i (pos 0) le ∙ ap (λ n. get_or (top ∷ []) n (pos 0)) (let z : i - length tops ≡ 0 = omega (arith, old.size) in z)

  over_last : (j : ℕ) → j ≤ i → nth highs j ≤ℤ top
  over_last j le = let lt : j < i + 1 = omega arith in elim (less_or_same j i lt) [
    | inl e ↦ subst (λ w. nth highs w ≤ℤ top) (sym e) (omega (arith, ints, high_is, own))
    | inr less ↦ let size : length tops ≡ i = old.size in let up : nth highs j ≤ℤ nth tops (i - 1) = old.over j (i - 1) (omega arith) (omega arith) in let o : nth tops (length tops - 1) ≤ℤ top = over (omega arith) in let o2 : nth tops (i - 1) ≤ℤ top = subst (λ n. nth tops (n - 1) ≤ℤ top) size o in omega (arith, ints, up, o2)
  ]

pub covered_is : (lows highs tops : List ℤ) (x : ℤ) (p : ℕ) → IsSpans lows highs → IsTops highs tops (length lows) → 0 < p → p ≤ length lows → ((j : ℕ) → j < p → nth lows j <ℤ (x +ℤ pos 1)) → ((j : ℕ) → p ≤ j → j < length lows → (x +ℤ pos 1) ≤ℤ nth lows j) → (x ≤ℤ nth tops (p - 1) → IsCovered lows highs x) × (IsCovered lows highs x → x ≤ℤ nth tops (p - 1))
covered_is lows highs tops x p spans top some le below above = (there, back) where
  there : x ≤ℤ nth tops (p - 1) → IsCovered lows highs x
  there h =
      let a = top.among (p - 1) (omega arith) in
      let a_le : a.0 ≤ p - 1 = a.1 in
      let b = below a.0 (omega arith) in
      record { place = a.0; within = omega arith; low = omega (arith, ints, b); high = omega (arith, ints, h, a.2) }

  not_above : (c : IsCovered lows highs x) → p ≤ c.place → ⊥
  not_above c p_le = let a = above c.place p_le c.within in let l : nth lows c.place ≤ℤ x = c.low in absurd (omega (arith, ints, a, l))

  back : IsCovered lows highs x → x ≤ℤ nth tops (p - 1)
  back c =
      let c_le : c.place ≤ p - 1 = omega (arith, not_above c) in
      let o = top.over c.place (p - 1) c_le (omega arith) in
      let h : x ≤ℤ nth highs c.place = c.high in
      omega (arith, ints, o, h)

-- below all low ends nothing is covered
pub not_covered : (lows highs : List ℤ) (x : ℤ) (p : ℕ) → p ≡ 0 → ((j : ℕ) → p ≤ j → j < length lows → (x +ℤ pos 1) ≤ℤ nth lows j) → IsCovered lows highs x → ⊥
not_covered lows highs x p z above c = let a = above c.place (omega arith) c.within in let l : nth lows c.place ≤ℤ x = c.low in absurd (omega (arith, ints, a, l))
