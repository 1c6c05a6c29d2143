-- Stretches put together, one after the other.
use Rattle.std.proofs.Common.{◌≡◌, ◌≢◌, ℤ, pos, ◌+ℤ◌, ◌-ℤ◌, ◌≤ℤ◌, ◌<ℤ◌, ◌⊎◌, inl, inr, List, [], ◌∷◌, ◌++◌, refl, sym, ap, ◌∙◌, subst, arith}
use Rattle.std.proofs.lemmas.Int.{ints}
use Rattle.pb_cost_pieces.specs.declared.stretch.Stretch.{Stretch}
use Rattle.pb_cost_pieces.specs.Lines.{along, value_at, IsClosed, IsOpen, AreClosed, nothing, more, AreStretches, final, before, AreSoFar}
use Rattle.pb_cost_pieces.proofs.Lines.{along_here, along_next, along_anew}

-- ---- one stretch more

pub closed_more : (f : ℤ → ℤ) (m from : ℤ) (xs : List Stretch) (s : Stretch) → s.from ≡ m → IsClosed f s → AreClosed f m from xs → AreClosed f (s.to +ℤ pos 1) from (xs ++ s ∷ [])
closed_more f m from [] s e closed (nothing _ here) = more from s [] (e ∙ sym here) closed (nothing (s.to +ℤ pos 1) refl)
closed_more f m from (x ∷ xs) s e closed (more _ _ _ x_from x_closed rest) = more from x (xs ++ s ∷ []) x_from x_closed (closed_more f m (x.to +ℤ pos 1) xs s e closed rest)

pub finished : (f : ℤ → ℤ) (last m from : ℤ) (xs : List Stretch) (s : Stretch) → s.from ≡ m → s.to ≡ last → IsOpen f s → AreClosed f m from xs → AreStretches f last from (xs ++ s ∷ [])
finished f last m from [] s e to is (nothing _ here) = final from s (e ∙ sym here) to is
finished f last m from (x ∷ xs) s e to is (more _ _ _ x_from x_closed rest) = before from x (xs ++ s ∷ []) x_from x_closed (finished f last m (x.to +ℤ pos 1) xs s e to is rest)

-- ---- numbers in order

before_or_at : (n m : ℤ) → n ≤ℤ (m +ℤ pos 1) → (n ≤ℤ m) ⊎ (n ≡ m +ℤ pos 1)
before_or_at n m h = grind (arith, ints)

up_to_or_after : (n m : ℤ) → (n ≤ℤ m) ⊎ (m <ℤ n)
up_to_or_after n m = grind (arith, ints)

same_or_less : (n m : ℤ) → n ≤ℤ m → (n ≡ m) ⊎ (n <ℤ m)
same_or_less n m h = grind (arith, ints)

squeezed : (n m k : ℤ) → k ≤ℤ n → n ≤ℤ m → k ≡ m → n ≡ m
squeezed n m k h g e = omega (arith, ints)

-- ---- lines

pub same_line : (s t : Stretch) (n : ℤ) → t.from ≡ s.from → t.start ≡ s.start → t.slope ≡ s.slope → value_at t n ≡ value_at s n
same_line s t n from start slope = ap (λ x. along x t.slope t.from n) start ∙ ap (λ x. along s.start x t.from n) slope ∙ ap (λ x. along s.start s.slope x n) from

pub at_first : (s : Stretch) (n : ℤ) → n ≡ s.from → value_at s n ≡ s.start
at_first s n e = ap (λ x. along s.start s.slope s.from x) e ∙ along_here s.start s.slope s.from

pub at_next : (s : Stretch) (n m : ℤ) → n ≡ m +ℤ pos 1 → value_at s n ≡ value_at s m +ℤ s.slope
at_next s n m e = ap (λ x. along s.start s.slope s.from x) e ∙ along_next s.start s.slope s.from m

met : (x y v : ℤ) → y ≡ v -ℤ x → x +ℤ y ≡ v
met x y v e = omega (arith, ints)

-- ---- one number more

-- a number alone, and the next one
pub second_number : (f : ℤ → ℤ) (from : ℤ) (done : List Stretch) (s t : Stretch) (v : ℤ) → s.from ≡ s.to → t.from ≡ s.from → t.to ≡ s.to +ℤ pos 1 → t.start ≡ s.start → t.slope ≡ v -ℤ s.start → f (s.to +ℤ pos 1) ≡ v → AreSoFar f from done s → AreSoFar f from done t
second_number f from done s t v single t_from t_to t_start t_slope is so_far = record {
  closed = subst (λ m. AreClosed f m from done) (sym t_from) so_far.closed;
  last = record {
    some = omega (arith, ints, single, t_from, t_to);
    on = λ n low high. elim (before_or_at n s.to (subst (λ x. n ≤ℤ x) t_to high)) [
      | inl le ↦
          let n_low : s.from ≤ℤ n = subst (λ x. x ≤ℤ n) t_from low in
          let here : n ≡ s.from = squeezed n s.to s.from n_low le single ∙ sym single in
          so_far.last.on n n_low le ∙ at_first s n here ∙ sym (at_first t n (here ∙ sym t_from) ∙ t_start)
      | inr e ↦
          let there : n ≡ t.from +ℤ pos 1 = omega (arith, ints, e, single, t_from) in
          ap f e ∙ is ∙ sym (at_next t n t.from there ∙ ap (λ x. x +ℤ t.slope) (at_first t t.from refl ∙ t_start) ∙ met s.start t.slope v t_slope)
    ];
    single = λ e. absurd (omega (arith, ints, e, single, t_from, t_to));
  };
}

-- more numbers on the line
pub stretched : (f : ℤ → ℤ) (from : ℤ) (done : List Stretch) (s t : Stretch) (to : ℤ) → s.to ≤ℤ to → t.from ≡ s.from → t.to ≡ to → t.start ≡ s.start → t.slope ≡ s.slope → ((n : ℤ) → s.to <ℤ n → n ≤ℤ to → f n ≡ value_at s n) → AreSoFar f from done s → AreSoFar f from done t
stretched f from done s t to beyond t_from t_to t_start t_slope is so_far = record {
  closed = subst (λ m. AreClosed f m from done) (sym t_from) so_far.closed;
  last = record {
    some = let some = so_far.last.some in omega (arith, ints, some, t_from, t_to, beyond);
    on = λ n low high.
        let n_low : s.from ≤ℤ n = subst (λ x. x ≤ℤ n) t_from low in
        elim (up_to_or_after n s.to) [
          | inl le ↦ so_far.last.on n n_low le ∙ sym (same_line s t n t_from t_start t_slope)
          | inr gt ↦ is n gt (subst (λ x. n ≤ℤ x) t_to high) ∙ sym (same_line s t n t_from t_start t_slope)
        ];
    single = λ e. let some = so_far.last.some in t_slope ∙ so_far.last.single (omega (arith, ints, e, some, t_from, t_to, beyond));
  };
}

-- a stretch that ends, since the next number isn't on its line, and one that begins there
pub begun : (f : ℤ → ℤ) (from : ℤ) (done : List Stretch) (s t : Stretch) → s.from ≢ s.to → t.from ≡ s.to +ℤ pos 1 → f (s.to +ℤ pos 1) ≢ value_at s (s.to +ℤ pos 1) → IsOpen f t → AreSoFar f from done s → AreSoFar f from (done ++ s ∷ []) t
begun f from done s t long t_from off last so_far = record {
  closed = subst (λ m. AreClosed f m from (done ++ s ∷ [])) (sym t_from) (closed_more f s.from from done s refl (record { long = longer s.from s.to so_far.last.some long; on = so_far.last.on; ends = off }) so_far.closed);
  last = last;
} where
  longer : (a b : ℤ) → a ≤ℤ b → a ≢ b → a <ℤ b
  longer a b h ne = elim (same_or_less a b h) [ inl e ↦ absurd (ne e) | inr lt ↦ lt ]

-- a line that was made anew, with the slope 0 where it has one number alone
pub open_new : (f : ℤ → ℤ) (t : Stretch) (from to start slope : ℤ) → t.from ≡ from → t.to ≡ to → t.start ≡ start → from ≤ℤ to → (from ≡ to → t.slope ≡ pos 0) → (from <ℤ to → t.slope ≡ slope) → ((n : ℤ) → from ≤ℤ n → n ≤ℤ to → f n ≡ along start slope from n) → IsOpen f t
open_new f t from to start slope t_from t_to t_start le flat steep is = record {
  some = omega (arith, ints, t_from, t_to, le);
  single = λ e. flat (sym t_from ∙ e ∙ t_to);
  on = λ n low high.
      let n_low : from ≤ℤ n = subst (λ x. x ≤ℤ n) t_from low in
      let n_high : n ≤ℤ to = subst (λ x. n ≤ℤ x) t_to high in
      elim (same_or_less from to le) [
        | inl e ↦
            let here : n ≡ from = squeezed n to from n_low n_high e ∙ sym e in
            is n n_low n_high ∙ ap (λ x. along start slope from x) here ∙ along_here start slope from ∙ sym (at_first t n (here ∙ sym t_from) ∙ t_start)
        | inr lt ↦ is n n_low n_high ∙ ap (λ x. along x slope from n) (sym t_start) ∙ ap (λ x. along t.start x from n) (sym (steep lt)) ∙ ap (λ x. along t.start t.slope x n) (sym t_from)
      ];
}

-- ---- more numbers, behind the last of those that are known

-- a number alone, and the next ones
pub next_numbers : (f : ℤ → ℤ) (from : ℤ) (done : List Stretch) (s t : Stretch) (to slope : ℤ) → s.from ≡ s.to → s.to <ℤ to → t.from ≡ s.from → t.to ≡ to → t.start ≡ s.start → t.slope ≡ slope → ((n : ℤ) → s.to <ℤ n → n ≤ℤ to → f n ≡ along (value_at s s.to) slope s.to n) → AreSoFar f from done s → AreSoFar f from done t
next_numbers f from done s t to slope single beyond t_from t_to t_start t_slope is so_far = record {
  closed = subst (λ m. AreClosed f m from done) (sym t_from) so_far.closed;
  last = open_new f t s.to to s.start slope (t_from ∙ single) t_to t_start (omega (arith, ints, beyond)) (λ e. absurd (omega (arith, ints, beyond, e))) (λ _. t_slope) (λ n low high.
      elim (same_or_less s.to n low) [
        | inl e ↦ so_far.last.on n (subst (λ x. x ≤ℤ n) (sym single) low) (subst (λ x. x ≤ℤ s.to) e (omega (arith, ints))) ∙ at_first s n (sym e ∙ sym single) ∙ sym (ap (λ x. along s.start slope s.to x) (sym e) ∙ along_here s.start slope s.to)
        | inr lt ↦ is n lt high ∙ ap (λ x. along x slope s.to n) (at_first s s.to (sym single))
      ]);
}

-- the line goes on
pub goes_on : (s : Stretch) (slope n : ℤ) → s.slope ≡ slope → along (value_at s s.to) slope s.to n ≡ value_at s n
goes_on s slope n e = ap (λ x. along (value_at s s.to) x s.to n) (sym e) ∙ along_anew s.start s.slope s.from s.to n

-- the line turns
pub turns : (f : ℤ → ℤ) (s : Stretch) (slope to : ℤ) → s.slope ≢ slope → s.to <ℤ to → ((n : ℤ) → s.to <ℤ n → n ≤ℤ to → f n ≡ along (value_at s s.to) slope s.to n) → f (s.to +ℤ pos 1) ≢ value_at s (s.to +ℤ pos 1)
turns f s slope to ne beyond is on =
    let there : f (s.to +ℤ pos 1) ≡ value_at s s.to +ℤ slope = is (s.to +ℤ pos 1) (omega (arith, ints)) (omega (arith, ints, beyond)) ∙ along_next (value_at s s.to) slope s.to s.to ∙ ap (λ x. x +ℤ slope) (along_here (value_at s s.to) slope s.to) in
    let here : value_at s (s.to +ℤ pos 1) ≡ value_at s s.to +ℤ s.slope = at_next s (s.to +ℤ pos 1) s.to refl in
    ne (same_added (value_at s s.to) s.slope slope (sym here ∙ sym on ∙ there)) where
      same_added : (x a b : ℤ) → x +ℤ a ≡ x +ℤ b → a ≡ b
      same_added x a b e = omega (arith, ints)

-- the rest of a line, from its next number on
pub from_next : (start slope m n : ℤ) → along start slope m n ≡ along (start +ℤ slope) slope (m +ℤ pos 1) n
from_next start slope m n = sym (ap (λ x. along x slope (m +ℤ pos 1) n) (sym (along_next start slope m m ∙ ap (λ x. x +ℤ slope) (along_here start slope m))) ∙ along_anew start slope m (m +ℤ pos 1) n)
