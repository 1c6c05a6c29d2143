-- A guard's span, put to the spans of the guards before it.
use Rattle.std.proofs.Common.{◌≡◌, ℕ, zero, suc, ◌+◌, ◌<◌, ◌≤◌, ℤ, pos, ◌≤ℤ◌, ◌⊎◌, inl, inr, None, List, [], ◌∷◌, length, get_or, drop, drop-cons, add-one, true, false, Bool, ◌&&◌, nat_eq, int_le, refl, sym, subst, arith}
use Rattle.std.proofs.lemmas.Int.{ints}
use Rattle.std.proofs.lemmas.Bool.{or_left, or_right, or_cases}
use Rattle.pb_affine.specs.declared.guard.Guard.{Guard}
use Rattle.pb_affine.specs.Values.{value, holds, hold, is_at_least, is_at_most, is_from_on, is_up_to}
use Rattle.pb_cases.specs.Bounds.{IsBounded, low_end, or_zero}
use Rattle.pb_cases.specs.Spans.{IsWithSpan}
use Rattle.pb_cases.specs.Live.{IsCoverOf, IsSpansOf, is_live}

abbrev pub no_guard : Guard
no_guard = record { role = 0; low = None; high = None; from = None; to = None }

-- the five tests of a guard, taken apart and put together
apart : (r p q u v : Bool) → (r && p && q && u && v) ≡ true → ((r && true && true && u && v) ≡ true) × (p ≡ true) × (q ≡ true)
apart true true true u v h = (h, refl, refl)
apart true true false u v h = absurd (cc)
apart true false q u v h = absurd (cc)
apart false p q u v h = absurd (cc)

together : (r p q u v : Bool) → (r && true && true && u && v) ≡ true → p ≡ true → q ≡ true → (r && p && q && u && v) ≡ true
together r true true u v h p q = h
together r true false u v h p q = absurd (cc)
together r false q u v h p e = absurd (cc)

abbrev pub low_at : Guard → ℤ → ℤ
low_at g n = value (low_end g) n (pos 0)

abbrev pub high_at : Guard → ℤ → ℤ
high_at g n = value (or_zero g.high) n (pos 0)

pub holds_apart : (g : Guard) (n x : ℤ) (role : ℕ) → IsBounded g → holds g n (pos 0) role x ≡ true → (is_live g n role ≡ true) × (low_at g n ≤ℤ x) × (x ≤ℤ high_at g n)
holds_apart g n x role b h =
    let a = apart (nat_eq role g.role) (is_at_least x g.low n (pos 0)) (is_at_most x g.high n (pos 0)) (is_from_on n g.from) (is_up_to n g.to) h in
    let low : int_le (low_at g n) x ≡ true = subst (λ o. is_at_least x o n (pos 0) ≡ true) b.low_is a.1 in
    let high : int_le x (high_at g n) ≡ true = subst (λ o. is_at_most x o n (pos 0) ≡ true) b.high_is a.2 in
    (a.0, omega (arith, ints, low), omega (arith, ints, high))

le_test : (a b : ℤ) → a ≤ℤ b → int_le a b ≡ true
le_test a b h = grind (arith, ints)

pub holds_together : (g : Guard) (n x : ℤ) (role : ℕ) → IsBounded g → is_live g n role ≡ true → low_at g n ≤ℤ x → x ≤ℤ high_at g n → holds g n (pos 0) role x ≡ true
holds_together g n x role b live low high =
    together (nat_eq role g.role) (is_at_least x g.low n (pos 0)) (is_at_most x g.high n (pos 0)) (is_from_on n g.from) (is_up_to n g.to) live
    (subst (λ o. is_at_least x o n (pos 0) ≡ true) (sym b.low_is) (le_test (low_at g n) x low))
    (subst (λ o. is_at_most x o n (pos 0) ≡ true) (sym b.high_is) (le_test x (high_at g n) high))

hold_at : (gs : List Guard) (i : ℕ) (n x : ℤ) (role : ℕ) → i < length gs → holds (get_or gs i no_guard) n (pos 0) role x ≡ true → hold gs n (pos 0) role x ≡ true
hold_at [] i n x role lt h = absurd (omega arith)
hold_at (g ∷ gs) zero n x role lt h = or_left (holds g n (pos 0) role x) (hold gs n (pos 0) role x) h
hold_at (g ∷ gs) (suc i) n x role lt h = or_right (holds g n (pos 0) role x) (hold gs n (pos 0) role x) (hold_at gs i n x role (omega arith) h)

split : (gs : List Guard) (i : ℕ) (n x : ℤ) (role : ℕ) → i < length gs → hold (drop i gs) n (pos 0) role x ≡ true → (holds (get_or gs i no_guard) n (pos 0) role x ≡ true) ⊎ (hold (drop (i + 1) gs) n (pos 0) role x ≡ true)
split gs i n x role lt h =
    let e : drop i gs ≡ get_or gs i no_guard ∷ drop (i + 1) gs = rw (add-one, drop-cons gs i no_guard) in
    or_cases (holds (get_or gs i no_guard) n (pos 0) role x) (hold (drop (i + 1) gs) n (pos 0) role x) (subst (λ l. hold l n (pos 0) role x ≡ true) e h)

pub live_step : (gs : List Guard) (n : ℤ) (role i : ℕ) (lows highs lows' highs' : List ℤ) (low high : ℤ) → i < length gs → IsBounded (get_or gs i no_guard) → is_live (get_or gs i no_guard) n role ≡ true → low ≡ low_at (get_or gs i no_guard) n → high ≡ high_at (get_or gs i no_guard) n → IsWithSpan low high lows highs lows' highs' → IsSpansOf gs n role i lows highs → IsSpansOf gs n role (i + 1) lows' highs'
live_step gs n role i lows highs lows' highs' low high lt bounded live low_is high_is more old = record {
  spans = more.spans;
  all = λ x h. elim (old.all x h) [
    | inl c ↦ inl (more.kept x c)
    | inr rest ↦ elim (split gs i n x role lt rest) [
      | inl here ↦ let a = holds_apart (get_or gs i no_guard) n x role bounded here in inl (more.own x (omega (arith, ints, low_is, a.1)) (omega (arith, ints, high_is, a.2)))
      | inr later ↦ inr later
    ]
  ];
  only = λ x c. elim (more.only x c) [
    | inl before ↦ old.only x before
    | inr own ↦ hold_at gs i n x role lt (holds_together (get_or gs i no_guard) n x role bounded live (omega (arith, ints, low_is, own.0)) (omega (arith, ints, high_is, own.1)))
  ];
}

pub still_step : (gs : List Guard) (n : ℤ) (role i : ℕ) (lows highs : List ℤ) → i < length gs → IsBounded (get_or gs i no_guard) → is_live (get_or gs i no_guard) n role ≡ false → IsSpansOf gs n role i lows highs → IsSpansOf gs n role (i + 1) lows highs
still_step gs n role i lows highs lt bounded still old = record {
  spans = old.spans;
  all = λ x h. elim (old.all x h) [
    | inl c ↦ inl c
    | inr rest ↦ elim (split gs i n x role lt rest) [
      | inl here ↦ let live : is_live (get_or gs i no_guard) n role ≡ true = (holds_apart (get_or gs i no_guard) n x role bounded here).0 in absurd (cc)
      | inr later ↦ inr later
    ]
  ];
  only = old.only;
}

pub spans_first : (gs : List Guard) (n : ℤ) (role : ℕ) (lows highs : List ℤ) → lows ≡ [] → highs ≡ [] → IsSpansOf gs n role 0 lows highs
spans_first gs n role lows highs e f = subst (λ l. IsSpansOf gs n role 0 l highs) (sym e) (subst (λ h. IsSpansOf gs n role 0 [] h) (sym f) (record {
  spans = record { ascending = record { below = λ i j lt j_lt. absurd (omega arith) }; same = refl };
  all = λ x h. inr h;
  only = λ x c. let within : c.place < 0 = c.within in absurd (omega arith);
}))

pub cover_done : (gs : List Guard) (n : ℤ) (role i : ℕ) (lows highs : List ℤ) → length gs ≤ i → IsSpansOf gs n role i lows highs → IsCoverOf gs n role lows highs
cover_done gs n role i lows highs le s = record {
  spans = s.spans;
  all = λ x h. elim (s.all x h) [ inl c ↦ c | inr rest ↦ absurd (none gs i x le rest) ];
  only = s.only;
} where
  none : (gs : List Guard) (i : ℕ) (x : ℤ) → length gs ≤ i → hold (drop i gs) n (pos 0) role x ≡ true → ⊥
  none [] zero x le h = cc
  none [] (suc i) x le h = cc
  none (g ∷ gs) zero x le h = absurd (omega arith)
  none (g ∷ gs) (suc i) x le h = none gs i x (omega arith) h
