-- The order of those who stop at a foreach: value by value, and by falling offset.
use Rattle.std.proofs.Common.{◌≡◌, ℕ, zero, suc, ℤ, pos, ◌+ℤ◌, ◌-ℤ◌, int_le, int_lt, nat_eq, cond, Bool, true, false, ◌||◌, ◌&&◌, if◌then◌else◌, Option, Some, None, List, [], ◌∷◌, ◌++◌, map, refl, ap, ap₂, sym, ◌∙◌, arith}
use Rattle.std.specs.List.{list_all}
use Rattle.std.specs.Ordering.{int_eq}
use Rattle.std.proofs.lemmas.Bool.{and_parts, cond-false, cond-true}
use Rattle.std.proofs.lemmas.Bool.Decides.{nat_tests}
use Rattle.std.proofs.lemmas.Int.{ints}
use Rattle.pb_affine.specs.Values.{count_from}
use Rattle.pb_core_language.specs.declared.protocol.CoreRole.{CoreRole}
use Rattle.pb_core_language.specs.Outcomes.{Outcome}
use Rattle.pb_core_flat.specs.Stops.{Visit, off_of, falling, with_off, IsByFalling, Stop, first_of, outcome_at}

-- the first of two that is there
abbrev pub or_first : Option Outcome → Option Outcome → Option Outcome
or_first None q = q
or_first (Some o) q = Some o

pub or_first_assoc : (p q s : Option Outcome) → or_first (or_first p q) s ≡ or_first p (or_first q s)
or_first_assoc None q s = refl
or_first_assoc (Some o) q s = refl

or_first_if : (t : Bool) (o : Outcome) (p q : Option Outcome) → (if t then Some o else or_first p q) ≡ or_first (if t then Some o else p) q
or_first_if true o p q = refl
or_first_if false o p q = refl

pub first_append : (xs ys : List Stop) (role : ℕ) (x : ℤ) → first_of (xs ++ ys) role x ≡ or_first (first_of xs role x) (first_of ys role x)
first_append [] ys role x = refl
first_append (s ∷ xs) ys role x =
    ap (λ z. if s.has role x then Some (s.finds x) else z) (first_append xs ys role x) ∙ or_first_if (s.has role x) (s.finds x) (first_of xs role x) (first_of ys role x)

-- what is found first, value by value
abbrev pub in_turn : (ℤ → Option Outcome) → List ℤ → Option Outcome
in_turn p [] = None
in_turn p (y ∷ ys) = or_first (p y) (in_turn p ys)

pub in_turn_same : (p q : ℤ → Option Outcome) → ((y : ℤ) → p y ≡ q y) → (ys : List ℤ) → in_turn p ys ≡ in_turn q ys
in_turn_same p q h [] = refl
in_turn_same p q h (y ∷ ys) = ap₂ or_first (h y) (in_turn_same p q h ys)

-- ---- ends that move

-- an index that has this offset at the value a, or at one of the k values after it
now_or_later : (same : Bool) (a c x : ℤ) (k : ℕ) →
    same && (int_le (a +ℤ c) x && int_lt x (a +ℤ c +ℤ pos (suc k)))
    ≡ (same && int_eq (c +ℤ a) x) || (same && (int_le (a +ℤ pos 1 +ℤ c) x && int_lt x (a +ℤ pos 1 +ℤ c +ℤ pos k)))
now_or_later same a c x k = grind (arith, ints, nat_tests)

the_value : (same : Bool) (a c x : ℤ) → same && int_eq (c +ℤ a) x ≡ true → x -ℤ c ≡ a
the_value same a c x h =
    let hs = and_parts same (int_eq (c +ℤ a) x) h in is (hs.1) where
      is : int_eq (c +ℤ a) x ≡ true → x -ℤ c ≡ a
      is k = grind (arith, ints)

beyond : (same : Bool) (a c x : ℤ) (k : ℕ) → same && (int_le (a +ℤ pos 1 +ℤ c) x && int_lt x (a +ℤ pos 1 +ℤ c +ℤ pos k)) ≡ true → int_le (a +ℤ pos 1 +ℤ c) x ≡ true
beyond same a c x k h = grind (arith, ints, nat_tests)

lower_not : (same : Bool) (a b c x : ℤ) → int_le b c ≡ true → int_le (a +ℤ pos 1 +ℤ c) x ≡ true → same && int_eq (b +ℤ a) x ≡ false
lower_not same a b c x h k = grind (arith, ints, nat_tests)

no_count : (same : Bool) (a c x : ℤ) → same && (int_le (a +ℤ c) x && int_lt x (a +ℤ c +ℤ pos 0)) ≡ false
no_count same a c x = grind (arith, ints, nat_tests)

other_off : (same : Bool) (a c x : ℤ) → int_eq c (x -ℤ a) ≡ false → same && int_eq (c +ℤ a) x ≡ false
other_off same a c x h = grind (arith, ints, nat_tests)

module _ (roles : List CoreRole) (n : ℤ) (role : ℕ) (x : ℤ) where
  -- an end that moves, at one value, and at one of the k values from a on
  abbrev pub on_move : ℤ → Visit → Stop
  on_move y v = record { has = λ role x. nat_eq v.end.role role && int_eq (off_of v +ℤ y) x; finds = λ x. outcome_at roles n y v.finding }

  abbrev pub at_count : ℕ → ℤ → Visit → Stop
  at_count k a v = record {
    has = λ role x. nat_eq v.end.role role && (int_le (a +ℤ off_of v) x && int_lt x (a +ℤ off_of v +ℤ pos k));
    finds = λ x. outcome_at roles n (x -ℤ off_of v) v.finding;
  }

  abbrev pub moved : ℤ → List Visit → Option Outcome
  moved y vs = first_of (map (on_move y) vs) role x

  abbrev pub counted : ℕ → ℤ → List Visit → Option Outcome
  counted k a vs = first_of (map (at_count k a) vs) role x

  abbrev now : ℤ → Visit → Bool
  now a v = nat_eq v.end.role role && int_eq (off_of v +ℤ a) x

  abbrev later : ℕ → ℤ → Visit → Bool
  later k a v = nat_eq v.end.role role && (int_le (a +ℤ off_of v) x && int_lt x (a +ℤ off_of v +ℤ pos k))

  none_moved : (a c : ℤ) (vs : List Visit) → list_all (λ w. int_le (off_of w) c) vs ≡ true → int_le (a +ℤ pos 1 +ℤ c) x ≡ true → moved a vs ≡ None
  none_moved a c [] h k = refl
  none_moved a c (v ∷ vs) h k =
      let hs = and_parts (int_le (off_of v) c) (list_all (λ w. int_le (off_of w) c) vs) h in
      cond-false (now a v) (Some (outcome_at roles n a v.finding)) (moved a vs) (lower_not (nat_eq v.end.role role) a (off_of v) c x hs.0 k) ∙ none_moved a c vs hs.1 k

  none_counted : (a : ℤ) (vs : List Visit) → counted 0 a vs ≡ None
  none_counted a [] = refl
  none_counted a (v ∷ vs) =
      cond-false (later 0 a v) (Some (outcome_at roles n (x -ℤ off_of v) v.finding)) (counted 0 a vs) (no_count (nat_eq v.end.role role) a (off_of v) x) ∙ none_counted a vs

  head_step : (b q m : Bool) (o p : Outcome) (rest first after : Option Outcome) → b ≡ q || m → (q ≡ true → o ≡ p) → (m ≡ true → first ≡ None) → rest ≡ or_first first after →
      (if b then Some o else rest) ≡ or_first (if q then Some p else first) (if m then Some o else after)
  head_step b true m o p rest first after e f g h = cond-true b (Some o) rest e ∙ ap Some (f refl)
  head_step b false true o p rest first after e f g h = cond-true b (Some o) rest e ∙ sym (ap (λ z. or_first z (Some o)) (g refl))
  head_step b false false o p rest first after e f g h = cond-false b (Some o) rest e ∙ h

  -- one value more at the front
  counted_more : (k : ℕ) (a : ℤ) (vs : List Visit) → falling vs ≡ true → counted (suc k) a vs ≡ or_first (moved a vs) (counted k (a +ℤ pos 1) vs)
  counted_more k a [] h = refl
  counted_more k a (v ∷ vs) h =
      let hs = and_parts (list_all (λ w. int_le (off_of w) (off_of v)) vs) (falling vs) h in
      head_step (later (suc k) a v) (now a v) (later k (a +ℤ pos 1) v) (outcome_at roles n (x -ℤ off_of v) v.finding) (outcome_at roles n a v.finding)
      (counted (suc k) a vs) (moved a vs) (counted k (a +ℤ pos 1) vs)
      (now_or_later (nat_eq v.end.role role) a (off_of v) x k)
      (λ e. ap (λ z. outcome_at roles n z v.finding) (the_value (nat_eq v.end.role role) a (off_of v) x e))
      (λ e. none_moved a (off_of v) vs hs.0 (beyond (nat_eq v.end.role role) a (off_of v) x k e))
      (counted_more k a vs hs.1)

  -- at one value only the ends with one offset count
  moved_with : (a : ℤ) (vs : List Visit) → moved a vs ≡ moved a (with_off (x -ℤ a) vs)
  moved_with a [] = refl
  moved_with a (v ∷ vs) = by_test (int_eq (off_of v) (x -ℤ a)) refl (moved_with a vs) where
    by_test : (t : Bool) → int_eq (off_of v) (x -ℤ a) ≡ t → moved a vs ≡ moved a (with_off (x -ℤ a) vs) → moved a (v ∷ vs) ≡ moved a (cond t (v ∷ with_off (x -ℤ a) vs) (with_off (x -ℤ a) vs))
    by_test true e h = ap (λ z. if now a v then Some (outcome_at roles n a v.finding) else z) h
    by_test false e h = cond-false (now a v) (Some (outcome_at roles n a v.finding)) (moved a vs) (other_off (nat_eq v.end.role role) a (off_of v) x e) ∙ h

  moved_same : (sorted vs : List Visit) → IsByFalling sorted vs → (a : ℤ) → moved a sorted ≡ moved a vs
  moved_same sorted vs s a = moved_with a sorted ∙ ap (moved a) (s.same (x -ℤ a)) ∙ sym (moved_with a vs)

  -- by falling offset is value by value
  pub counted_in_turn : (sorted vs : List Visit) → IsByFalling sorted vs → (k : ℕ) (a : ℤ) → counted k a sorted ≡ in_turn (λ y. moved y vs) (count_from k a)
  counted_in_turn sorted vs s zero a = none_counted a sorted
  counted_in_turn sorted vs s (suc k) a =
      counted_more k a sorted s.falls ∙ ap₂ or_first (moved_same sorted vs s a) (counted_in_turn sorted vs s k (a +ℤ pos 1))
