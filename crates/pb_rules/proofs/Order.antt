-- The order of breaches: what is not before another, which is not before a third, is not before the third.
use Rattle.std.proofs.Common.{◌≡◌, ℕ, ◌≤◌, ℤ, ◌≤ℤ◌, Bool, true, false, ◌||◌, ◌&&◌, nat_eq, nat_lt, inl, inr, Option, Some, None, refl, sym, ◌∙◌, arith}
use Rattle.std.specs.Prelude.{int_lt}
use Rattle.std.specs.Ordering.{int_eq}
use Rattle.std.proofs.lemmas.Bool.{true≢false, or_parts, or_from, or_cases, and_parts, and_cases, and_left, and_right, cases_Bool, ltb-true, ltb-false, le-ltb, eq-eqb, eqb-true}
use Rattle.std.proofs.lemmas.Int.{ints}
use Rattle.pb_core_language.specs.Ranks.{Seat}
use Rattle.pb_core_language.specs.Verdict.{Broken, is_before, is_before_seat}
use Rattle.pb_rules.specs.Verdict.{IsNamedBut}

split : (a b : ℕ) (p : Bool) → (nat_lt a b || (nat_eq a b && p)) ≡ false → (b ≤ a) × (a ≡ b → p ≡ false)
split a b p h =
    let parts = or_parts (nat_lt a b) (nat_eq a b && p) h in
    (ltb-false a b parts.0, λ e. elim (and_cases (nat_eq a b) p parts.1) [ inl x ↦ absurd (true≢false (sym (eq-eqb a b e) ∙ x)) | inr y ↦ y ])

pub join : (a b : ℕ) (p : Bool) → b ≤ a → (a ≡ b → p ≡ false) → (nat_lt a b || (nat_eq a b && p)) ≡ false
join a b p le k =
    or_from (nat_lt a b) (nat_eq a b && p) (le-ltb a b le)
    (elim (cases_Bool (nat_eq a b)) [ inl e ↦ and_right (nat_eq a b) p (k (eqb-true a b e)) | inr ne ↦ and_left (nat_eq a b) p ne ])

int_same : (a b : ℤ) → int_eq a b ≡ true → a ≡ b
int_same a b h = grind (arith, ints)

same_int : (a b : ℤ) → a ≡ b → int_eq a b ≡ true
same_int a b h = grind (arith, ints)

int_above : (a b : ℤ) → int_lt a b ≡ false → b ≤ℤ a
int_above a b h = grind (arith, ints)

int_below : (a b : ℤ) → int_lt a b ≡ true → a ≤ℤ b
int_below a b h = grind (arith, ints)

int_apart : (a b : ℤ) → int_lt a b ≡ true → a ≡ b → ⊥
int_apart a b h e = grind (arith, ints)

above_int : (a b : ℤ) → b ≤ℤ a → int_lt a b ≡ false
above_int a b h = grind (arith, ints)

split_int : (a b : ℤ) (p : Bool) → (int_lt a b || (int_eq a b && p)) ≡ false → (b ≤ℤ a) × (a ≡ b → p ≡ false)
split_int a b p h =
    let parts = or_parts (int_lt a b) (int_eq a b && p) h in
    (int_above a b parts.0, λ e. elim (and_cases (int_eq a b) p parts.1) [ inl x ↦ absurd (true≢false (sym (same_int a b e) ∙ x)) | inr y ↦ y ])

pub join_int : (a b : ℤ) (p : Bool) → b ≤ℤ a → (a ≡ b → p ≡ false) → (int_lt a b || (int_eq a b && p)) ≡ false
join_int a b p le k =
    or_from (int_lt a b) (int_eq a b && p) (above_int a b le)
    (elim (cases_Bool (int_eq a b)) [ inl e ↦ and_right (int_eq a b) p (k (int_same a b e)) | inr ne ↦ and_left (int_eq a b) p ne ])

-- a seat of the same role is not before one whose index is at most its own
pub not_before_seat : (r s : ℕ) (x y : ℤ) → r ≡ s → y ≤ℤ x → is_before_seat (Some (record { role = r; index = x })) (Some (record { role = s; index = y })) ≡ false
not_before_seat r s x y e le = join r s (int_lt x y) (omega arith) (λ _. above_int x y le)

int_trans : (a b c : ℤ) → b ≤ℤ a → c ≤ℤ b → c ≤ℤ a
int_trans a b c h k = omega (arith, ints)

int_between : (a b c : ℤ) → b ≤ℤ a → c ≤ℤ b → a ≡ c → (a ≡ b) × (b ≡ c)
int_between a b c h k e = (omega (arith, ints), omega (arith, ints))

nat_between : (a b c : ℕ) → b ≤ a → c ≤ b → a ≡ c → (a ≡ b) × (b ≡ c)
nat_between a b c h k e = (omega arith, omega arith)

seat_falls : (alone ra rb : ℕ) (a b c : Option Seat) → IsNamedBut alone ra a → IsNamedBut alone rb b → ra ≡ rb → is_before_seat a b ≡ false → is_before_seat b c ≡ false → is_before_seat a c ≡ false
seat_falls alone ra rb None b c ka kb e h k = refl
seat_falls alone ra rb (Some a) b None ka kb e h k = refl
seat_falls alone ra rb (Some a) None (Some c) ka kb e h k = absurd (ka (e ∙ kb))
seat_falls alone ra rb (Some a) (Some b) (Some c) ka kb e h k =
    let s = split a.role b.role (int_lt a.index b.index) h in
    let t = split b.role c.role (int_lt b.index c.index) k in
    join a.role c.role (int_lt a.index c.index) (omega arith)
    (λ same. let es = nat_between a.role b.role c.role s.0 t.0 same in
    above_int a.index c.index (int_trans a.index b.index c.index (int_above _ _ (s.1 es.0)) (int_above _ _ (t.1 es.1))))

pub falls : (alone : ℕ) (a b c : Broken) → IsNamedBut alone a.breach.rule a.breach.at → IsNamedBut alone b.breach.rule b.breach.at → is_before a b ≡ false → is_before b c ≡ false → is_before a c ≡ false
falls alone a b c ka kb h k =
    let s = split a.breach.rule b.breach.rule _ h in
    let t = split b.breach.rule c.breach.rule _ k in
    join a.breach.rule c.breach.rule _ (omega arith) (λ same.
    let es = nat_between a.breach.rule b.breach.rule c.breach.rule s.0 t.0 same in
    let u = split a.breach.mark.number b.breach.mark.number _ (s.1 es.0) in
    let v = split b.breach.mark.number c.breach.mark.number _ (t.1 es.1) in
    join a.breach.mark.number c.breach.mark.number _ (omega arith) (λ alike.
    let fs = nat_between a.breach.mark.number b.breach.mark.number c.breach.mark.number u.0 v.0 alike in
    let w = split_int a.n b.n _ (u.1 fs.0) in
    let z = split_int b.n c.n _ (v.1 fs.1) in
    join_int a.n c.n _ (int_trans a.n b.n c.n w.0 z.0) (λ once.
    let gs = int_between a.n b.n c.n w.0 z.0 once in
    seat_falls alone a.breach.rule b.breach.rule a.breach.at b.breach.at c.breach.at ka kb es.0 (w.1 gs.0) (z.1 gs.1))))

turn : (a b : ℕ) (p q : Bool) → (nat_lt a b || (nat_eq a b && p)) ≡ true → (p ≡ true → q ≡ false) → (nat_lt b a || (nat_eq b a && q)) ≡ false
turn a b p q h k =
    elim (or_cases (nat_lt a b) (nat_eq a b && p) h) [
      | inl lt ↦ (let l = ltb-true a b lt in join b a q (omega arith) (λ e. absurd (omega arith)))
      | inr both ↦ (let ps = and_parts (nat_eq a b) p both in let e = eqb-true a b ps.0 in join b a q (omega arith) (λ _. k ps.1))
    ]

turn_int : (a b : ℤ) (p q : Bool) → (int_lt a b || (int_eq a b && p)) ≡ true → (p ≡ true → q ≡ false) → (int_lt b a || (int_eq b a && q)) ≡ false
turn_int a b p q h k =
    elim (or_cases (int_lt a b) (int_eq a b && p) h) [
      | inl lt ↦ join_int b a q (int_below a b lt) (λ e. absurd (int_apart a b lt (sym e)))
      | inr both ↦ (let ps = and_parts (int_eq a b) p both in let e = int_same a b ps.0 in join_int b a q (omega (arith, ints)) (λ _. k ps.1))
    ]

seat_turns : (a b : Option Seat) → is_before_seat a b ≡ true → is_before_seat b a ≡ false
seat_turns None b h = absurd (true≢false (sym h))
seat_turns (Some a) None h = refl
seat_turns (Some a) (Some b) h = turn a.role b.role (int_lt a.index b.index) (int_lt b.index a.index) h (λ lt. above_int b.index a.index (int_below a.index b.index lt))

pub turns : (a b : Broken) → is_before a b ≡ true → is_before b a ≡ false
turns a b h =
    turn a.breach.rule b.breach.rule _ _ h (λ h1.
    turn a.breach.mark.number b.breach.mark.number _ _ h1 (λ h2.
    turn_int a.n b.n _ _ h2 (λ h3. seat_turns a.breach.at b.breach.at h3)))

-- a breach of the same rule and place is not before one whose N is at most its own, and whose seat is no later there
pub not_before : (a b : Broken) → a.breach.rule ≡ b.breach.rule → a.breach.mark.number ≡ b.breach.mark.number → b.n ≤ℤ a.n → (a.n ≡ b.n → is_before_seat a.breach.at b.breach.at ≡ false) → is_before a b ≡ false
not_before a b r m le k =
    join a.breach.rule b.breach.rule _ (omega arith) (λ _. join a.breach.mark.number b.breach.mark.number _ (omega arith) (λ _. join_int a.n b.n _ le k))
