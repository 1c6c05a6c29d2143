-- A file has one first breach, as it is told.
use Rattle.std.proofs.Common.{◌≡◌, ℕ, ◌≤◌, ℤ, ◌≤ℤ◌, Bool, true, false, ◌||◌, ◌&&◌, nat_eq, nat_lt, ◌⊎◌, inl, inr, Option, Some, None, sym, ap, ap₂, subst, ◌∙◌, arith}
use Rattle.std.specs.Prelude.{int_lt}
use Rattle.std.specs.Ordering.{int_eq}
use Rattle.std.proofs.lemmas.Bool.{true≢false, or_parts, and_cases, ltb-false, eq-eqb}
use Rattle.std.proofs.lemmas.Int.{ints}
use Rattle.pb_syntax.specs.Tree.{PlainFile}
use Rattle.pb_core_language.specs.Meaning.{meaning}
use Rattle.pb_core_language.specs.Tree.{Mark}
use Rattle.pb_core_language.specs.Ranks.{Seat}
use Rattle.pb_core_language.specs.Verdict.{Broken, is_before_seat, IsFirstBroken}
use Rattle.pb_compile_verdict_laws.proofs.Breaches.{alike, seats_both}

split : (a b : ℕ) (p : Bool) → (nat_lt a b || (nat_eq a b && p)) ≡ false → (b ≤ a) × (a ≡ b → p ≡ false)
split a b p h =
    let parts = or_parts (nat_lt a b) (nat_eq a b && p) h in
    (ltb-false a b parts.0, λ e. elim (and_cases (nat_eq a b) p parts.1) [ inl x ↦ absurd (true≢false (sym (eq-eqb a b e) ∙ x)) | inr y ↦ y ])

same_int : (a b : ℤ) → a ≡ b → int_eq a b ≡ true
same_int a b h = grind (arith, ints)

int_above : (a b : ℤ) → int_lt a b ≡ false → b ≤ℤ a
int_above a b h = grind (arith, ints)

split_int : (a b : ℤ) (p : Bool) → (int_lt a b || (int_eq a b && p)) ≡ false → (b ≤ℤ a) × (a ≡ b → p ≡ false)
split_int a b p h =
    let parts = or_parts (int_lt a b) (int_eq a b && p) h in
    (int_above a b parts.0, λ e. elim (and_cases (int_eq a b) p parts.1) [ inl x ↦ absurd (true≢false (sym (same_int a b e) ∙ x)) | inr y ↦ y ])

-- two numbers of which neither is less
both_ways : (a b : ℕ) → b ≤ a → a ≤ b → a ≡ b
both_ways a b h k = omega arith

both_ways_int : (a b : ℤ) → b ≤ℤ a → a ≤ℤ b → a ≡ b
both_ways_int a b h k = omega (arith, ints)

seat_of : ℕ → ℤ → Seat
seat_of role index = record { role = role; index = index }

one_seat : (a b : Seat) → is_before_seat (Some a) (Some b) ≡ false → is_before_seat (Some b) (Some a) ≡ false → a ≡ b
unfolding seat_of
one_seat a b h k =
    let s = split a.role b.role (int_lt a.index b.index) h in
    let t = split b.role a.role (int_lt b.index a.index) k in
    let role : a.role ≡ b.role = both_ways a.role b.role s.0 t.0 in
    let index : a.index ≡ b.index = both_ways_int a.index b.index (int_above a.index b.index (s.1 role)) (int_above b.index a.index (t.1 (sym role))) in
    ap₂ seat_of role index

one_at : (a b : Option Seat) → ((a ≡ None) × (b ≡ None)) ⊎ ((s : Seat) × (t : Seat) × (a ≡ Some s) × (b ≡ Some t)) → is_before_seat a b ≡ false → is_before_seat b a ≡ false → a ≡ b
one_at a b (inl e) h k = e.0 ∙ sym e.1
one_at a b (inr (s, t, d, e)) h k =
    let one : is_before_seat (Some s) (Some t) ≡ false = subst (λ (x : Option Seat). is_before_seat x (Some t) ≡ false) d (subst (λ (y : Option Seat). is_before_seat a y ≡ false) e h) in
    let other : is_before_seat (Some t) (Some s) ≡ false = subst (λ (x : Option Seat). is_before_seat x (Some s) ≡ false) e (subst (λ (y : Option Seat). is_before_seat b y ≡ false) d k) in
    d ∙ ap Some (one_seat s t one other) ∙ sym e

-- what two first breaches have in common
pub record Same (b c : Broken) : Type 0 where
  pub rule : b.breach.rule ≡ c.breach.rule
  pub place : b.breach.mark.place ≡ c.breach.mark.place
  pub n : b.n ≡ c.n
  pub at : b.breach.at ≡ c.breach.at

pub one_first : (f : PlainFile) (b c : Broken) → IsFirstBroken (meaning f) b → IsFirstBroken (meaning f) c → Same b c
one_first f b c x y =
    let s = split b.breach.rule c.breach.rule _ (y.first b x.broken) in
    let t = split c.breach.rule b.breach.rule _ (x.first c y.broken) in
    let rule : b.breach.rule ≡ c.breach.rule = both_ways b.breach.rule c.breach.rule s.0 t.0 in
    let u = split b.breach.mark.number c.breach.mark.number _ (s.1 rule) in
    let v = split c.breach.mark.number b.breach.mark.number _ (t.1 (sym rule)) in
    let number : b.breach.mark.number ≡ c.breach.mark.number = both_ways b.breach.mark.number c.breach.mark.number u.0 v.0 in
    let w = split_int b.n c.n _ (u.1 number) in
    let z = split_int c.n b.n _ (v.1 (sym number)) in
    let n : b.n ≡ c.n = both_ways_int b.n c.n w.0 z.0 in
    let like = alike f b.n c.n b.breach c.breach x.broken.there y.broken.there rule number in
    record {
      rule = rule;
      place = ap (λ (m : Mark). m.place) like.mark;
      n = n;
      at = one_at b.breach.at c.breach.at (seats_both b.breach.at c.breach.at like.seat) (w.1 n) (z.1 (sym n));
    }
