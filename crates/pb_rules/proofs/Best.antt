-- The best of many traps is a breach of one of them, and no breach of theirs comes before it.
use Rattle.std.proofs.Common.{◌≡◌, ℤ, ◌≤ℤ◌, true, false, int_le, ◌⊎◌, inl, inr, Option, Some, None, List, [], ◌∷◌, if◌then◌else◌, refl, sym, ap, subst, arith}
use Rattle.std.proofs.lemmas.Bool.{cases_Bool}
use Rattle.std.proofs.lemmas.Int.{ints}
use Rattle.pb_core_language.specs.Verdict.{Broken, is_before, is_before_seat}
use Rattle.pb_rules.specs.declared.found.Found.{Found}
use Rattle.pb_rules.specs.declared.span.Span.{Span}
use Rattle.pb_rules.specs.declared.trap.Trap.{Trap}
use Rattle.pb_rules.specs.Verdict.{seat_if, IsNamedBut}
use Rattle.pb_rules.specs.Lines.{IsUpTo, IsInSpan, first_before, first_of}
use Rattle.pb_rules.specs.Traps.{at_n, found_at, found_if, first_found, broken_of, earlier, kept, kept_all}
use Rattle.pb_rules.proofs.Order.{falls, turns, not_before}

-- ---- the least number of a span

record IsLeast (s : Span) (n : ℤ) : Type 0 where
  m : ℤ
  is : first_of s ≡ Some m
  most : m ≤ℤ n

before_found : (from : ℤ) (until : Option ℤ) (n : ℤ) → from ≤ℤ n → IsUpTo n until → first_before from until ≡ Some from
before_found from None n low high = refl
before_found from (Some u) n low high = ap (λ b. if b then Some from else None) (within from n u low high) where
  within : (a b c : ℤ) → a ≤ℤ b → b ≤ℤ c → int_le a c ≡ true
  within a b c h k = grind (arith, ints)

least : (s : Span) (n : ℤ) → IsInSpan s n → IsLeast s n
least s n h = record { m = s.from; is = before_found s.from s.until n h.low h.high; most = h.low }

abbrev IfNumber : (ℤ → Type 0) → Option ℤ → Type 0
IfNumber Q None = Unit {0}
IfNumber Q (Some n) = Q n

le_from : (a b : ℤ) → int_le a b ≡ true → a ≤ℤ b
le_from a b h = grind (arith, ints)

le_same : (a : ℤ) → a ≤ℤ a
le_same a = omega (arith, ints)

first_holds : (Q : ℤ → Type 0) (from : ℤ) (until : Option ℤ) → (IsUpTo from until → Q from) → IfNumber Q (first_before from until)
first_holds Q from None k = k tt
first_holds Q from (Some u) k =
    elim (cases_Bool (int_le from u)) [
      | inl y ↦ subst (λ b. IfNumber Q (if b then Some from else None)) (sym y) (k (le_from from u y))
      | inr z ↦ subst (λ b. IfNumber Q (if b then Some from else None)) (sym z) tt
    ]

-- ---- what holds of the first breach

abbrev pub IfFound : (Found → Type 0) → Option Found → Type 0
IfFound Q None = Unit {0}
IfFound Q (Some f) = Q f

found_holds : (Q : Found → Type 0) (t : Trap) (o : Option ℤ) → IfNumber (λ n. Q (found_at t n)) o → IfFound Q (found_if t o)
found_holds Q t None h = tt
found_holds Q t (Some n) h = h

earlier_holds : (Q : Found → Type 0) (a b : Option Found) → IfFound Q a → IfFound Q b → IfFound Q (earlier a b)
earlier_holds Q a None h k = h
earlier_holds Q None (Some f) h k = k
earlier_holds Q (Some b) (Some f) h k =
    elim (cases_Bool (is_before (broken_of f) (broken_of b))) [
      | inl y ↦ subst (λ u. Q (if u then f else b)) (sym y) k
      | inr z ↦ subst (λ u. Q (if u then f else b)) (sym z) h
    ]

kept_holds : (Q : Found → Type 0) (t : Trap) (best : Option Found) → IfFound Q best → ((n : ℤ) → IsInSpan t.span n → Q (found_at t n)) → IfFound Q (kept t best)
kept_holds Q t best h k =
    earlier_holds Q best (first_found t) h
    (found_holds Q t (first_of t.span) (first_holds (λ n. Q (found_at t n)) t.span.from t.span.until (λ up. k t.span.from (record { low = le_same t.span.from; high = up }))))

abbrev pub AllHold : (Found → Type 0) → List Trap → Type 0
AllHold Q [] = Unit {0}
AllHold Q (t ∷ ts) = ((n : ℤ) → IsInSpan t.span n → Q (found_at t n)) × AllHold Q ts

pub all_hold : (Q : Found → Type 0) (ts : List Trap) (best : Option Found) → IfFound Q best → AllHold Q ts → IfFound Q (kept_all ts best)
all_hold Q [] best h k = h
all_hold Q (t ∷ ts) best h k = all_hold Q ts (kept t best) (kept_holds Q t best h k.0) k.1

-- ---- what is not before the first breach

abbrev pub IsNotBefore : Broken → Option Found → Type 0
IsNotBefore c None = ⊥
IsNotBefore c (Some f) = is_before c (broken_of f) ≡ false

abbrev pub IsNamedFound : Found → Type 0
IsNamedFound f = IsNamedBut 6 f.rule (seat_if f.at)

abbrev pub IsNamedBroken : Broken → Type 0
IsNamedBroken c = IsNamedBut 6 c.breach.rule c.breach.at

abbrev pub IsNamedTrap : Trap → Type 0
IsNamedTrap t = (n : ℤ) → IsNamedBut 6 t.rule (seat_if (at_n t.at n))

earlier_stays : (c : Broken) (a b : Option Found) → IsNamedBroken c → IfFound IsNamedFound a → IsNotBefore c a → IsNotBefore c (earlier a b)
earlier_stays c a None k ka h = h
earlier_stays c None (Some f) k ka h = absurd h
earlier_stays c (Some b) (Some f) k kb h =
    elim (cases_Bool (is_before (broken_of f) (broken_of b))) [
      | inl y ↦ subst (λ u. is_before c (broken_of (if u then f else b)) ≡ false) (sym y) (falls 6 c (broken_of b) (broken_of f) k kb h (turns (broken_of f) (broken_of b) y))
      | inr z ↦ subst (λ u. is_before c (broken_of (if u then f else b)) ≡ false) (sym z) h
    ]

earlier_comes : (c : Broken) (a : Option Found) (f : Found) → IsNamedBroken c → IsNamedFound f → is_before c (broken_of f) ≡ false → IsNotBefore c (earlier a (Some f))
earlier_comes c None f k kf h = h
earlier_comes c (Some b) f k kf h =
    elim (cases_Bool (is_before (broken_of f) (broken_of b))) [
      | inl y ↦ subst (λ u. is_before c (broken_of (if u then f else b)) ≡ false) (sym y) h
      | inr z ↦ subst (λ u. is_before c (broken_of (if u then f else b)) ≡ false) (sym z) (falls 6 c (broken_of f) (broken_of b) k kf h z)
    ]

-- the trap has a breach at the N of this one, of the same rule and place, and with no later seat
pub record IsCovering (t : Trap) (c : Broken) : Type 0 where
  pub span : IsInSpan t.span c.n
  pub rule : c.breach.rule ≡ t.rule
  pub number : c.breach.mark.number ≡ t.number
  pub seat : is_before_seat c.breach.at (seat_if (at_n t.at c.n)) ≡ false

kept_comes : (c : Broken) (t : Trap) (best : Option Found) → IsNamedBroken c → IsNamedTrap t → IsCovering t c → IsNotBefore c (kept t best)
kept_comes c t best k kt h =
    let l = least t.span c.n h.span in
    subst (λ o. IsNotBefore c (earlier best (found_if t o))) (sym l.is)
    (earlier_comes c best (found_at t l.m) k (kt l.m)
    (not_before c (broken_of (found_at t l.m)) h.rule h.number l.most (λ e. subst (λ n. is_before_seat c.breach.at (seat_if (at_n t.at n)) ≡ false) e h.seat)))

abbrev pub AnyCovers : List Trap → Broken → Type 0
AnyCovers [] c = ⊥
AnyCovers (t ∷ ts) c = IsCovering t c ⊎ AnyCovers ts c

abbrev pub AllNamed : List Trap → Type 0
AllNamed [] = Unit {0}
AllNamed (t ∷ ts) = IsNamedTrap t × AllNamed ts

abbrev pub IfNamed : Option Found → Type 0
IfNamed o = IfFound IsNamedFound o

kept_named : (t : Trap) (best : Option Found) → IsNamedTrap t → IfNamed best → IfNamed (kept t best)
kept_named t best kt h = kept_holds IsNamedFound t best h (λ n _. kt n)

pub all_named : (ts : List Trap) (best : Option Found) → AllNamed ts → IfNamed best → IfNamed (kept_all ts best)
all_named [] best ks h = h
all_named (t ∷ ts) best ks h = all_named ts (kept t best) ks.1 (kept_named t best ks.0 h)

pub all_stay : (c : Broken) (ts : List Trap) (best : Option Found) → IsNamedBroken c → AllNamed ts → IfNamed best → IsNotBefore c best → IsNotBefore c (kept_all ts best)
all_stay c [] best k ks kb h = h
all_stay c (t ∷ ts) best k ks kb h = all_stay c ts (kept t best) k ks.1 (kept_named t best ks.0 kb) (earlier_stays c best (first_found t) k kb h)

pub all_come : (c : Broken) (ts : List Trap) (best : Option Found) → IsNamedBroken c → AllNamed ts → IfNamed best → AnyCovers ts c → IsNotBefore c (kept_all ts best)
all_come c [] best k ks kb h = absurd h
all_come c (t ∷ ts) best k ks kb (inl h) = all_stay c ts (kept t best) k ks.1 (kept_named t best ks.0 kb) (kept_comes c t best k ks.0 h)
all_come c (t ∷ ts) best k ks kb (inr h) = all_come c ts (kept t best) k ks.1 (kept_named t best ks.0 kb) h
