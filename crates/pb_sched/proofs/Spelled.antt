-- A number in front of a text is spelled in decimal, and each number that is spelled so is read.
use Rattle.std.proofs.Common.{◌≡◌, ℕ, ◌+◌, ◌-◌, ◌*◌, ◌^◌, ◌<◌, ltb-true, Bool, true, false, cond, List, [], ◌∷◌, ◌++◌, length, get_or, Option, Some, None, refl, sym, ap, ap₂, subst, ◌∙◌, arith, eqb-true}
use Rattle.std.specs.Prelude.{nat_eq, nat_lt, decimal}
use Rattle.std.specs.Char.{is_ascii_digit}
use Rattle.std.specs.Str.{all_ascii_digits}
use Rattle.std.proofs.lemmas.Bool.Decides.{nat_tests}
use Rattle.std.proofs.lemmas.Fmt.{decimal-digits_value, decimal_digit, first_decimal}
use Rattle.pb_text.specs.Lexemes.{value_from}
use Rattle.pb_text_read.specs.Fronts.{digits_below, number_below}
use Rattle.pb_text_read.proofs.Digits.{begins_digit, own, number_again as below_again}
use Rattle.pb_sched.specs.Parts.{number_at}
use Rattle.pb_sched.proofs.Strips.{some_pair}

not_zero : (c : ℕ) → 48 < c → nat_eq c 48 ≡ false
not_zero c h = grind (arith, nat_tests)

-- a zero in front is a number of its own
without_zero : (ds rest : List ℕ) → 48 < get_or ds 0 0 → number_at (ds ++ rest) ≡ number_below (2 ^ 64) (ds ++ rest)
without_zero [] rest some = absurd (omega (arith, some))
without_zero (c ∷ cs) rest some = rw (not_zero c some) refl

positive_again : (n : ℕ) (rest : List ℕ) → 0 < n → n < 2 ^ 64 → begins_digit rest ≡ false → number_at (decimal n ++ rest) ≡ Some (n, rest)
positive_again n rest some small ends =
    without_zero (decimal n) rest (first_decimal n some small) ∙ below_again (2 ^ 64) n rest small small ends

pub number_again : (n : ℕ) (rest : List ℕ) → n < 2 ^ 64 → begins_digit rest ≡ false → number_at (decimal n ++ rest) ≡ Some (n, rest)
number_again n rest small ends = by_test (nat_lt 0 n) refl
  where
    by_test : (b : Bool) → nat_lt 0 n ≡ b → number_at (decimal n ++ rest) ≡ Some (n, rest)
    by_test true e = positive_again n rest (ltb-true 0 n e) small ends
    by_test false e =
        let z : n ≡ 0 = grind (arith, nat_tests) in
        subst (λ k. number_at (decimal k ++ rest) ≡ Some (k, rest)) (sym z) (ap (λ ds. number_at (ds ++ rest)) (decimal_digit 0 (omega arith)))

record Digits (n : ℕ) (cs : List ℕ) (v : ℕ) (rest : List ℕ) : Type 0 where
  ds : List ℕ
  is : cs ≡ ds ++ rest
  all : all_ascii_digits ds ≡ true
  value : v ≡ value_from n ds
  small : v < 2 ^ 64

no_more : (n v : ℕ) (cs rest : List ℕ) → n < 2 ^ 64 → ◌≡◌ {A = Option (ℕ × List ℕ)} (Some (n, cs)) (Some (v, rest)) → Digits n cs v rest
no_more n v cs rest s h = let p = some_pair h in record { ds = []; is = p.1; all = refl; value = sym p.0; small = omega (arith, p.0, s) }

one_more : (n c v : ℕ) (cs rest : List ℕ) → is_ascii_digit c ≡ true → Digits (10 * n + (c - 48)) cs v rest → Digits n (c ∷ cs) v rest
one_more n c v cs rest d r = record { ds = c ∷ r.ds; is = ap (λ xs. c ∷ xs) r.is; all = rw d r.all; value = r.value; small = r.small }

digits_sound : (n : ℕ) (cs : List ℕ) (v : ℕ) (rest : List ℕ) → n < 2 ^ 64 → digits_below (2 ^ 64) n cs ≡ Some (v, rest) → Digits n cs v rest
digits_sound n [] v rest s h = no_more n v [] rest s h
digits_sound n (c ∷ cs) v rest s h = go (is_ascii_digit c) refl h (digits_sound (10 * n + (c - 48)) cs v rest)
  where
    fits : (b : Bool) → nat_lt (10 * n + (c - 48)) (2 ^ 64) ≡ b → cond b (digits_below (2 ^ 64) (10 * n + (c - 48)) cs) None ≡ Some (v, rest)
        → (10 * n + (c - 48) < 2 ^ 64 → digits_below (2 ^ 64) (10 * n + (c - 48)) cs ≡ Some (v, rest) → Digits (10 * n + (c - 48)) cs v rest) → Digits (10 * n + (c - 48)) cs v rest
    fits true e g more = more (ltb-true _ _ e) g
    fits false e g more = absurd cc

    go : (b : Bool) → is_ascii_digit c ≡ b → cond b (cond (nat_lt (10 * n + (c - 48)) (2 ^ 64)) (digits_below (2 ^ 64) (10 * n + (c - 48)) cs) None) (Some (n, c ∷ cs)) ≡ Some (v, rest)
        → (10 * n + (c - 48) < 2 ^ 64 → digits_below (2 ^ 64) (10 * n + (c - 48)) cs ≡ Some (v, rest) → Digits (10 * n + (c - 48)) cs v rest) → Digits n (c ∷ cs) v rest
    go true e g more = one_more n c v cs rest e (fits (nat_lt (10 * n + (c - 48)) (2 ^ 64)) refl g more)
    go false e g more = no_more n v (c ∷ cs) rest s g

digit_small : (c : ℕ) → is_ascii_digit c ≡ true → c - 48 < 2 ^ 64
digit_small c e = grind (arith, nat_tests)

pub record Spelled (n : ℕ) (text rest : List ℕ) : Type 0 where
  pub is : text ≡ decimal n ++ rest
  pub small : n < 2 ^ 64

zero_spelled : (c n : ℕ) (cs rest : List ℕ) → nat_eq c 48 ≡ true → ◌≡◌ {A = Option (ℕ × List ℕ)} (Some (0, cs)) (Some (n, rest)) → Spelled n (c ∷ cs) rest
zero_spelled c n cs rest e h =
    let p = some_pair h in
    subst (λ m. Spelled m (c ∷ cs) rest) p.0 (record { is = ap₂ (λ x xs. x ∷ xs) (eqb-true c 48 e) p.1 ∙ sym (ap (λ ds. ds ++ rest) (decimal_digit 0 (omega arith))); small = omega arith })

digits_spelled : (c n : ℕ) (cs rest : List ℕ) → nat_eq c 48 ≡ false → is_ascii_digit c ≡ true → Digits (c - 48) cs n rest → Spelled n (c ∷ cs) rest
digits_spelled c n cs rest e d r =
    let k : c - 48 ≡ 10 * 0 + (c - 48) = omega arith in
    let v : n ≡ value_from 0 (c ∷ r.ds) = r.value ∙ ap (λ m. value_from m r.ds) k in
    let zero : get_or (c ∷ r.ds) 0 0 ≡ 48 → length (c ∷ r.ds) ≡ 1 = λ z. absurd (apart c z e) in
    let text = decimal-digits_value own (c ∷ r.ds) (rw d r.all) (omega arith) zero (omega (arith, v, r.small)) in
    record { is = ap (λ xs. c ∷ xs) r.is ∙ sym (ap (λ ds. ds ++ rest) (ap (λ m. decimal m) v ∙ text)); small = r.small }
  where
    apart : (c : ℕ) → c ≡ 48 → nat_eq c 48 ≡ false → ⊥
    apart c z e = grind (arith, nat_tests)

pub number_sound : (text : List ℕ) (n : ℕ) (rest : List ℕ) → number_at text ≡ Some (n, rest) → Spelled n text rest
number_sound [] n rest h = absurd cc
number_sound (c ∷ cs) n rest h = go (nat_eq c 48) refl h
  where
    other : nat_eq c 48 ≡ false → (b : Bool) → is_ascii_digit c ≡ b → cond b (digits_below (2 ^ 64) (c - 48) cs) None ≡ Some (n, rest) → Spelled n (c ∷ cs) rest
    other e true d g = digits_spelled c n cs rest e d (digits_sound (c - 48) cs n rest (digit_small c d) g)
    other e false d g = absurd cc

    go : (b : Bool) → nat_eq c 48 ≡ b → cond b (Some (0, cs)) (cond (is_ascii_digit c) (digits_below (2 ^ 64) (c - 48) cs) None) ≡ Some (n, rest) → Spelled n (c ∷ cs) rest
    go true e g = zero_spelled c n cs rest e g
    go false e g = other e (is_ascii_digit c) refl g
