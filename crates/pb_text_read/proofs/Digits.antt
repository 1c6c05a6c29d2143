-- A number that is spelled in decimal is read again.
use Rattle.std.proofs.Common.{◌≡◌, ℕ, ◌+◌, ◌-◌, ◌*◌, ◌^◌, ◌<◌, ◌≤◌, lt-ltb, Bool, true, false, cond, List, [], ◌∷◌, ◌++◌, length, Some, None, refl, sym, ap, ◌∙◌, arith, eqb-true, rules}
use Rattle.std.specs.Prelude.{nat_eq, nat_lt, decimal, ◌&&◌}
use Rattle.std.specs.Char.{is_ascii_digit}
use Rattle.std.specs.Str.{all_ascii_digits}
use Rattle.std.proofs.lemmas.Str.Parse.{IsNumeralModel, numerals_by_fold}
use Rattle.std.proofs.lemmas.Fmt.{digits_decimal, digits_value-decimal, decimal_nonempty}
use Rattle.pb_text.specs.Lexemes.{value_from}
use Rattle.pb_text_read.specs.Fronts.{strip, digits_below, number_below}

abbrev pub begins_digit : List ℕ → Bool
begins_digit [] = false
begins_digit (c ∷ cs) = is_ascii_digit c

pub own : IsNumeralModel (λ ds. all_ascii_digits ds ≡ true) (value_from 0)
own = numerals_by_fold _ (search rules) value_from (search rules)

and_left : (a b : Bool) → (a && b) ≡ true → a ≡ true
and_left true b e = refl
and_left false b e = absurd cc

and_right : (a b : Bool) → (a && b) ≡ true → b ≡ true
and_right true b e = e
and_right false b e = absurd cc

stops : (limit n : ℕ) (rest : List ℕ) → begins_digit rest ≡ false → digits_below limit n rest ≡ Some (n, rest)
stops limit n [] e = refl
stops limit n (c ∷ cs) e = rw e refl

pub grows : (ds : List ℕ) (n : ℕ) → n ≤ value_from n ds
grows [] n = omega arith
grows (c ∷ cs) n = omega (arith, grows cs (10 * n + (c - 48)))

pub along : (limit : ℕ) (ds rest : List ℕ) (n : ℕ) → all_ascii_digits ds ≡ true → begins_digit rest ≡ false → value_from n ds < limit
    → digits_below limit n (ds ++ rest) ≡ Some (value_from n ds, rest)
along limit [] rest n all ends small = stops limit n rest ends
along limit (c ∷ cs) rest n all ends small =
    let d : is_ascii_digit c ≡ true = and_left _ _ all in
    let fits : nat_lt (10 * n + (c - 48)) limit ≡ true = lt-ltb _ _ (omega (arith, small, grows cs (10 * n + (c - 48)))) in
    rw (d, fits) (along limit cs rest (10 * n + (c - 48)) (and_right _ _ all) ends small)

digits_again : (limit : ℕ) (ds rest : List ℕ) → all_ascii_digits ds ≡ true → 0 < length ds → begins_digit rest ≡ false → value_from 0 ds < limit
    → number_below limit (ds ++ rest) ≡ Some (value_from 0 ds, rest)
digits_again limit [] rest all some ends small = absurd (omega (arith, some))
digits_again limit (c ∷ cs) rest all some ends small =
    let d : is_ascii_digit c ≡ true = and_left _ _ all in
    let k : c - 48 ≡ 10 * 0 + (c - 48) = omega arith in
    rw d (ap (λ n. digits_below limit n (cs ++ rest)) k ∙ along limit cs rest (10 * 0 + (c - 48)) (and_right _ _ all) ends small)

-- a number below the limit, and below those that decimal spells
pub number_again : (limit n : ℕ) (rest : List ℕ) → n < 2 ^ 64 → n < limit → begins_digit rest ≡ false → number_below limit (decimal n ++ rest) ≡ Some (n, rest)
number_again limit n rest wide small ends =
    let value : value_from 0 (decimal n) ≡ n = digits_value-decimal own n wide in
    digits_again limit (decimal n) rest (digits_decimal own n wide) (decimal_nonempty n wide) ends (omega (arith, value, small)) ∙ ap (λ k. Some (k, rest)) value

-- digits begin with no other byte
digits_first : (p : ℕ) (ps ds rest : List ℕ) → is_ascii_digit p ≡ false → all_ascii_digits ds ≡ true → 0 < length ds → strip (p ∷ ps) (ds ++ rest) ≡ None
digits_first p ps [] rest other all some = absurd (omega (arith, some))
digits_first p ps (c ∷ cs) rest other all some = differ (nat_eq p c) refl where
  differ : (b : Bool) → nat_eq p c ≡ b → cond b (strip ps (cs ++ rest)) None ≡ None
  differ false e = refl
  differ true e = let same : p ≡ c = eqb-true p c e in absurd (apart same) where
    apart : p ≡ c → ⊥
    apart same = let d : is_ascii_digit c ≡ true = and_left _ _ all in let f : is_ascii_digit c ≡ false = ap is_ascii_digit (sym same) ∙ other in absurd cc

pub decimal_first : (p : ℕ) (ps : List ℕ) (n : ℕ) (rest : List ℕ) → is_ascii_digit p ≡ false → n < 2 ^ 64 → strip (p ∷ ps) (decimal n ++ rest) ≡ None
decimal_first p ps n rest other small = digits_first p ps (decimal n) rest other (digits_decimal own n small) (decimal_nonempty n small)
