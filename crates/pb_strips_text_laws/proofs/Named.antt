-- The names of columns are names of a text.
use Rattle.std.proofs.Common.{◌≡◌, ℕ, ◌+◌, ◌^◌, ◌<◌, ◌≤◌, Bool, true, false, ◌||◌, cond, nat_eq, List, [], ◌∷◌, ◌++◌, length, length-append, None, refl, sym, ap, ◌∙◌, arith, rules}
use Rattle.std.specs.Prelude.{decimal, find}
use Rattle.std.specs.Char.{is_ascii_digit}
use Rattle.std.specs.List.{prefix_len}
use Rattle.std.specs.Str.{all_ascii_digits}
use Rattle.std.specs.Cmp.Lexicographic.{pointwise}
use Rattle.std.proofs.lemmas.Bool.{and_parts, false≢true}
use Rattle.std.proofs.lemmas.Str.Parse.{IsNumeralModel, numerals_by_fold}
use Rattle.std.proofs.lemmas.Fmt.{digits_decimal, length-decimal-le}
use Rattle.std.proofs.lemmas.Slice.Eq.{bytes_eq-Decides}
use Rattle.pb_text.specs.declared.token.Key.{Key}
use Rattle.pb_text.specs.declared.token.Key.TheVariants as keys
use Rattle.pb_text.specs.Lexemes.{begins_word, goes_on_word, value_from}
use Rattle.pb_text.specs.Spellings.{key_of, key_spelling}
use Rattle.pb_text.specs.Spellings as spellings
use Rattle.pb_syntax.proofs.Relex.{IsWritten, starts}
use Rattle.pb_syntax.proofs.Relex as relex
use Rattle.pb_do_text_laws.proofs.Renamed.{IsWord}
use Rattle.pb_strips_syntax.specs.Columns.{Name, column_name}

-- ---- its bytes

goes_both : (xs ys : List ℕ) → prefix_len goes_on_word xs ≡ length xs → prefix_len goes_on_word ys ≡ length ys → prefix_len goes_on_word (xs ++ ys) ≡ length (xs ++ ys)
goes_both [] ys a b = b
goes_both (x ∷ xs) ys a b = by (goes_on_word x) refl a (λ rest. goes_both xs ys rest b)
  where
    by : (c : Bool) → goes_on_word x ≡ c → cond c (1 + prefix_len goes_on_word xs) 0 ≡ length (x ∷ xs) → (prefix_len goes_on_word xs ≡ length xs → prefix_len goes_on_word (xs ++ ys) ≡ length (xs ++ ys))
        → prefix_len goes_on_word ((x ∷ xs) ++ ys) ≡ length ((x ∷ xs) ++ ys)
    by true e h others = let less : prefix_len goes_on_word xs ≡ length xs = omega (arith, h) in rw e (ap (λ (n : ℕ). 1 + n) (others less) ∙ omega arith)
    by false e h others = absurd (omega (arith, h))

digit_goes : (d : ℕ) → is_ascii_digit d ≡ true → goes_on_word d ≡ true
digit_goes d digit = grind (arith, digit)

digits_go : (ds : List ℕ) → all_ascii_digits ds ≡ true → prefix_len goes_on_word ds ≡ length ds
digits_go [] all = refl
digits_go (d ∷ ds) all =
    let parts = and_parts (is_ascii_digit d) (all_ascii_digits ds) all in
    rw (digit_goes d parts.0) (ap (λ (n : ℕ). 1 + n) (digits_go ds parts.1) ∙ omega arith)

numerals : IsNumeralModel (λ ds. all_ascii_digits ds ≡ true) (value_from 0)
numerals = numerals_by_fold _ (search rules) value_from (search rules)

number_goes : (c : ℕ) → c ≤ 63 → prefix_len goes_on_word (95 ∷ decimal c) ≡ length (95 ∷ decimal c)
number_goes c few =
    let wide : c < 2 ^ 64 = omega (arith, few) in
    ap (λ (n : ℕ). 1 + n) (digits_go (decimal c) (digits_decimal numerals c wide)) ∙ omega arith

begins : (x ys : List ℕ) → starts begins_word x ≡ true → starts begins_word (x ++ ys) ≡ true
begins [] ys e = absurd (false≢true e)
begins (b ∷ bs) ys e = e

-- ---- no keyword has an underscore

abbrev has_underscore : List ℕ → Bool
has_underscore [] = false
has_underscore (b ∷ bs) = nat_eq b 95 || has_underscore bs

underscore_in : (xs ys : List ℕ) → has_underscore (xs ++ 95 ∷ ys) ≡ true
underscore_in [] ys = refl
underscore_in (x ∷ xs) ys = by (nat_eq x 95) (underscore_in xs ys)
  where
    by : (b : Bool) {c : Bool} → c ≡ true → (b || c) ≡ true
    by true e = refl
    by false e = e

key_has_none : (k : Key) → has_underscore (key_spelling k) ≡ false
key_has_none keys.Const = refl
key_has_none keys.Global = refl
key_has_none keys.Protocol = refl
key_has_none keys.Role = refl
key_has_none keys.From = refl
key_has_none keys.To = refl
key_has_none keys.Foreach = refl
key_has_none keys.Rec = refl
key_has_none keys.Continue = refl
key_has_none keys.Choice = refl
key_has_none keys.At = refl
key_has_none keys.Or = refl
key_has_none keys.Compute = refl
key_has_none keys.Barrier = refl
key_has_none keys.Broadcast = refl
key_has_none keys.Reduce = refl
key_has_none keys.Allreduce = refl
key_has_none keys.With = refl
key_has_none keys.Max = refl
key_has_none keys.Min = refl
key_has_none keys.Sum = refl
key_has_none keys.Int32 = refl
key_has_none keys.Uint32 = refl
key_has_none keys.Do = refl

other_key : (w : List ℕ) (k : Key) → has_underscore w ≡ true → pointwise nat_eq w (key_spelling k) ≡ false
other_key w k has = by (pointwise nat_eq w (key_spelling k)) refl
  where
    by : (b : Bool) → pointwise nat_eq w (key_spelling k) ≡ b → pointwise nat_eq w (key_spelling k) ≡ false
    by true e = absurd (false≢true (sym (key_has_none k) ∙ ap has_underscore (sym ((bytes_eq-Decides w (key_spelling k)).0 e)) ∙ has))
    by false e = e

none_found : (test : Key → Bool) → ((k : Key) → test k ≡ false) → (ks : List Key) → find test ks ≡ None
none_found test none [] = refl
none_found test none (k ∷ ks) = rw (none k) (none_found test none ks)

no_key : (w : List ℕ) → has_underscore w ≡ true → key_of w ≡ None
unfolding key_of
no_key w has = none_found (λ k. pointwise nat_eq w (key_spelling k)) (λ k. other_key w k has) spellings.keys

-- ---- a column's name

pub column_word : (strip : Name) (c : ℕ) → IsWord strip → length strip ≤ 60 → c ≤ 63 → IsWord (column_name strip c)
column_word strip c is short few =
    let two : length (decimal c) ≤ 2 = length-decimal-le 2 c (omega arith) (omega (arith, few)) (omega (arith, few)) in
    let word : relex.IsWord (column_name strip c) = record {
      begins = begins strip (95 ∷ decimal c) is.0.begins;
      goes_on = goes_both strip (95 ∷ decimal c) is.0.goes_on (number_goes c few);
    } in
    (word, omega (arith, two, short, length-append strip (95 ∷ decimal c)), no_key (column_name strip c) (underscore_in strip (decimal c)))
