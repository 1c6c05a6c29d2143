-- Numbers as digits.
use Rattle.std.proofs.Common.{◌≡◌, ℕ, ◌+◌, ◌-◌, ◌*◌, ◌^◌, ◌<◌, ◌≤◌, Bool, true, false, cond, List, [], ◌∷◌, length, Some, None, refl, ap, ◌∙◌, nat_lt, nat_le, arith, ltb-true, ltb-false, leb-true, drop, slice_index_or}
use Rattle.std.proofs.lemmas.List.{drop_more}
use Rattle.std.specs.Prelude.{◌&&◌}
use Rattle.std.specs.Char.{is_ascii_digit}
use Rattle.pb_text.specs.Lexemes.{value_from}
use Rattle.pb_cli_words.specs.Numbers.{all_digits, number_behind, number_in}

grows : (n : ℕ) (text : List ℕ) → n ≤ value_from n text
grows n [] = omega arith
grows n (c ∷ cs) = let h = grows (10 * n + (c - 48)) cs in omega arith

-- a front that is too large makes all too large
too_large : (n : ℕ) (text : List ℕ) → 2 ^ 64 ≤ n → number_behind n text ≡ None
too_large n text h = go (all_digits text) (nat_lt (value_from n text) (2 ^ 64)) refl
  where
    go : (a b : Bool) → nat_lt (value_from n text) (2 ^ 64) ≡ b → cond (a && b) (Some (value_from n text)) None ≡ None
    go true true e = let g = grows n text in let l = ltb-true (value_from n text) (2 ^ 64) e in absurd (omega arith)
    go true false e = refl
    go false b e = refl

pub step : (n c : ℕ) (cs : List ℕ) → number_behind n (c ∷ cs) ≡ cond (is_ascii_digit c) (number_behind (10 * n + (c - 48)) cs) None
step n c cs = go (is_ascii_digit c)
  where
    go : (b : Bool) → cond ((b && all_digits cs) && nat_lt (value_from (10 * n + (c - 48)) cs) (2 ^ 64)) (Some (value_from (10 * n + (c - 48)) cs)) None ≡ cond b (number_behind (10 * n + (c - 48)) cs) None
    go true = refl
    go false = refl

pub overflows : (n at : ℕ) (text : List ℕ) → at < length text → 2 ^ 64 ≤ 10 * n + (slice_index_or text at 0 - 48) → number_behind n (drop at text) ≡ None
overflows n at text there h =
    ap (number_behind n) (drop_more text at 0 there) ∙ (step n (slice_index_or text at 0) (drop (at + 1) text) ∙ go (is_ascii_digit (slice_index_or text at 0)) (too_large (10 * n + (slice_index_or text at 0 - 48)) (drop (at + 1) text) h))
  where
    go : (b : Bool) → number_behind (10 * n + (slice_index_or text at 0 - 48)) (drop (at + 1) text) ≡ None
        → cond b (number_behind (10 * n + (slice_index_or text at 0 - 48)) (drop (at + 1) text)) None ≡ None
    go true e = e
    go false e = refl

-- a number that doesn't fit is in no range, and one that fits is where it is within
pub no_number : (low high : ℕ) (text : List ℕ) → high < 2 ^ 64 → number_behind 0 text ≡ None → number_in low high text ≡ None
no_number low high text small h = go (nat_lt 0 (length text)) (nat_le (length text) 20) (all_digits text) (nat_lt (value_from 0 text) (2 ^ 64)) (nat_le low (value_from 0 text)) (nat_le (value_from 0 text) high) refl refl h
  where
    go : (a b c d e f : Bool) → nat_lt (value_from 0 text) (2 ^ 64) ≡ d → nat_le (value_from 0 text) high ≡ f → cond (c && d) (Some (value_from 0 text)) None ≡ None
        → cond (((a && b) && c) && (e && f)) (Some (value_from 0 text)) None ≡ None
    go false b c d e f p q r = refl
    go true false c d e f p q r = refl
    go true true false d e f p q r = refl
    go true true true d false f p q r = refl
    go true true true d true false p q r = refl
    go true true true true true true p q r = absurd cc
    go true true true false true true p q r = let l = ltb-false (value_from 0 text) (2 ^ 64) p in let m = leb-true (value_from 0 text) high q in absurd (omega arith)

pub is_digits : (n : ℕ) (text : List ℕ) → number_behind 0 text ≡ Some n → (all_digits text ≡ true) × (value_from 0 text ≡ n)
is_digits n text h = go (all_digits text) (nat_lt (value_from 0 text) (2 ^ 64)) refl h
  where
    go : (c d : Bool) → all_digits text ≡ c → cond (c && d) (Some (value_from 0 text)) None ≡ Some n → (all_digits text ≡ true) × (value_from 0 text ≡ n)
    go true true e h = (e, cc)
    go true false e h = absurd cc
    go false d e h = absurd cc
