-- Names that are spelled are found, and what is found is spelled so.
use Rattle.std.proofs.Common.{◌≡◌, ℕ, ◌<◌, Bool, true, false, cond, lt-ltb, ltb-true, List, [], ◌∷◌, length, get_or, Some, None, refl, ap, ◌∙◌, arith}
use Rattle.std.specs.Prelude.{nat_eq, nat_lt, not, ◌&&◌, ◌||◌, codes}
use Rattle.std.specs.List.{list_all}
use Rattle.std.specs.Cmp.Lexicographic.{pointwise}
use Rattle.std.proofs.lemmas.Bool.Decides.{nat_tests}
use Rattle.std.proofs.lemmas.Slice.Eq.{bytes_eq-Decides}
use Rattle.pb_text.specs.Spellings.{keys}
use Rattle.pb_text.specs.Tables.{AreDistinct, position_of}
use Rattle.pb_local.specs.Names.{is_letter, is_digit, is_word, is_keyword, is_name}
use Rattle.pb_judge_log.specs.Reading.{is_inside, is_within_line, find_in}
use Rattle.pb_judge_log.proofs.Interning.{found, found_sound, IsPlaced}

and_left : (a b : Bool) → (a && b) ≡ true → a ≡ true
and_left true b e = refl
and_left false b e = absurd cc

and_right : (a b : Bool) → (a && b) ≡ true → b ≡ true
and_right true b e = e
and_right false b e = absurd cc

-- what a name keeps
pub record IsSpelled (w : List ℕ) : Type 0 where
  pub some : 0 < length w
  pub most : length w < 65
  pub inside : list_all is_inside w ≡ true
  pub within : list_all is_within_line w ≡ true
  pub other : pointwise nat_eq w (codes "barrier") ≡ false

or_of : (a b c : Bool) → (a || b) ≡ true → (a ≡ true → c ≡ true) → (b ≡ true → c ≡ true) → c ≡ true
or_of true b c e f g = f refl
or_of false b c e f g = g e

letter_inside : (c : ℕ) → is_letter c ≡ true → is_inside c ≡ true
letter_inside c e = grind (arith, nat_tests)

digit_inside : (c : ℕ) → is_digit c ≡ true → is_inside c ≡ true
digit_inside c e = grind (arith, nat_tests)

letter_within : (c : ℕ) → is_letter c ≡ true → is_within_line c ≡ true
letter_within c e = grind (arith, nat_tests)

digit_within : (c : ℕ) → is_digit c ≡ true → is_within_line c ≡ true
digit_within c e = grind (arith, nat_tests)

rest_all : (p : ℕ → Bool) → ((c : ℕ) → is_letter c ≡ true → p c ≡ true) → ((c : ℕ) → is_digit c ≡ true → p c ≡ true) → (cs : List ℕ) → list_all (λ d. is_letter d || is_digit d) cs ≡ true → list_all p cs ≡ true
rest_all p f g [] e = refl
rest_all p f g (c ∷ cs) e = rw (or_of (is_letter c) (is_digit c) (p c) (and_left _ _ e) (f c) (g c)) (rest_all p f g cs (and_right _ _ e))

word_all : (p : ℕ → Bool) → ((c : ℕ) → is_letter c ≡ true → p c ≡ true) → ((c : ℕ) → is_digit c ≡ true → p c ≡ true) → (w : List ℕ) → is_word w ≡ true → list_all p w ≡ true
word_all p f g [] e = absurd cc
word_all p f g (c ∷ cs) e = rw (f c (and_left _ _ e)) (rest_all p f g cs (and_right _ _ e))

word_some : (w : List ℕ) → is_word w ≡ true → 0 < length w
word_some [] e = absurd cc
word_some (c ∷ cs) e = omega arith

barrier_is : is_keyword (codes "barrier") ≡ true
unfolding keys
barrier_is = refl

not_barrier : (w : List ℕ) → not (is_keyword w) ≡ true → pointwise nat_eq w (codes "barrier") ≡ false
not_barrier w e = by_test (pointwise nat_eq w (codes "barrier")) refl where
  apart : w ≡ codes "barrier" → ⊥
  apart same = let k : is_keyword w ≡ true = ap is_keyword same ∙ barrier_is in let z : not (is_keyword w) ≡ false = ap not k in absurd cc

  by_test : (b : Bool) → pointwise nat_eq w (codes "barrier") ≡ b → b ≡ false
  by_test true t = absurd (apart ((bytes_eq-Decides w (codes "barrier")).0 t))
  by_test false t = refl

pub spelled : (w : List ℕ) → is_name w ≡ true → IsSpelled w
spelled w e =
    let word : is_word w ≡ true = and_left _ _ (and_left _ _ e) in
    record {
      some = word_some w word;
      most = ltb-true (length w) 65 (and_right _ _ (and_left _ _ e));
      inside = word_all is_inside letter_inside digit_inside w word;
      within = word_all is_within_line letter_within digit_within w word;
      other = not_barrier w (and_right _ _ e);
    }

-- ---- look-ups

pub find_again : (names : List (List ℕ)) (k : ℕ) → AreDistinct names → k < length names → IsSpelled (get_or names k []) → find_in names (get_or names k []) ≡ Some k
find_again names k distinct lt h = rw (lt-ltb 0 (length (get_or names k [])) h.some, lt-ltb (length (get_or names k [])) 65 h.most) (found names k distinct lt)

pub find_sound : (names : List (List ℕ)) (field : List ℕ) (k : ℕ) → find_in names field ≡ Some k → IsPlaced names field k
find_sound names field k h = by_test (nat_lt 0 (length field) && nat_lt (length field) 65) h where
  by_test : (b : Bool) → cond b (position_of field names) None ≡ Some k → IsPlaced names field k
  by_test true g = found_sound names field k g
  by_test false g = absurd cc
