-- Names, ranks and payloads that are spelled are read again.
use Rattle.std.proofs.Common.{◌≡◌, ℕ, ◌<◌, Bool, true, false, List, [], ◌∷◌, ◌++◌, length, get_or, map, Some, refl, sym, ap, ◌∙◌, subst, arith, lt-ltb, eqb-true, nat_eq, nat_lt}
use Rattle.std.specs.Prelude.{◌&&◌, ◌||◌, not}
use Rattle.std.specs.List.{prefix_len, list_all}
use Rattle.std.proofs.Math.Seq.{take-append_seam, drop-append_seam}
use Rattle.std.proofs.lemmas.List.{length-map, get_or-map}
use Rattle.pb_text.specs.Tables.{AreDistinct}
use Rattle.pb_local.specs.Names.{is_letter, is_digit, is_word, is_keyword, is_name}
use Rattle.pb_cread_lines.specs.Guess.{is_inside, find_in, name_at}
use Rattle.pb_cread_lines.proofs.Interning.{found}

and_left : (a b : Bool) → (a && b) ≡ true → a ≡ true
and_left true b e = refl
and_left false b e = absurd cc

and_right : (a b : Bool) → (a && b) ≡ true → b ≡ true
and_right true b e = e
and_right false b e = absurd cc

-- no letter and no digit is a parenthesis
inside : (c : ℕ) → (is_letter c || is_digit c) ≡ true → is_inside c ≡ true
inside c word = by_test (nat_eq c 40) refl where
  by_test : (b : Bool) → nat_eq c 40 ≡ b → not b ≡ true
  by_test false e = refl
  by_test true e = absurd (no_word (eqb-true c 40 e)) where
    no_word : c ≡ 40 → ⊥
    no_word is = let f : (is_letter 40 || is_digit 40) ≡ true = subst (λ d. (is_letter d || is_digit d) ≡ true) is word in absurd cc

inside_all : (cs : List ℕ) → list_all (λ d. is_letter d || is_digit d) cs ≡ true → list_all is_inside cs ≡ true
inside_all [] word = refl
inside_all (c ∷ cs) word = rw (inside c (and_left _ _ word)) (inside_all cs (and_right _ _ word))

or_left : (a b : Bool) → a ≡ true → (a || b) ≡ true
or_left true b e = refl
or_left false b e = absurd cc

inside_name : (w : List ℕ) → is_word w ≡ true → list_all is_inside w ≡ true
inside_name [] word = absurd cc
inside_name (c ∷ cs) word = rw (inside c (or_left (is_letter c) (is_digit c) (and_left _ _ word))) (inside_all cs (and_right _ _ word))

up_to : (w rest : List ℕ) → list_all is_inside w ≡ true → prefix_len is_inside (w ++ 40 ∷ rest) ≡ length w
up_to [] rest all = refl
up_to (c ∷ cs) rest all = let here : is_inside c ≡ true = and_left _ _ all in rw here (omega (arith, up_to cs rest (and_right _ _ all)))

word_long : (w : List ℕ) → is_word w ≡ true → 0 < length w
word_long [] e = absurd cc
word_long (c ∷ cs) e = omega arith

find_again : (names : List (List ℕ)) (k : ℕ) → AreDistinct names → k < length names → is_name (get_or names k []) ≡ true → find_in names (get_or names k []) ≡ Some k
unfolding find_in
find_again names k distinct lt named =
    let w = get_or names k [] in
    let word : is_word w ≡ true = and_left _ _ (and_left (is_word w && nat_lt (length w) 65) (not (is_keyword w)) named) in
    let short : nat_lt (length w) 65 ≡ true = and_right (is_word w) _ (and_left (is_word w && nat_lt (length w) 65) (not (is_keyword w)) named) in
    rw (lt-ltb 0 (length w) (word_long w word), short) (found names k distinct lt)

-- a name of a table, up to the parenthesis behind it
pub name_again : (names : List (List ℕ)) (k : ℕ) (rest : List ℕ) → AreDistinct names → k < length names → is_name (get_or names k []) ≡ true → name_at names (get_or names k [] ++ 40 ∷ rest) ≡ Some (k, 40 ∷ rest)
unfolding name_at
name_again names k rest distinct lt named =
    let w = get_or names k [] in
    let word : is_word w ≡ true = and_left _ _ (and_left (is_word w && nat_lt (length w) 65) (not (is_keyword w)) named) in
    let len : prefix_len is_inside (w ++ 40 ∷ rest) ≡ length w = up_to w rest (inside_name w word) in
    rw (len, take-append_seam w (40 ∷ rest), drop-append_seam w (40 ∷ rest), find_again names k distinct lt named) refl

-- a row's name
pub row_again : {A : Type 0} (f : A → List ℕ) (rows : List A) (d : A) (names : List (List ℕ)) (k : ℕ) (rest : List ℕ) → names ≡ map f rows → AreDistinct (map f rows) → k < length rows → is_name (f (get_or rows k d)) ≡ true
    → name_at names (f (get_or rows k d) ++ 40 ∷ rest) ≡ Some (k, 40 ∷ rest)
row_again f rows d names k rest is distinct lt named =
    let same : get_or (map f rows) k [] ≡ f (get_or rows k d) = get_or-map f rows k d [] lt in
    ap (λ w. name_at names (w ++ 40 ∷ rest)) (sym same)
    ∙ ap (λ ns. name_at ns (get_or (map f rows) k [] ++ 40 ∷ rest)) is
    ∙ name_again (map f rows) k rest distinct (omega (arith, lt, length-map rows f)) (ap is_name same ∙ named)
