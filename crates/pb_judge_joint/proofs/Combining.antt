-- Words combined one after another.
use Rattle.std.proofs.Common.{◌≡◌, ◌≢◌, ◌<◌, ℕ, zero, suc, ◌+◌, cond, true, min, List, [], ◌∷◌, ◌++◌, length, get_or, take, ap, ◌∙◌, sym, refl, arith, Vec, Global, Result, Ok, Err, IfOk}
use Rattle.std.specs.Prelude.{nat_lt}
use Rattle.std.proofs.lemmas.Bool.Decides.{nat_tests}
use Rattle.pb_core_language.specs.Collectives.{word_by_word, combined, combined_of}

front_more : (f : ℕ → ℕ → ℕ) (xs ys : List ℕ) (i : ℕ) → i < length xs → i < length ys → word_by_word f (take (suc i) xs) (take (suc i) ys) ≡ word_by_word f (take i xs) (take i ys) ++ f (get_or xs i 0) (get_or ys i 0) ∷ []
front_more f [] ys i h k = absurd (omega (arith, h))
front_more f (x ∷ xs) [] i h k = absurd (omega (arith, k))
front_more f (x ∷ xs) (y ∷ ys) zero h k = refl
front_more f (x ∷ xs) (y ∷ ys) (suc i) h k = ap (λ zs. f x y ∷ zs) (front_more f xs ys i (omega (arith, h)) (omega (arith, k)))

front_all : (f : ℕ → ℕ → ℕ) (xs ys : List ℕ) (i : ℕ) → i ≡ min (length xs) (length ys) → word_by_word f (take i xs) (take i ys) ≡ word_by_word f xs ys
front_all f [] ys zero h = refl
front_all f [] ys (suc i) h = refl
front_all f (x ∷ xs) [] zero h = refl
front_all f (x ∷ xs) [] (suc i) h = refl
front_all f (x ∷ xs) (y ∷ ys) zero h = absurd (omega (arith, h))
front_all f (x ∷ xs) (y ∷ ys) (suc i) h = ap (λ zs. f x y ∷ zs) (front_all f xs ys i (omega (arith, h)))

pub word_step : (f : ℕ → ℕ → ℕ) (words xs ys : List ℕ) (i : ℕ) → i < length xs → i < length ys → words ≡ word_by_word f (take i xs) (take i ys) → words ++ f (get_or xs i 0) (get_or ys i 0) ∷ [] ≡ word_by_word f (take (i + 1) xs) (take (i + 1) ys)
word_step f words xs ys i h k e =
    let n : suc i ≡ i + 1 = omega arith in
    ap (λ zs. zs ++ f (get_or xs i 0) (get_or ys i 0) ∷ []) e ∙ sym (front_more f xs ys i h k) ∙ ap (λ m. word_by_word f (take m xs) (take m ys)) n

pub words_end : (f : ℕ → ℕ → ℕ) (words xs ys : List ℕ) (i : ℕ) → i ≡ min (length xs) (length ys) → words ≡ word_by_word f (take i xs) (take i ys) → words ≡ word_by_word f xs ys
words_end f words xs ys i h e = e ∙ front_all f xs ys i h

-- ---- ranks

pub first_rank : (f : ℕ → ℕ → ℕ) (lists : ℕ → List ℕ) (own : List ℕ) (rank : ℕ) → rank ≡ 0 → own ≡ lists rank → own ≡ combined_of f (rank + 1) lists
first_rank f lists own rank z e = e ∙ ap lists z ∙ sym (ap (λ r. combined_of f (r + 1) lists) z)

pub next_rank : (f : ℕ → ℕ → ℕ) (lists : ℕ → List ℕ) (all own : List ℕ) (rank : ℕ) → rank ≢ 0 → all ≡ combined_of f rank lists → own ≡ lists rank → word_by_word f all own ≡ combined_of f (rank + 1) lists
next_rank f lists all own zero h a e = absurd (h refl)
next_rank f lists all own (suc m) h a e =
    let n : suc (suc m) ≡ suc m + 1 = omega arith in
    ap (λ zs. word_by_word f zs own) a ∙ ap (λ zs. word_by_word f (combined f m lists) zs) e ∙ ap (λ k. combined_of f k lists) n

pub combined_more : {E : Type 0} (r : Result (Vec ℕ Global) E) (f g : ℕ → ℕ → ℕ) (xs ys all ws : List ℕ) (rank : ℕ) → g ≡ f → xs ≡ all → ys ≡ ws → rank ≢ 0 → IfOk r (λ v. v.items ≡ word_by_word g xs ys) →
    IfOk r (λ v. (lists : ℕ → List ℕ) → all ≡ combined_of f rank lists → ws ≡ lists rank → v.items ≡ combined_of f (rank + 1) lists)
combined_more (Err e) f g xs ys all ws rank same x y h is = tt
combined_more (Ok v) f g xs ys all ws rank same x y h is = λ lists a w.
    is ∙ ap (λ o. word_by_word o xs ys) same ∙ ap (λ l. word_by_word f l ys) x ∙ ap (λ l. word_by_word f all l) y ∙ next_rank f lists all ws rank h a w

-- ---- the root

here_less : (root rank : ℕ) → rank ≡ root → nat_lt root (rank + 1) ≡ true
here_less root rank e = grind (arith, nat_tests)

there_less : (root rank : ℕ) → rank ≢ root → nat_lt root (rank + 1) ≡ nat_lt root rank
there_less root rank h = grind (arith, nat_tests)

pub root_enters : (lists : ℕ → List ℕ) (own : List ℕ) (root rank : ℕ) → rank ≡ root → own ≡ lists rank → own ≡ cond (nat_lt root (rank + 1)) (lists root) []
root_enters lists own root rank is e = e ∙ ap lists is ∙ sym (ap (λ b. cond b (lists root) []) (here_less root rank is))

pub other_enters : (lists : ℕ → List ℕ) (all : List ℕ) (root rank : ℕ) → rank ≢ root → all ≡ cond (nat_lt root rank) (lists root) [] → all ≡ cond (nat_lt root (rank + 1)) (lists root) []
other_enters lists all root rank h a = a ∙ sym (ap (λ b. cond b (lists root) []) (there_less root rank h))
