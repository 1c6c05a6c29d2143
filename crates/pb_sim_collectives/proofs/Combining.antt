-- Words combined one after another.
use Rattle.std.proofs.Common.{◌≡◌, ◌<◌, ◌≤◌, ℕ, zero, suc, ◌+◌, ◌-◌, min, List, [], ◌∷◌, ◌++◌, length, get_or, take, ap, ◌∙◌, sym, refl, arith}
use Rattle.pb_local.specs.Collectives.{word_by_word, combined, combined_of}

front_more : (f : ℕ → ℕ → ℕ) (xs ys : List ℕ) (i : ℕ) → i < length xs → i < length ys → word_by_word f (take (suc i) xs) (take (suc i) ys) ≡ word_by_word f (take i xs) (take i ys) ++ f (get_or xs i 0) (get_or ys i 0) ∷ []
front_more f [] ys i h k = absurd (omega (arith, h))
front_more f (x ∷ xs) [] i h k = absurd (omega (arith, k))
front_more f (x ∷ xs) (y ∷ ys) zero h k = refl
front_more f (x ∷ xs) (y ∷ ys) (suc i) h k = ap (λ zs. f x y ∷ zs) (front_more f xs ys i (omega (arith, h)) (omega (arith, k)))

front_all : (f : ℕ → ℕ → ℕ) (xs ys : List ℕ) (i : ℕ) → i ≡ min (length xs) (length ys) → word_by_word f (take i xs) (take i ys) ≡ word_by_word f xs ys
front_all f [] ys zero h = refl
front_all f [] ys (suc i) h = refl
front_all f (x ∷ xs) [] zero h = refl
front_all f (x ∷ xs) [] (suc i) h = refl
front_all f (x ∷ xs) (y ∷ ys) zero h = absurd (omega (arith, h))
front_all f (x ∷ xs) (y ∷ ys) (suc i) h = ap (λ zs. f x y ∷ zs) (front_all f xs ys i (omega (arith, h)))

pub one_more_word : (f : ℕ → ℕ → ℕ) (words xs ys : List ℕ) (i : ℕ) → i < length xs → i < length ys → words ≡ word_by_word f (take i xs) (take i ys) → words ++ f (get_or xs i 0) (get_or ys i 0) ∷ [] ≡ word_by_word f (take (i + 1) xs) (take (i + 1) ys)
one_more_word f words xs ys i h k e =
    let n : suc i ≡ i + 1 = omega arith in
    ap (λ zs. zs ++ f (get_or xs i 0) (get_or ys i 0) ∷ []) e ∙ sym (front_more f xs ys i h k) ∙ ap (λ m. word_by_word f (take m xs) (take m ys)) n

pub no_more_words : (f : ℕ → ℕ → ℕ) (words xs ys : List ℕ) (i : ℕ) → i ≡ min (length xs) (length ys) → words ≡ word_by_word f (take i xs) (take i ys) → words ≡ word_by_word f xs ys
no_more_words f words xs ys i h e = e ∙ front_all f xs ys i h

pub one_more_rank : (f : ℕ → ℕ → ℕ) (lists : ℕ → List ℕ) (words : List ℕ) (rank : ℕ) → 1 ≤ rank → words ≡ combined f (rank - 1) lists → word_by_word f words (lists rank) ≡ combined f ((rank + 1) - 1) lists
one_more_rank f lists words zero h e = absurd (omega (arith, h))
one_more_rank f lists words (suc m) h e =
    let p : (suc m) - 1 ≡ m = omega arith in
    let q : (suc m + 1) - 1 ≡ suc m = omega arith in
    ap (λ zs. word_by_word f zs (lists (suc m))) (e ∙ ap (λ n. combined f n lists) p) ∙ ap (λ n. combined f n lists) (sym q)

pub all_ranks : (f : ℕ → ℕ → ℕ) (lists : ℕ → List ℕ) (words : List ℕ) (total : ℕ) → 1 ≤ total → words ≡ combined f (total - 1) lists → words ≡ combined_of f total lists
all_ranks f lists words zero h e = absurd (omega (arith, h))
all_ranks f lists words (suc m) h e = let p : (suc m) - 1 ≡ m = omega arith in e ∙ ap (λ n. combined f n lists) p
