-- Words in collectives.
use Rattle.std.proofs.Common.{◌≡◌, ℕ, zero, suc, ◌+◌, ◌-◌, ◌<◌, ◌≤◌, cond, List, [], ◌∷◌, ◌++◌, length, drop, slice_index_or, get_or, drop-cons, append_assoc, append-nil, ◌⊎◌, inl, inr, refl, sym, ap, ap₂, ◌∙◌, arith}
use Rattle.std.proofs.lemmas.List.{drop_all}
use Rattle.pb_syntax.specs.declared.core_label.CoreLabel.{CoreLabel}
use Rattle.pb_syntax.specs.declared.tree.Payload.TheVariants.{Unit as Signal}
use Rattle.pb_world.specs.Actions.{Collective, Barrier, Broadcast, Reduce, Allreduce}
use Rattle.pb_core_language.specs.Collectives.{word_by_word, combined, combined_of, payload_of}
use Rattle.pb_plain_run.specs.Setting.{shared, leaves_with_words, setting_with}

pub payload_is : (xs : List CoreLabel) (l : ℕ) (d : CoreLabel) → l < length xs → payload_of xs l ≡ (slice_index_or xs l d).payload
payload_is [] l d h = absurd (omega arith)
payload_is (x ∷ xs) zero d h = refl
payload_is (x ∷ xs) (suc l) d h = payload_is xs l d (omega arith)

pub payload_past : (xs : List CoreLabel) (l : ℕ) → length xs ≤ l → payload_of xs l ≡ Signal
payload_past [] l h = refl
payload_past (x ∷ xs) zero h = absurd (omega arith)
payload_past (x ∷ xs) (suc l) h = payload_past xs l (omega arith)

pub nothing_beside : (f : ℕ → ℕ → ℕ) (xs : List ℕ) → word_by_word f xs [] ≡ []
nothing_beside f [] = refl
nothing_beside f (x ∷ xs) = refl

pub combined_next : (f : ℕ → ℕ → ℕ) (n : ℕ) (words : ℕ → List ℕ) → combined f (n + 1) words ≡ word_by_word f (combined f n words) (words (n + 1))
combined_next f n words = let e : n + 1 ≡ suc n = omega arith in rw e refl

pub combined_all : (f : ℕ → ℕ → ℕ) (n : ℕ) (words : ℕ → List ℕ) → 0 < n → combined_of f n words ≡ combined f (n - 1) words
combined_all f zero words h = absurd (omega arith)
combined_all f (suc n) words h = let e : suc n - 1 ≡ n = omega arith in rw e refl

pub outcome_is : (total : ℕ) (labels : List CoreLabel) (j : Collective) (r : ℕ) (words : ℕ → List ℕ) →
    (setting_with total labels).outcome j r words ≡ cond (leaves_with_words j r) (shared total labels j words) []
outcome_is total labels Barrier r words = refl
outcome_is total labels (Broadcast label root) r words = refl
outcome_is total labels (Reduce label operation root) r words = refl
outcome_is total labels (Allreduce label operation) r words = refl

words_next : (f : ℕ → ℕ → ℕ) (xs ys : List ℕ) (i : ℕ) → i < length xs → i < length ys → word_by_word f (drop i xs) (drop i ys) ≡ f (get_or xs i 0) (get_or ys i 0) ∷ word_by_word f (drop (i + 1) xs) (drop (i + 1) ys)
words_next f xs ys i h k =
    let e : i + 1 ≡ suc i = omega arith in
    ap₂ (word_by_word f) (drop-cons xs i 0 h) (drop-cons ys i 0 k) ∙ ap (λ n. f (get_or xs i 0) (get_or ys i 0) ∷ word_by_word f (drop n xs) (drop n ys)) (sym e)

-- a loop's step, which pushes the i-th word
pub word_step : (f : ℕ → ℕ → ℕ) (xs ys all more : List ℕ) (i x : ℕ) → more ≡ all ++ x ∷ [] → x ≡ f (get_or xs i 0) (get_or ys i 0) → i < length xs → i < length ys →
    all ++ word_by_word f (drop i xs) (drop i ys) ≡ word_by_word f xs ys → more ++ word_by_word f (drop (i + 1) xs) (drop (i + 1) ys) ≡ word_by_word f xs ys
word_step f xs ys all more i x pushed is h k so_far =
    ap (λ l. l ++ word_by_word f (drop (i + 1) xs) (drop (i + 1) ys)) (pushed ∙ ap (λ y. all ++ y ∷ []) is)
    ∙ append_assoc all (f (get_or xs i 0) (get_or ys i 0) ∷ []) _
    ∙ ap (λ l. all ++ l) (sym (words_next f xs ys i h k)) ∙ so_far

nothing_past : (f : ℕ → ℕ → ℕ) (xs ys : List ℕ) (i : ℕ) → (length xs ≤ i) ⊎ (length ys ≤ i) → word_by_word f (drop i xs) (drop i ys) ≡ []
nothing_past f xs ys i (inl h) = ap (λ l. word_by_word f l (drop i ys)) (drop_all i xs h)
nothing_past f xs ys i (inr h) = ap (word_by_word f (drop i xs)) (drop_all i ys h) ∙ nothing_beside f (drop i xs)

-- at its end
pub words_end : (f : ℕ → ℕ → ℕ) (xs ys all : List ℕ) (i : ℕ) → (length xs ≤ i) ⊎ (length ys ≤ i) → all ++ word_by_word f (drop i xs) (drop i ys) ≡ word_by_word f xs ys → all ≡ word_by_word f xs ys
words_end f xs ys all i h e = sym (append-nil all) ∙ ap (λ l. all ++ l) (sym (nothing_past f xs ys i h)) ∙ e

-- one more rank's words
pub combined_step : (f : ℕ → ℕ → ℕ) (n : ℕ) (words : ℕ → List ℕ) (all more both : List ℕ) → all ≡ combined f n words → more ≡ words (n + 1) → both ≡ word_by_word f all more → both ≡ combined f (n + 1) words
combined_step f n words all more both a m b = b ∙ ap₂ (word_by_word f) a m ∙ sym (combined_next f n words)
