-- A keyword is found among those of its length, and a symbol among those that begin as the text does.
use Rattle.std.proofs.Common.{◌≡◌, ℕ, Bool, true, false, nat_eq, eq-eqb, cond, List, [], ◌∷◌, length, get_or, Some, refl, sym, ap, ◌∙◌}
use Rattle.std.specs.Prelude.{find}
use Rattle.std.specs.List.{filter}
use Rattle.std.specs.Cmp.Lexicographic.{pointwise}
use Rattle.std.proofs.lemmas.Slice.Eq.{bytes_eq-Decides}
use Rattle.std.proofs.lemmas.Bool.{false≢true}
use Rattle.pb_text.specs.Spellings.{key_of, keys, key_spelling, mark_at, marks, mark_spelling, begins_with}
use Rattle.pb_text.specs.declared.token.Key.{Key}
use Rattle.pb_text.specs.declared.token.Mark.{Mark}
use Rattle.pb_lex.specs.Seen.{keys_of, marks_of}
use Rattle.pb_lex.proofs.Fronts.{front_first}
use Rattle.pb_lex.proofs.Whole.{spelled}

find_step : {X : Type 0} (p q : X → Bool) (x : X) (xs : List X) → (p x ≡ true → q x ≡ true)
    → (b : Bool) → p x ≡ b → (c : Bool) → q x ≡ c → find p xs ≡ find p (filter q xs)
    → cond b (Some x) (find p xs) ≡ find p (cond c (x ∷ filter q xs) (filter q xs))
find_step p q x xs holds true e true f same = sym (ap (λ t. cond t (Some x) (find p (filter q xs))) e)
find_step p q x xs holds true e false f same = absurd (false≢true (sym f ∙ holds e))
find_step p q x xs holds false e true f same = same ∙ sym (ap (λ t. cond t (Some x) (find p (filter q xs))) e)
find_step p q x xs holds false e false f same = same

-- what passes a test is found among those that pass a wider one
find_among : {X : Type 0} (p q : X → Bool) → ((x : X) → p x ≡ true → q x ≡ true) → (xs : List X) → find p xs ≡ find p (filter q xs)
find_among p q wider [] = refl
find_among p q wider (x ∷ xs) = find_step p q x xs (wider x) (p x) refl (q x) refl (find_among p q wider xs)

same_length : (word : List ℕ) (key : Key) → pointwise nat_eq word (key_spelling key) ≡ true → nat_eq (length (key_spelling key)) (length word) ≡ true
same_length word key is =
    ap (λ (l : List ℕ). nat_eq (length l) (length word)) (sym ((bytes_eq-Decides word (key_spelling key)).0 is)) ∙ eq-eqb (length word) (length word) refl

pub by_length : (word : List ℕ) → find (λ key. pointwise nat_eq word (key_spelling key)) (keys_of (length word)) ≡ key_of word
unfolding key_of keys_of
by_length word =
    sym (find_among (λ key. pointwise nat_eq word (key_spelling key)) (λ key. nat_eq (length (key_spelling key)) (length word)) (same_length word) keys)

same_first : (text : List ℕ) (mark : Mark) → begins_with (mark_spelling mark) text ≡ true
    → nat_eq (get_or (mark_spelling mark) 0 0) (get_or text 0 0) ≡ true
same_first text mark begun =
    eq-eqb (get_or (mark_spelling mark) 0 0) (get_or text 0 0) (sym (front_first (mark_spelling mark) text begun (spelled mark)))

pub by_first : (text : List ℕ) → find (λ mark. begins_with (mark_spelling mark) text) (marks_of (get_or text 0 0)) ≡ mark_at text
unfolding mark_at marks_of
by_first text =
    sym (find_among (λ mark. begins_with (mark_spelling mark) text) (λ mark. nat_eq (get_or (mark_spelling mark) 0 0) (get_or text 0 0)) (same_first text) marks)
