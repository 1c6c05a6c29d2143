-- Loops over a list, step by step.
use Rattle.std.proofs.Common.{◌≡◌, ℕ, ◌+◌, ◌<◌, List, [], ◌∷◌, ◌++◌, length, map, drop, get_or, ap, sym, ◌∙◌, append_assoc}
use Rattle.std.proofs.lemmas.List.{map-append, drop_more}

-- a list from a place on, once one more was taken
pub one_more : {A : Type 0} (xs : List A) (i : ℕ) (x : A) → i < length xs → x ≡ get_or xs i x → drop i xs ≡ x ∷ drop (i + 1) xs
one_more xs i x lt is = drop_more xs i x lt ∙ ap (λ y. y ∷ drop (i + 1) xs) (sym is)

-- what each element of a list adds to a text, one after the other
pub text_step : {A : Type 0} (all : List A → List ℕ) (one : A → List ℕ) (xs : List A) (i : ℕ) (x : A) (out new start : List ℕ) → ((y : A) (ys : List A) → all (y ∷ ys) ≡ one y ++ all ys)
    → i < length xs → x ≡ get_or xs i x → new ≡ out ++ one x → out ++ all (drop i xs) ≡ start → new ++ all (drop (i + 1) xs) ≡ start
text_step all one xs i x out new start each lt is put done =
    ap (λ w. w ++ all (drop (i + 1) xs)) put
    ∙ append_assoc out (one x) (all (drop (i + 1) xs))
    ∙ ap (λ w. out ++ w) (sym (each x (drop (i + 1) xs)))
    ∙ ap (λ w. out ++ all w) (sym (one_more xs i x lt is))
    ∙ done

-- a list that is made of another's elements, one after the other
pub made_step : {A B : Type 0} (f : A → B) (xs made new : List A) (i : ℕ) (x y : A) → i < length xs → x ≡ get_or xs i x → f y ≡ f x → new ≡ made ++ (y ∷ [])
    → map f made ++ map f (drop i xs) ≡ map f xs → map f new ++ map f (drop (i + 1) xs) ≡ map f xs
made_step f xs made new i x y lt is same put done =
    ap (λ w. map f w ++ map f (drop (i + 1) xs)) put
    ∙ ap (λ w. w ++ map f (drop (i + 1) xs)) (map-append f made (y ∷ []))
    ∙ append_assoc (map f made) (f y ∷ []) (map f (drop (i + 1) xs))
    ∙ ap (λ w. map f made ++ (w ∷ map f (drop (i + 1) xs))) same
    ∙ ap (λ w. map f made ++ map f w) (sym (one_more xs i x lt is))
    ∙ done
