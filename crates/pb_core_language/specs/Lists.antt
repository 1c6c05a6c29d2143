-- Lists and numbers alone: a list's element by its number, what holds below a number, and what two lists share.
use Rattle.std.specs.Prelude.{ℕ, zero, suc, ◌==◌, Bool, true, false, ◌||◌, ◌&&◌, not, List, [], ◌∷◌, ◌++◌}

-- the element with a number, counted from 0; false where there is none
abbrev pub nth : List Bool → ℕ → Bool
nth [] n = false
nth (b ∷ bs) zero = b
nth (b ∷ bs) (suc n) = nth bs n

-- for some number below this one, and what there is for each of them, ascending
abbrev pub some_below : ℕ → (ℕ → Bool) → Bool
some_below zero f = false
some_below (suc n) f = f n || some_below n f

abbrev pub over_below : {A : Type 0} → ℕ → (ℕ → List A) → List A
over_below zero f = []
over_below (suc n) f = over_below n f ++ f n

abbrev pub is_empty : {A : Type 0} → List A → Bool
is_empty [] = true
is_empty (x ∷ xs) = false

abbrev pub is_among : ℕ → List ℕ → Bool
is_among x [] = false
is_among x (y ∷ ys) = (y == x) || is_among x ys

-- no element of the first list is in the second
abbrev pub none_shared : List ℕ → List ℕ → Bool
none_shared [] ys = true
none_shared (x ∷ xs) ys = not (is_among x ys) && none_shared xs ys
