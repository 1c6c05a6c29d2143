-- What stands in a list that a test, a walk or numbers below one made.
use Rattle.std.proofs.Common.{◌≡◌, ℕ, zero, suc, Bool, true, false, if◌then◌else◌, inl, inr, List, [], ◌∷◌, ◌++◌, filter}
use Rattle.pb_core_language.specs.Lists.{over_below}
use Rattle.pb_rules.proofs.Lists.{Has, has_cases, has_left, has_right}

-- each element of the first list is one of the second
abbrev pub Sub : {X : Type 0} → List X → List X → Type 0
Sub {X} xs ys = (x : X) → Has xs x → Has ys x

pub sub_left : {X : Type 0} (xs zs ys : List X) → Sub (xs ++ zs) ys → Sub xs ys
sub_left xs zs ys h x k = h x (has_left xs zs x k)

pub sub_right : {X : Type 0} (xs zs ys : List X) → Sub (xs ++ zs) ys → Sub zs ys
sub_right xs zs ys h x k = h x (has_right xs zs x k)

pub has_filter : {X : Type 0} (p : X → Bool) (xs : List X) (x : X) → Has (filter p xs) x → Has xs x
has_filter p [] x h = absurd h
has_filter p (y ∷ ys) x h = at (p y) (has_filter p ys x) h
  where
    at : (b : Bool) → (Has (filter p ys) x → Has ys x) → Has (if b then y ∷ filter p ys else filter p ys) x → Has (y ∷ ys) x
    at true rest (inl e) = inl e
    at true rest (inr k) = inr (rest k)
    at false rest k = inr (rest k)

-- what stands in a list that is there only where a test holds
pub has_where : {X : Type 0} (b : Bool) (x y : X) → Has (if b then y ∷ [] else []) x → y ≡ x
has_where true x y (inl e) = e
has_where true x y (inr k) = absurd k
has_where false x y k = absurd k

pub has_below : {X : Type 0} (n : ℕ) (f : ℕ → List X) (x : X) → Has (over_below n f) x → (k : ℕ) × Has (f k) x
has_below zero f x h = absurd h
has_below (suc n) f x h = elim (has_cases (over_below n f) (f n) x h) [ inl a ↦ has_below n f x a | inr b ↦ (n, b) ]
