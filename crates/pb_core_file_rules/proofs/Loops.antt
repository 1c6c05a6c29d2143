-- One thing more of a list, or its end, in a loop that goes through it.
use Rattle.std.proofs.Common.{◌≡◌, ℕ, ◌+◌, ◌<◌, ◌≤◌, List, [], ◌∷◌, ◌++◌, length, drop, get_or, sym, ap, ◌∙◌, append_assoc}
use Rattle.std.proofs.lemmas.List.{drop_more, append-nil}
use Rattle.std.proofs.Math.ListN.{drop_of_length-le}

pub drop_next : {A : Type 0} (xs : List A) (i : ℕ) (x : A) → i < length xs → x ≡ get_or xs i x → drop i xs ≡ x ∷ drop (i + 1) xs
drop_next xs i x less is = drop_more xs i x less ∙ ap (λ v. v ∷ drop (i + 1) xs) (sym is)

-- `all` tells what a list gives, behind what is kept so far
pub goes_on : {A S R : Type 0} (all : S → List A → R) (xs : List A) (i : ℕ) (x : A) (kept new : S) (whole : R) → i < length xs → x ≡ get_or xs i x →
    all kept (x ∷ drop (i + 1) xs) ≡ all new (drop (i + 1) xs) → all kept (drop i xs) ≡ whole → all new (drop (i + 1) xs) ≡ whole
goes_on all xs i x kept new whole less is one so_far = sym one ∙ sym (ap (all kept) (drop_next xs i x less is)) ∙ so_far

pub ends : {A S R : Type 0} (all : S → List A → R) (xs : List A) (i : ℕ) (kept : S) (whole : R) → length xs ≤ i → all kept (drop i xs) ≡ whole → all kept [] ≡ whole
ends all xs i kept whole le so_far = sym (ap (all kept) (drop_of_length-le xs le)) ∙ so_far

-- the same where what is given is added behind
pub adds : {A B : Type 0} (of : List A → List B) (xs : List A) (i : ℕ) (x : A) (here out new whole : List B) → i < length xs → x ≡ get_or xs i x →
    of (x ∷ drop (i + 1) xs) ≡ here ++ of (drop (i + 1) xs) → new ≡ out ++ here → out ++ of (drop i xs) ≡ whole → new ++ of (drop (i + 1) xs) ≡ whole
adds of xs i x here out new whole less is one added so_far =
    let rest = of (drop (i + 1) xs) in
    goes_on (λ l ys. l ++ of ys) xs i x out new whole less is (ap (λ l. out ++ l) one ∙ sym (append_assoc out here rest) ∙ sym (ap (λ l. l ++ rest) added)) so_far

pub added : {A B : Type 0} (of : List A → List B) (xs : List A) (i : ℕ) (out whole : List B) → of [] ≡ [] → length xs ≤ i → out ++ of (drop i xs) ≡ whole → out ≡ whole
added of xs i out whole none le so_far = sym (append-nil out) ∙ sym (ap (λ l. out ++ l) none) ∙ ends (λ l ys. l ++ of ys) xs i out whole le so_far
