-- Names that pass a test, taken one at a time.
use Rattle.std.proofs.Common.{◌≡◌, ℕ, suc, ◌+◌, Bool, true, false, cond, List, [], ◌∷◌, ◌++◌, drop, Some, slice_get, refl, sym, ap, ◌∙◌, append_assoc, drop-cons, add-one, if◌then◌else◌}
use Rattle.std.specs.List.{filter}
use Rattle.std.proofs.lemmas.List.{append-nil}
use Rattle.std.proofs.lemmas.Option.{slice_get_within, get_or_from_slice_get}
use Rattle.pb_ctree.specs.declared.kernel.KName.{KName}

cut : (xs : List KName) (i : ℕ) (x : KName) → slice_get xs i ≡ Some x → drop i xs ≡ x ∷ drop (i + 1) xs
cut xs i x at =
    drop-cons xs i x (slice_get_within xs i x at) ∙ ap (λ y. y ∷ drop (suc i) xs) (get_or_from_slice_get xs i x x at) ∙ ap (λ k. x ∷ drop k xs) (sym (add-one i))

-- a name that passes is taken
pub taken : (test : KName → Bool) (xs all done : List KName) (i : ℕ) (x : KName) → slice_get xs i ≡ Some x → test x ≡ true
    → done ++ filter test (drop i xs) ≡ all → (done ++ x ∷ []) ++ filter test (drop (i + 1) xs) ≡ all
taken test xs all done i x at passes so_far =
    append_assoc done (x ∷ []) _ ∙ ap (λ (l : List KName). done ++ l) (sym (ap (filter test) (cut xs i x at) ∙ ap (λ (b : Bool). cond b (x ∷ filter test (drop (i + 1) xs)) (filter test (drop (i + 1) xs))) passes)) ∙ so_far

-- and another one isn't
pub passed : (test : KName → Bool) (xs all done : List KName) (i : ℕ) (x : KName) → slice_get xs i ≡ Some x → test x ≡ false
    → done ++ filter test (drop i xs) ≡ all → done ++ filter test (drop (i + 1) xs) ≡ all
passed test xs all done i x at fails so_far =
    ap (λ (l : List KName). done ++ l) (sym (ap (filter test) (cut xs i x at) ∙ ap (λ (b : Bool). cond b (x ∷ filter test (drop (i + 1) xs)) (filter test (drop (i + 1) xs))) fails)) ∙ so_far

-- so is each, one after the other
pub stepped : (test : KName → Bool) (xs all done after : List KName) (i : ℕ) (x : KName) → slice_get xs i ≡ Some x → after ≡ done ++ (if test x then x ∷ [] else [])
    → done ++ filter test (drop i xs) ≡ all → after ++ filter test (drop (i + 1) xs) ≡ all
stepped test xs all done after i x at is so_far = by_test (test x) refl is where
  by_test : (b : Bool) → test x ≡ b → after ≡ done ++ (if b then x ∷ [] else []) → after ++ filter test (drop (i + 1) xs) ≡ all
  by_test true e is = rw is (taken test xs all done i x at e so_far)
  by_test false e is = rw (is ∙ append-nil done) (passed test xs all done i x at e so_far)
