-- What `retain` keeps, where its test stays as it was and answers as a function does.
use Rattle.std.proofs.Common.{◌≡◌, Bool, true, false, cond, List, [], ◌∷◌, length, refl, ap, subst, ◌∙◌, arith}
use Rattle.std.specs.List.{filter, items_where_true}
use Rattle.std.specs.List.Retain.{IsFiltered, ReturnsInTurn}

module _ {X F : Type 0} (R : F → X → Bool → F → Type 0) (test : X → Bool) (start : F) (says : (x : X) (b : Bool) (after : F) → R start x b after → (b ≡ test x) × (after ≡ start)) where
  first_by : (x : X) (xs ys : List X) (bs : List Bool) (b t : Bool) → b ≡ t → items_where_true bs xs ≡ ys → items_where_true (b ∷ bs) (x ∷ xs) ≡ cond t (x ∷ ys) ys
  first_by x xs ys bs true t e rest = ap (λ (l : List X). x ∷ l) rest ∙ ap (λ (a : Bool). cond a (x ∷ ys) ys) e
  first_by x xs ys bs false t e rest = rest ∙ ap (λ (a : Bool). cond a (x ∷ ys) ys) e

  told_by : (q : F) (bs : List Bool) (xs : List X) → length bs ≡ length xs → ReturnsInTurn R start bs xs q → items_where_true bs xs ≡ filter test xs
  told_by q [] [] e h = refl
  told_by q [] (x ∷ xs) e h = absurd (omega arith)
  told_by q (b ∷ bs) [] e h = absurd h
  told_by q (b ∷ bs) (x ∷ xs) e h =
      let told = says x b h.0 h.1 in
      first_by x xs (filter test xs) bs b (test x) told.0 (told_by q bs xs (omega arith) (subst (λ (f : F). ReturnsInTurn R f bs xs q) told.1 h.2))

  pub filtered_by : (xs ys : List X) → IsFiltered R start xs ys → ys ≡ filter test xs
  filtered_by xs ys h = h.4 ∙ told_by h.1 h.0 xs h.2 h.3
