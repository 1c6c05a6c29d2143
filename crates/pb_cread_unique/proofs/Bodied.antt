-- Bodies are spelled as they stand.
use Rattle.std.proofs.Common.{◌≡◌, ℕ, suc, ◌+◌, Bool, true, false, List, [], ◌∷◌, ◌++◌, length, map, refl, sym, ap, ◌∙◌, append_assoc, arith}
use Rattle.std.specs.Prelude.{All, if◌then◌else◌}
use Rattle.std.proofs.lemmas.List.Elements.{All-head, All-tail}
use Rattle.pb_syntax.specs.declared.core_label.CoreLabel.{CoreLabel}
use Rattle.pb_syntax.specs.declared.core_label.CoreKernel.{CoreKernel}
use Rattle.pb_ctree.specs.Bodies.{is_body, lines_of}
use Rattle.pb_ctree.specs.Frame.{first_body, other_bodies}
use Rattle.pb_ctree.specs.Functions.{has_words, kernel_function, label_functions, labels_functions}
use Rattle.pb_cread_frame.specs.Ahead.{lines_text, spelled_body, kernel_bodies, words_bodies}
use Rattle.pb_ctree_laws.specs.Laws as W
use Rattle.pb_ctree_laws.proofs.Bodies.{bodies_are_lines}
use Rattle.pb_cread_unique.specs.Laws.{BodiesAsTheyStand}

lines_whole : (ls : List (List ℕ)) → lines_text ls ≡ W.whole ls
lines_whole [] = refl
lines_whole (l ∷ ls) = append_assoc l (10 ∷ []) (lines_text ls) ∙ ap (λ x. l ++ (10 ∷ x)) (lines_whole ls)

pub body_is : (body : List ℕ) → is_body body ≡ true → spelled_body body ≡ body
body_is body e = lines_whole (lines_of body) ∙ ((bodies_are_lines body).0 e).0

abbrev pub AreAllBodies : List (List ℕ) → Type 0
AreAllBodies bodies = All (λ b. is_body b ≡ true) bodies

others : (b : List ℕ) (bs : List (List ℕ)) → AreAllBodies (b ∷ bs) → AreAllBodies bs
others b bs all = λ k d less. all (suc k) d (omega (arith, less))

both : {x y : List ℕ} {xs ys : List (List ℕ)} → x ≡ y → xs ≡ ys → x ∷ xs ≡ y ∷ ys
both {y = y} {xs = xs} e f = ap (λ z. z ∷ xs) e ∙ ap (λ zs. y ∷ zs) f

kernels_are : (ks : List CoreKernel) (bodies : List (List ℕ)) → AreAllBodies bodies → length bodies ≡ length (map kernel_function ks) → kernel_bodies ks bodies ≡ bodies
kernels_are [] [] all e = refl
kernels_are [] (b ∷ bs) all e = absurd cc
kernels_are (k ∷ ks) [] all e = absurd cc
kernels_are (k ∷ ks) (b ∷ bs) all e = both (body_is b (all 0 b (omega arith))) (kernels_are ks bs (others b bs all) (omega (arith, e)))

-- a body for each function, as it stands
pub words_are : (ls : List CoreLabel) (ks : List CoreKernel) (bodies : List (List ℕ)) → AreAllBodies bodies → length bodies ≡ length (labels_functions ls ++ map kernel_function ks) → words_bodies ls ks bodies ≡ bodies
words_are [] ks bodies all e = kernels_are ks bodies all e
words_are (l ∷ ls) ks bodies all e = by_test (has_words l.payload) refl bodies all e (λ bs each many. words_are ls ks bs each many) where
  by_test : (b : Bool) → has_words l.payload ≡ b → (bodies : List (List ℕ)) → AreAllBodies bodies → length bodies ≡ length (labels_functions (l ∷ ls) ++ map kernel_function ks)
      → ((bodies : List (List ℕ)) → AreAllBodies bodies → length bodies ≡ length (labels_functions ls ++ map kernel_function ks) → words_bodies ls ks bodies ≡ bodies)
      → (if b then spelled_body (first_body bodies) ∷ spelled_body (first_body (other_bodies bodies)) ∷ words_bodies ls ks (other_bodies (other_bodies bodies)) else words_bodies ls ks bodies) ≡ bodies
  by_test false t bodies all e f = f bodies all (e ∙ none t) where
    none : has_words l.payload ≡ false → length (labels_functions (l ∷ ls) ++ map kernel_function ks) ≡ length (labels_functions ls ++ map kernel_function ks)
    none t = rw t refl
  by_test true t bodies all e f = two bodies all (e ∙ some t) where
    some : has_words l.payload ≡ true → length (labels_functions (l ∷ ls) ++ map kernel_function ks) ≡ suc (suc (length (labels_functions ls ++ map kernel_function ks)))
    some t = rw t refl

    two : (bodies : List (List ℕ)) → AreAllBodies bodies → length bodies ≡ suc (suc (length (labels_functions ls ++ map kernel_function ks))) → spelled_body (first_body bodies) ∷ spelled_body (first_body (other_bodies bodies)) ∷ words_bodies ls ks (other_bodies (other_bodies bodies)) ≡ bodies
    two [] all e = absurd cc
    two (a ∷ []) all e = absurd (omega (arith, e))
    two (a ∷ b ∷ bs) all e =
        let behind = others b bs (others a (b ∷ bs) all) in
        both (body_is a (all 0 a (omega arith))) (both (body_is b (all 1 b (omega arith))) (f bs behind (omega (arith, e))))

pub as_they_stand : BodiesAsTheyStand
as_they_stand p prelude bodies one all many = (body_is prelude one, words_are p.labels p.kernels bodies all many)
