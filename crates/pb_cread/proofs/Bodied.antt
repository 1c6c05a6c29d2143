-- The bodies that are read have the lines of those that are spelled.
use Rattle.std.proofs.Common.{◌≡◌, ℕ, suc, Bool, true, false, List, [], ◌∷◌, ◌++◌, map, length, refl, ap, ◌∙◌, nat_eq}
use Rattle.std.specs.Prelude.{if◌then◌else◌, not, codes}
use Rattle.pb_syntax.specs.declared.core_label.CoreLabel.{CoreLabel}
use Rattle.pb_syntax.specs.declared.core_label.CoreKernel.{CoreKernel}
use Rattle.pb_local.specs.Pieces as P
use Rattle.pb_ctree.specs.Bodies.{is_marker, before_lines, lines_of}
use Rattle.pb_ctree.specs.Frame.{words, body_lines, function_lines, prelude_lines, kernel_lines, words_lines, kernels_after, kernel_head, kernel_letter, make_head, take_head, first_body, other_bodies}
use Rattle.pb_ctree.specs.Functions.{has_words, kernel_function, label_functions, labels_functions}
use Rattle.pb_ctree.specs.Lines.{Line, line, raw}
use Rattle.pb_ctree.specs.Rules.{is_kernel_row}
use Rattle.pb_cread_frame.specs.Ahead.{lines_text, spelled_body, kernel_bodies, words_bodies}

lines_again : (body : List ℕ) → lines_of (spelled_body body) ≡ lines_of body
lines_again [] = refl
lines_again (c ∷ cs) = by_test (nat_eq c 10) refl (lines_of cs) (lines_again cs) where
  by_test : (b : Bool) → nat_eq c 10 ≡ b → (ls : List (List ℕ)) → lines_of (lines_text ls) ≡ ls → lines_of (lines_text (if b then [] ∷ ls else before_lines c ls)) ≡ (if b then [] ∷ ls else before_lines c ls)
  by_test true t ls e = ap (λ x. [] ∷ x) e
  by_test false t [] e = ap (λ b. if b then [] ∷ lines_of (10 ∷ []) else before_lines c (lines_of (10 ∷ []))) t
  by_test false t (l ∷ ls) e =
      let text = lines_text (l ∷ ls) in
      ap (λ b. if b then [] ∷ lines_of text else before_lines c (lines_of text)) t ∙ ap (before_lines c) e

body_again : (body : List ℕ) → body_lines (spelled_body body) ≡ body_lines body
body_again body = ap (map (λ l. line 0 (raw l) (not (is_marker l)))) (lines_again body)

pub prelude_again : (body : List ℕ) → prelude_lines (spelled_body body) ≡ prelude_lines body
prelude_again body = ap (λ ls. words 0 (codes "/*@ prelude */") ∷ ls ++ words 0 (codes "/*@ end */") ∷ []) (body_again body)

function_again : (head : List ℕ) (kept : Bool) (name body : List ℕ) → function_lines head kept name (spelled_body body) ≡ function_lines head kept name body
function_again head kept name body =
    ap (λ ls. line 0 (raw head) kept ∷ words 0 (codes "{") ∷ words 0 (P.joined (codes "/*@ kernel " ∷ name ∷ codes " */" ∷ [])) ∷ ls ++ words 0 (codes "/*@ end */") ∷ words 0 (codes "}") ∷ []) (body_again body)

join : {xs ys us vs : List Line} → xs ≡ ys → us ≡ vs → xs ++ us ≡ ys ++ vs
join {ys = ys} {us = us} e f = ap (λ z. z ++ us) e ∙ ap (λ zs. ys ++ zs) f

kernels_again : (names : List (List ℕ)) (ks : List CoreKernel) (bodies : List (List ℕ)) → kernel_lines names ks (kernel_bodies ks bodies) ≡ kernel_lines names ks bodies
kernels_again names [] bodies = refl
kernels_again names (k ∷ ks) bodies =
    join (function_again (kernel_head k) (is_kernel_row names k) (kernel_letter k.kind ++ k.name) (first_body bodies)) (kernels_again (names ++ k.name ∷ []) ks (other_bodies bodies))

pub functions_again : (ls : List CoreLabel) (ks : List CoreKernel) (bodies : List (List ℕ)) → kernels_after ls ks (words_bodies ls ks bodies) ≡ kernels_after ls ks bodies
functions_again [] ks bodies = kernels_again [] ks bodies
functions_again (l ∷ ls) ks bodies = by_test (has_words l.payload) (λ bs. functions_again ls ks bs) where
  by_test : (b : Bool) → ((bodies : List (List ℕ)) → kernels_after ls ks (words_bodies ls ks bodies) ≡ kernels_after ls ks bodies)
      → (if b
      then words_lines l (if b then spelled_body (first_body bodies) ∷ spelled_body (first_body (other_bodies bodies)) ∷ words_bodies ls ks (other_bodies (other_bodies bodies)) else words_bodies ls ks bodies)
      ++ kernels_after ls ks (other_bodies (other_bodies (if b then spelled_body (first_body bodies) ∷ spelled_body (first_body (other_bodies bodies)) ∷ words_bodies ls ks (other_bodies (other_bodies bodies)) else words_bodies ls ks bodies)))
      else kernels_after ls ks (if b then spelled_body (first_body bodies) ∷ spelled_body (first_body (other_bodies bodies)) ∷ words_bodies ls ks (other_bodies (other_bodies bodies)) else words_bodies ls ks bodies))
      ≡ (if b then words_lines l bodies ++ kernels_after ls ks (other_bodies (other_bodies bodies)) else kernels_after ls ks bodies)
  by_test true f = join (join (function_again (make_head l) true (codes "make_" ++ l.name) (first_body bodies)) (function_again (take_head l) true (codes "take_" ++ l.name) (first_body (other_bodies bodies)))) (f (other_bodies (other_bodies bodies)))
  by_test false f = f bodies

kernels_many : (ks : List CoreKernel) (bodies : List (List ℕ)) → length (kernel_bodies ks bodies) ≡ length (map kernel_function ks)
kernels_many [] bodies = refl
kernels_many (k ∷ ks) bodies = ap (λ n. suc n) (kernels_many ks (other_bodies bodies))

-- a body for each function
pub words_many : (ls : List CoreLabel) (ks : List CoreKernel) (bodies : List (List ℕ)) → length (words_bodies ls ks bodies) ≡ length (labels_functions ls ++ map kernel_function ks)
words_many [] ks bodies = kernels_many ks bodies
words_many (l ∷ ls) ks bodies = by_test (has_words l.payload) refl (λ bs. words_many ls ks bs) where
  by_test : (b : Bool) → has_words l.payload ≡ b → ((bodies : List (List ℕ)) → length (words_bodies ls ks bodies) ≡ length (labels_functions ls ++ map kernel_function ks))
      → length (if b then spelled_body (first_body bodies) ∷ spelled_body (first_body (other_bodies bodies)) ∷ words_bodies ls ks (other_bodies (other_bodies bodies)) else words_bodies ls ks bodies)
      ≡ length ((label_functions l ++ labels_functions ls) ++ map kernel_function ks)
  by_test true t f = rw t (ap (λ n. suc (suc n)) (f (other_bodies (other_bodies bodies))))
  by_test false t f = rw t (f bodies)
