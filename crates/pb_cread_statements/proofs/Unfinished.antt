-- With an open brace nothing is finished.
use Rattle.std.proofs.Common.{◌≡◌, ℕ, true, false, List, [], ◌∷◌, length, reverse, map, Option, None, refl, sym, ap, ◌∙◌}
use Rattle.std.specs.Bool.{◌==◌}
use Rattle.std.proofs.lemmas.List.{length-reverse}
use Rattle.pb_local.specs.Tree.{Code}
use Rattle.pb_cread_statements.specs.declared.brace.Brace.{Brace}
use Rattle.pb_cread_statements.specs.Reading.{Wanted, statement, Frame, state, finished}
use Rattle.pb_cread_statements.specs.Views.{frame_of, frames_of}

none_finished : (w : Wanted) (done : List Code) (f : Frame) (fs : List Frame) (n k : ℕ) → ◌≡◌ {A = Option (List Code)} None (finished (state w done (f ∷ fs) n k))
none_finished statement done f fs n k = refl
none_finished other done f fs n k = refl

by_stack : (w : Wanted) (done : List Code) (bs : List Brace) (n k : ℕ) → (length bs ≡ 0 → ⊥) → ◌≡◌ {A = Option (List Code)} None (finished (state w done (map frame_of bs) n k))
by_stack w done [] n k some = absurd (some refl)
by_stack w done (b ∷ bs) n k some = none_finished w done (frame_of b) (map frame_of bs) n k

not_empty : (n : ℕ) → false ≡ (n == 0) → n ≡ 0 → ⊥
not_empty n e z = absurd_test (e ∙ ap (λ x. x == 0) z) where
  absurd_test : false ≡ true → ⊥
  absurd_test e = cc

pub unfinished : (w : Wanted) (done : List Code) (bs : List Brace) (n k : ℕ) → false ≡ (length bs == 0) → ◌≡◌ {A = Option (List Code)} None (finished (state w done (frames_of bs) n k))
unfinished w done bs n k e = by_stack w done (reverse bs) n k (λ z. not_empty (length bs) e (sym (length-reverse bs) ∙ z))
