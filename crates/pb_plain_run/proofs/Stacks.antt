-- A stack whose innermost frame stands last in a list.
use Rattle.std.proofs.Common.{◌≡◌, ◌≢◌, ℕ, zero, suc, ◌-◌, length, true, false, arith, List, [], ◌∷◌, ◌++◌, map, reverse, refl, ap, ◌∙◌}
use Rattle.std.proofs.lemmas.List.{reverse-append, map-append}
use Rattle.pb_core_language.specs.Flat.{Block}
use Rattle.pb_core_language.specs.Run as R
use Rattle.pb_plain_run.specs.declared.doing.Frame.{Frame}
use Rattle.pb_plain_run.specs.Doing.{frame_of, stack_of}

pub stack_push : (xs : List Frame) (f : Frame) → stack_of (xs ++ f ∷ []) ≡ frame_of f ∷ stack_of xs
stack_push xs f = ap reverse (map-append frame_of xs (f ∷ [])) ∙ reverse-append (map frame_of xs) (frame_of f ∷ [])

-- the loop that is left counts as one
pub back_further : (b : Block) (r : Block) (n : ℕ) (K : List R.Frame) → n ≢ 0 → R.back (record { opener = R.Body b; rest = r } ∷ K) n ≡ R.back K (n - 1)
back_further b r zero K h = absurd (h refl)
back_further b r (suc n) K h = let e : suc n - 1 ≡ n = omega arith in rw e refl

not_over : (zs : List R.Frame) (z : R.Frame) → R.is_over_at (zs ++ z ∷ []) ≡ false
not_over [] z = refl
not_over (y ∷ zs) z = refl

pub over_is : (xs : List Frame) → length xs ≡ 0 → R.is_over_at (stack_of xs) ≡ true
over_is [] h = refl
over_is (x ∷ xs) h = absurd (omega arith)

pub not_over_is : (xs : List Frame) → length xs ≢ 0 → R.is_over_at (stack_of xs) ≡ false
not_over_is [] h = absurd (h refl)
not_over_is (x ∷ xs) h = ap R.is_over_at (reverse-append (frame_of x ∷ []) (map frame_of xs)) ∙ not_over (reverse (map frame_of xs)) (frame_of x)
