-- A text in front.
use Rattle.std.proofs.Common.{◌≡◌, ℕ, Bool, true, false, cond, List, [], ◌∷◌, ◌++◌, length, take, drop, Some, None, refl, sym, ap, ap₂, ◌∙◌, nat_eq, eq-eqb, eqb-true}
use Rattle.std.specs.Prelude.{◌&&◌}
use Rattle.std.specs.Cmp.Lexicographic.{pointwise}
use Rattle.pb_text_read.specs.Fronts.{strip}

pub strip_is : (text bytes : List ℕ) → strip text bytes ≡ cond (pointwise nat_eq (take (length text) bytes) text) (Some (drop (length text) bytes)) None
strip_is [] bytes = refl
strip_is (p ∷ ps) [] = refl
strip_is (p ∷ ps) (b ∷ bytes) = by_test (nat_eq p b) (nat_eq b p) refl refl (strip_is ps bytes) where
  by_test : (x y : Bool) → nat_eq p b ≡ x → nat_eq b p ≡ y → strip ps bytes ≡ cond (pointwise nat_eq (take (length ps) bytes) ps) (Some (drop (length ps) bytes)) None
      → cond x (strip ps bytes) None ≡ cond (y && pointwise nat_eq (take (length ps) bytes) ps) (Some (drop (length ps) bytes)) None
  by_test true true e f same = same
  by_test false false e f same = refl
  by_test true false e f same = let k : p ≡ b = eqb-true p b e in let g : nat_eq b p ≡ true = eq-eqb b p (sym k) in absurd cc
  by_test false true e f same = let k : b ≡ p = eqb-true b p f in let g : nat_eq p b ≡ true = eq-eqb p b (sym k) in absurd cc

pub strip_again : (p rest : List ℕ) → strip p (p ++ rest) ≡ Some rest
strip_again [] rest = refl
strip_again (c ∷ cs) rest = ap (λ b. cond b (strip cs (cs ++ rest)) None) (eq-eqb c c refl) ∙ strip_again cs rest

pub strip_sound : (p text rest : List ℕ) → strip p text ≡ Some rest → text ≡ p ++ rest
strip_sound [] text rest h = cc
strip_sound (c ∷ cs) [] rest h = absurd cc
strip_sound (c ∷ cs) (b ∷ bytes) rest h = go (nat_eq c b) refl h (strip_sound cs bytes rest)
  where
    go : (x : Bool) → nat_eq c b ≡ x → cond x (strip cs bytes) None ≡ Some rest → (strip cs bytes ≡ Some rest → bytes ≡ cs ++ rest) → b ∷ bytes ≡ c ∷ (cs ++ rest)
    go true e g more = ap₂ (λ x xs. x ∷ xs) (sym (eqb-true c b e)) (more g)
    go false e g more = absurd cc
