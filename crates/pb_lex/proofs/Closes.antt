-- The search for the end of a comment, a byte on.
use Rattle.std.proofs.Common.{◌≡◌, ℕ, ◌+◌, ◌<◌, false, List, ◌∷◌, length, drop, get_or, Option, None, Some, refl, sym, ap, subst, ◌∙◌, add-one, arith, if◌then◌else◌}
use Rattle.std.specs.Prelude.{codes}
use Rattle.std.proofs.Math.Seq.{drop-cons}
use Rattle.pb_text.specs.Spellings.{begins_with}
use Rattle.pb_text.specs.Lexemes.{close_of, later}

later_later : (at : ℕ) (found : Option ℕ) → later at (later 1 found) ≡ later (at + 1) found
later_later at None = refl
later_later at (Some n) = ap Some (omega arith)

step : (byte : ℕ) (rest : List ℕ) (at : ℕ) → begins_with (codes "*/") (byte ∷ rest) ≡ false → later at (close_of (byte ∷ rest)) ≡ later (at + 1) (close_of rest)
step byte rest at miss =
    ap (λ t. later at (if t then Some 2 else later 1 (close_of rest))) miss ∙ later_later at (close_of rest)

pub close_next : (bytes : List ℕ) (at : ℕ) → at < length bytes → begins_with (codes "*/") (drop at bytes) ≡ false
    → later at (close_of (drop at bytes)) ≡ later (at + 1) (close_of (drop (at + 1) bytes))
close_next bytes at there miss =
    let cons : drop at bytes ≡ get_or bytes at 0 ∷ drop (at + 1) bytes =
    drop-cons bytes at 0 there ∙ ap (λ k. get_or bytes at 0 ∷ drop k bytes) (sym (add-one at)) in
    subst (λ (l : List ℕ). later at (close_of l) ≡ later (at + 1) (close_of (drop (at + 1) bytes))) (sym cons)
    (step (get_or bytes at 0) (drop (at + 1) bytes) at (subst (λ (l : List ℕ). begins_with (codes "*/") l ≡ false) cons miss))
