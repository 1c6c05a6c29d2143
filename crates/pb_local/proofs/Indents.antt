-- Indentation, step by step.
use Rattle.std.proofs.Common.{◌≡◌, ℕ, suc, ◌-◌, ◌+◌, ◌<◌, List, [], ◌∷◌, ◌++◌, ap, sym, ◌∙◌, append_assoc, arith}
use Rattle.pb_local.specs.Pieces.{indent}

indent_less : (d i : ℕ) → i < d → indent (d - i) ≡ 32 ∷ 32 ∷ indent (d - (i + 1))
indent_less d i lt =
    let k : d - i ≡ suc (d - (i + 1)) = omega arith in
    ap indent k

pub indent_goes_on : (out new start : List ℕ) (d i : ℕ) → i < d → out ++ indent (d - i) ≡ start ++ indent d → new ≡ out ++ 32 ∷ 32 ∷ [] → new ++ indent (d - (i + 1)) ≡ start ++ indent d
indent_goes_on out new start d i lt so_far is =
    ap (λ x. x ++ indent (d - (i + 1))) is ∙ append_assoc out (32 ∷ 32 ∷ []) (indent (d - (i + 1))) ∙ ap (λ x. out ++ x) (sym (indent_less d i lt)) ∙ so_far
