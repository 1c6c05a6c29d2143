-- Indenting step by step.
use Rattle.std.proofs.Common.{◌≡◌, ℕ, suc, ◌+◌, ◌-◌, ◌<◌, ◌≤◌, List, [], ◌∷◌, ◌++◌, refl, sym, ap, ◌∙◌, append_assoc, arith}
use Rattle.std.proofs.lemmas.List.{append-nil}
use Rattle.pb_syntax.specs.Layout.{indent}

-- one open brace more
pub indent_next : (before : List ℕ) (end counter : ℕ) → counter < end → (before ++ 32 ∷ 32 ∷ []) ++ indent (end - (counter + 1)) ≡ before ++ indent (end - counter)
indent_next before end counter lt =
    let k : end - counter ≡ suc (end - (counter + 1)) = omega arith in
    append_assoc before (32 ∷ 32 ∷ []) (indent (end - (counter + 1))) ∙ ap (λ (n : ℕ). before ++ indent n) (sym k)

-- no more
pub indent_done : (before : List ℕ) (end counter : ℕ) → end ≤ counter → before ++ indent (end - counter) ≡ before
indent_done before end counter le =
    let k : end - counter ≡ 0 = omega arith in
    rw k (append-nil before)
