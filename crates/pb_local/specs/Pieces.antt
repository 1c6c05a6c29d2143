-- Texts that are made of pieces.
use Rattle.std.specs.Prelude.{ℕ, zero, suc, List, [], ◌∷◌, ◌++◌}

-- the pieces, one after the other
abbrev pub joined : List (List ℕ) → List ℕ
joined [] = []
joined (p ∷ ps) = p ++ joined ps

-- two spaces for each statement that is open
abbrev pub indent : ℕ → List ℕ
indent zero = []
indent (suc depth) = 32 ∷ 32 ∷ indent depth

-- a line of a text
abbrev pub line : ℕ → List ℕ → List ℕ
line depth text = indent depth ++ text ++ 10 ∷ []
