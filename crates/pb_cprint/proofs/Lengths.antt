-- A line makes a text longer.
use Rattle.std.proofs.Common.{◌≡◌, ℕ, ◌+◌, ◌<◌, ◌≤◌, List, [], ◌∷◌, ◌++◌, length, arith, ap}
use Rattle.std.proofs.lemmas.List.{length-append}
use Rattle.pb_local.specs.Pieces.{indent, line}

pub longer : (old new : List ℕ) (depth : ℕ) (text : List ℕ) → new ≡ old ++ line depth text → length old < length new
longer old new depth text is = omega (arith, ap length is, length-append old (line depth text), length-append (indent depth ++ text) (10 ∷ []))

-- where a statement stands, what it holds may stand one deeper
pub inside : (old new : List ℕ) (depth inner : ℕ) (text : List ℕ) → inner ≡ depth + 1 → depth + 2 ≤ length old → new ≡ old ++ line depth text → inner + 2 ≤ length new
inside old new depth inner text deep long is =
    let more : length old < length new = longer old new depth text is in
    omega arith

pub room : (old new : List ℕ) (depth : ℕ) (text : List ℕ) → depth + 2 ≤ length old → new ≡ old ++ line depth text → depth < length new
room old new depth text long is =
    let more : length old < length new = longer old new depth text is in
    omega arith
