-- The bodies of kernels: whole lines, none of which is a marker.
use Rattle.std.specs.Prelude.{ℕ, nat_eq, not, Bool, true, ◌&&◌, List, [], ◌∷◌, codes, if◌then◌else◌}
use Rattle.std.specs.List.{starts_with}

-- a marker begins so
abbrev pub marker : List ℕ
marker = codes "/*@"

abbrev pub is_marker : List ℕ → Bool
is_marker line = starts_with nat_eq line marker

-- what is left of a body: no marker where a line begins, and the last line has its line feed
abbrev pub is_rest : Bool → List ℕ → Bool
is_rest begins [] = begins
is_rest begins (c ∷ cs) = not (begins && is_marker (c ∷ cs)) && is_rest (nat_eq c 10) cs

abbrev pub is_body : List ℕ → Bool
is_body bytes = is_rest true bytes

abbrev pub before_lines : ℕ → List (List ℕ) → List (List ℕ)
before_lines c [] = (c ∷ []) ∷ []
before_lines c (l ∷ ls) = (c ∷ l) ∷ ls

-- the lines of a body, without their line feeds
abbrev pub lines_of : List ℕ → List (List ℕ)
lines_of [] = []
lines_of (c ∷ cs) = if nat_eq c 10 then [] ∷ lines_of cs else before_lines c (lines_of cs)
