-- Single lines, with their line feeds.
use Rattle.std.specs.Prelude.{ℕ, Bool, true, false, nat_eq, List, [], ◌∷◌, if◌then◌else◌}

abbrev pub is_nothing : List ℕ → Bool
is_nothing [] = true
is_nothing (c ∷ cs) = false

-- the line feed is the last byte, and the only one
abbrev pub is_line : List ℕ → Bool
is_line [] = false
is_line (c ∷ cs) = if nat_eq c 10 then is_nothing cs else is_line cs

-- a line without its line feed
abbrev pub bare : List ℕ → List ℕ
bare [] = []
bare (c ∷ cs) = if nat_eq c 10 then [] else c ∷ bare cs
