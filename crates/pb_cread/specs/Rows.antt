-- The lines that a text begins with, and where they stand.
use Rattle.std.specs.Prelude.{◌≡◌, ℕ, ◌+◌, ◌-◌, ◌^◌, nat_eq, Bool, true, not, min, All, List, ◌++◌}
use Rattle.pb_text.specs.declared.place.Place.{Place}
use Rattle.pb_local.specs.Pieces.{joined}
use Rattle.pb_cread_frame.specs.Rows.{is_line}

-- the text is these lines, each with its line feed, and then the rest
pub record Begins (text : List ℕ) (lines : List (List ℕ)) (rest : List ℕ) : Type 0 where
  pub each : All (λ l. is_line l ≡ true) lines
  pub whole : text ≡ joined lines ++ rest

-- the number of the line behind k others; numbers of lines stop
abbrev pub line_number : ℕ → ℕ
line_number k = min (k + 1) (2 ^ 32 - 1)

abbrev pub line_place : ℕ → Place
line_place k = record { line = line_number k; col = 1 }

-- ---- the next line

-- a byte that ends no line
abbrev pub is_inner : ℕ → Bool
is_inner c = not (nat_eq c 10)

-- no line feed is there
abbrev pub HasNoLine : List ℕ → Type 0
HasNoLine text = (line more : List ℕ) → text ≡ line ++ more → is_line line ≡ true → ⊥

-- the first line, with its line feed, and what stands behind it
pub record IsFirst (text line more : List ℕ) : Type 0 where
  pub is : is_line line ≡ true
  pub whole : text ≡ line ++ more
