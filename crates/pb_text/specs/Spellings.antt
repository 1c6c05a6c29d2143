-- How keywords and symbols are spelled.
use Rattle.std.specs.Prelude.{ℕ, Bool, List, [], ◌∷◌, codes, length, take, find, Option, nat_eq}
use Rattle.std.specs.Cmp.Lexicographic.{pointwise}
use Rattle.pb_text.specs.declared.token.Key.{Key}
use Rattle.pb_text.specs.declared.token.Key.TheVariants.{Const, Global, Protocol, Role, From, To, Foreach, Rec, Continue, Choice, At, Or, Compute, Barrier, Broadcast, Reduce, Allreduce, With, Max, Min, Sum, Int32, Uint32, Do}
use Rattle.pb_text.specs.declared.token.Mark.{Mark}
use Rattle.pb_text.specs.declared.token.Mark.TheVariants.{Dots, Equals, Semicolon, LeftParen, RightParen, LeftBracket, RightBracket, LeftBrace, RightBrace, Comma, Colon, Plus, Minus}

abbrev pub key_spelling : Key → List ℕ
key_spelling Const = codes "const"
key_spelling Global = codes "global"
key_spelling Protocol = codes "protocol"
key_spelling Role = codes "role"
key_spelling From = codes "from"
key_spelling To = codes "to"
key_spelling Foreach = codes "foreach"
key_spelling Rec = codes "rec"
key_spelling Continue = codes "continue"
key_spelling Choice = codes "choice"
key_spelling At = codes "at"
key_spelling Or = codes "or"
key_spelling Compute = codes "compute"
key_spelling Barrier = codes "barrier"
key_spelling Broadcast = codes "broadcast"
key_spelling Reduce = codes "reduce"
key_spelling Allreduce = codes "allreduce"
key_spelling With = codes "with"
key_spelling Max = codes "max"
key_spelling Min = codes "min"
key_spelling Sum = codes "sum"
key_spelling Int32 = codes "int32"
key_spelling Uint32 = codes "uint32"
key_spelling Do = codes "do"

unfoldable pub keys : List Key
keys =
    Const ∷ Global ∷ Protocol ∷ Role ∷ From ∷ To ∷ Foreach ∷ Rec ∷ Continue ∷ Choice ∷ At ∷ Or ∷ Compute ∷ Barrier ∷ Broadcast ∷ Reduce ∷ Allreduce ∷ With ∷ Max ∷ Min ∷ Sum ∷ Int32 ∷ Uint32 ∷ Do ∷ []

-- the keyword that a word is
unfoldable pub key_of : List ℕ → Option Key
key_of word = find (λ key. pointwise nat_eq word (key_spelling key)) keys

abbrev pub mark_spelling : Mark → List ℕ
mark_spelling Dots = codes ".."
mark_spelling Equals = codes "="
mark_spelling Semicolon = codes ";"
mark_spelling LeftParen = codes "("
mark_spelling RightParen = codes ")"
mark_spelling LeftBracket = codes "["
mark_spelling RightBracket = codes "]"
mark_spelling LeftBrace = codes "{"
mark_spelling RightBrace = codes "}"
mark_spelling Comma = codes ","
mark_spelling Colon = codes ":"
mark_spelling Plus = codes "+"
mark_spelling Minus = codes "-"

unfoldable pub marks : List Mark
marks =
    Dots ∷ Equals ∷ Semicolon ∷ LeftParen ∷ RightParen ∷ LeftBracket ∷ RightBracket ∷ LeftBrace ∷ RightBrace ∷ Comma ∷ Colon ∷ Plus ∷ Minus ∷ []

-- the text begins with these bytes
abbrev pub begins_with : List ℕ → List ℕ → Bool
begins_with front text = pointwise nat_eq front (take (length front) text)

-- the symbol that a text begins with
unfoldable pub mark_at : List ℕ → Option Mark
mark_at text = find (λ mark. begins_with (mark_spelling mark) text) marks
