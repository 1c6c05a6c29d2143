-- What a text begins with, by its first byte.
use Rattle.std.proofs.Common.{◌≡◌, ℕ, ◌<◌, List, [], ◌∷◌, length, get_or, refl, sym, arith}
use Rattle.pb_text.specs.Lexemes.{lexeme, lexeme_of}
use Rattle.pb_text.specs.Tokens.{skip, done}
use Rattle.pb_lex.specs.declared.lexeme.Sort.{Sort}
use Rattle.pb_lex.specs.declared.lexeme.Sort.TheVariants.{Gap, Line, Name, Key, Number, Mark, Bad}
use Rattle.pb_lex.specs.Seen.{lexeme_seen, IsBegun}

pub lexeme_begun : (text : List ℕ) → 0 < length text → lexeme text ≡ lexeme_of (get_or text 0 0) text
unfolding lexeme
lexeme_begun [] some = absurd (omega arith)
lexeme_begun (byte ∷ bytes) some = refl

pub begun_by : (sort : Sort) (len : ℕ) (text : List ℕ) → lexeme_seen sort len text ≡ lexeme text → IsBegun sort len text
begun_by Gap len text is = λ place. skip len (sym is) done
begun_by Line len text is = is
begun_by Name len text is = is
begun_by (Key key) len text is = is
begun_by (Number n) len text is = is
begun_by (Mark mark) len text is = is
begun_by (Bad fault) len text is = is
