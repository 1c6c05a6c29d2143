-- Where a list of tokens stops to be a file with strips.
use Rattle.std.specs.Prelude.{◌≡◌, List, [], ◌∷◌, ◌++◌, Result, Ok, Err}
use Rattle.pb_text.specs.declared.token.Token.{Token}
use Rattle.pb_strips_syntax.specs.Strips.{PlainStripFile}
use Rattle.pb_strips_grammar.specs.Grammar.{IsStripFile, IsStripFront}

-- this is the first token such that the tokens up to it are no front of a file
pub record StopsBefore (ts : List Token) (t : Token) (rest : List Token) : Type 0 where
  pub front : List Token
  pub split : ts ≡ front ++ (t ∷ rest)
  pub before : IsStripFront front
  pub there : IsStripFront (front ++ (t ∷ [])) → ⊥

-- all the tokens are a front of a file, and no file
pub record EndsEarly (ts : List Token) : Type 0 where
  pub front : IsStripFront ts
  pub no_file : (f : PlainStripFile) → IsStripFile ts f → ⊥

-- what reading all the tokens tells
abbrev pub Tells : List Token → Result (PlainStripFile × List Token) (List Token) → Type 0
Tells ts (Ok p) = IsStripFile ts p.0
Tells ts (Err []) = EndsEarly ts
Tells ts (Err (t ∷ rest)) = StopsBefore ts t rest
