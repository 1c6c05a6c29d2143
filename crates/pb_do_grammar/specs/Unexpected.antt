-- Where a list of tokens stops to be a file with subprotocols.
use Rattle.std.specs.Prelude.{◌≡◌, List, [], ◌∷◌, ◌++◌, Result, Ok, Err}
use Rattle.pb_text.specs.declared.token.Token.{Token}
use Rattle.pb_do_syntax.specs.Calls.{PlainCallFile}
use Rattle.pb_do_grammar.specs.Grammar.{IsCallFile, IsCallFront}

-- this is the first token such that the tokens up to it are no front of a file
pub record StopsBefore (ts : List Token) (t : Token) (rest : List Token) : Type 0 where
  pub front : List Token
  pub split : ts ≡ front ++ (t ∷ rest)
  pub before : IsCallFront front
  pub there : IsCallFront (front ++ (t ∷ [])) → ⊥

-- all the tokens are a front of a file, and no file
pub record EndsEarly (ts : List Token) : Type 0 where
  pub front : IsCallFront ts
  pub no_file : (f : PlainCallFile) → IsCallFile ts f → ⊥

-- what reading all the tokens tells
abbrev pub Tells : List Token → Result (PlainCallFile × List Token) (List Token) → Type 0
Tells ts (Ok p) = IsCallFile ts p.0
Tells ts (Err []) = EndsEarly ts
Tells ts (Err (t ∷ rest)) = StopsBefore ts t rest
