-- Where a list of tokens stops to be a file.
use Rattle.std.specs.Prelude.{◌≡◌, List, [], ◌∷◌, ◌++◌}
use Rattle.pb_text.specs.declared.token.Token.{Token}
use Rattle.pb_syntax.specs.Tree.{PlainFile}
use Rattle.pb_syntax.specs.Grammar.{IsFile, IsFront}

-- this is the first token such that the tokens up to it are no front of a file
pub record StopsBefore (ts : List Token) (t : Token) (rest : List Token) : Type 0 where
  pub front : List Token
  pub split : ts ≡ front ++ (t ∷ rest)
  pub before : IsFront front
  pub there : IsFront (front ++ (t ∷ [])) → ⊥

-- all the tokens are a front of a file, and no file
pub record EndsEarly (ts : List Token) : Type 0 where
  pub front : IsFront ts
  pub no_file : (f : PlainFile) → IsFile ts f → ⊥
