-- Where a list of tokens stops to be a types file.
use Rattle.std.specs.Prelude.{◌≡◌, List, [], ◌∷◌, ◌++◌, Result, Ok, Err}
use Rattle.pb_text.specs.declared.token.Token.{Token}
use Rattle.pb_types.specs.Plain.{PlainTypes}
use Rattle.pb_types.specs.Grammar.{IsTypesFile, IsTypesFront}

-- this is the first token such that the tokens up to it are no front of a file
pub record StopsBefore (ts : List Token) (t : Token) (rest : List Token) : Type 0 where
  pub front : List Token
  pub split : ts ≡ front ++ (t ∷ rest)
  pub before : IsTypesFront front
  pub there : IsTypesFront (front ++ (t ∷ [])) → ⊥

-- all the tokens are a front of a file, and no file
pub record EndsEarly (ts : List Token) : Type 0 where
  pub front : IsTypesFront ts
  pub no_file : (f : PlainTypes) → IsTypesFile ts f → ⊥

-- what reading all the tokens tells
abbrev pub Tells : List Token → Result (PlainTypes × List Token) (List Token) → Type 0
Tells ts (Ok p) = IsTypesFile ts p.0
Tells ts (Err []) = EndsEarly ts
Tells ts (Err (t ∷ rest)) = StopsBefore ts t rest
