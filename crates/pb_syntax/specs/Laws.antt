-- What holds of the grammar alone.
use Rattle.std.specs.Prelude.{◌≡◌, ℕ, List, ◌++◌, ◌↔◌}
use Rattle.pb_text.specs.declared.token.Token.{Token}
use Rattle.pb_text.specs.Tokens.{IsText}
use Rattle.pb_syntax.specs.Form.{Form}
use Rattle.pb_syntax.specs.Tree.{PlainFile}
use Rattle.pb_syntax.specs.Grammar.{IsFile, IsFront}
use Rattle.pb_syntax.specs.Bare.{bare_file}
use Rattle.pb_syntax.specs.Layout.{printed}

-- some grammatical list begins with these tokens
abbrev pub BeginsFile : List Token → Type 0
BeginsFile ts = (rest : List Token) × (f : PlainFile) × IsFile (ts ++ rest) f

abbrev pub FrontsBegin : Type 0
FrontsBegin = (ts : List Token) → IsFront ts ↔ BeginsFile ts

abbrev pub OneTree : Type 0
OneTree = (ts : List Token) (f g : PlainFile) → IsFile ts f → IsFile ts g → f ≡ g

-- The bytes are a text of the tree, places aside.
pub record IsTextOf (bytes : List ℕ) (f : PlainFile) : Type 0 where
  pub tokens : List Token
  pub text : IsText bytes tokens
  pub tree : PlainFile
  pub whole : IsFile tokens tree
  pub alike : bare_file f ≡ bare_file tree

abbrev pub PrintedIsText : Type 0
PrintedIsText = (f : PlainFile) (bytes : List ℕ) → IsTextOf bytes f → IsTextOf (printed f) f

-- two forms have the same texts for the same values, and the same fronts
pub record Same {A : Type 0} (f g : Form A) : Type 0 where
  pub to : (ts : List Token) (x : A) → f.text ts x → g.text ts x
  pub from : (ts : List Token) (x : A) → g.text ts x → f.text ts x
  pub front_to : (ts : List Token) → f.front ts → g.front ts
  pub front_from : (ts : List Token) → g.front ts → f.front ts
