-- What a person is told of files.
use Rattle.std.specs.Prelude.{⊤, ℕ, List, Option}
use Rattle.pb_io.specs.Files.{File, IsContent}
use Rattle.pb_explain_source.specs.Pages.{IsPageOf}
use Rattle.pb_explain_again.specs.declared.again.Again.{Again}
use Rattle.pb_explain_again.specs.declared.again.Again.TheVariants.{Bytes, Lost}

-- what was read is the whole file
abbrev pub IsAgain : Option (List File) → List ℕ → Again → Type 0
IsAgain holds name (Bytes bytes) = IsContent holds name bytes.items
IsAgain holds name (Lost loss) = ⊤

-- a page on a file, which has these bytes where the folder tells what it holds
pub record IsTold (holds : Option (List File)) (text : List ℕ) : Type 0 where
  pub file : List ℕ
  pub bytes : List ℕ
  pub content : IsContent holds file bytes
  pub page : IsPageOf file bytes text
