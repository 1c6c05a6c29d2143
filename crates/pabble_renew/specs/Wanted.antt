-- Which text is wanted for a file.
use Rattle.std.specs.Prelude.{◌≡◌, ℕ, List, Option}
use Rattle.pb_io.specs.Files.{File}
use Rattle.pb_cli_file.specs.Files.{IsTreeOf}
use Rattle.pb_renew_text.specs.declared.wanted.Wanted.{Wanted}
use Rattle.pb_typed_types.specs.declared.types.Form.TheVariants.{Plain}

-- the plain text of one of the trees that may be printed for the bytes of FILE
pub record IsWantedOf (file : List ℕ) (folder : Option (List File)) (wanted : Wanted) : Type 0 where
  pub tree : IsTreeOf file folder wanted.tree
  pub form : wanted.form ≡ Plain
