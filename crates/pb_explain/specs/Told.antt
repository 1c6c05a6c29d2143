-- What a person is told of files, as far as it was written.
use Rattle.std.specs.Prelude.{ℕ, List, take, Option}
use Rattle.std.specs.Io.KnownBytes.{Appends}
use Rattle.pb_io.specs.Files.{File}
use Rattle.pb_explain_again.specs.Told.{IsTold}

-- some first bytes of the text were appended, or all of them, or none
pub record AppendsSome (before after : Option (List ℕ)) (text : List ℕ) : Type 0 where
  pub count : ℕ
  pub front : Appends before after (take count text)

-- such a page was written, as far as the sink took it
pub record Tells (holds : Option (List File)) (before after : Option (List ℕ)) : Type 0 where
  pub text : List ℕ
  pub told : IsTold holds text
  pub written : AppendsSome before after text
