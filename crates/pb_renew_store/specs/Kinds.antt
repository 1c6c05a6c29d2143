-- What a name leads to, in a store that tells its files.
use Rattle.std.specs.Prelude.{ℕ, List, Option, None, Some}
use Rattle.pb_renew_store.specs.declared.kind.FileKind.{FileKind}
use Rattle.pb_renew_store.specs.declared.kind.FileKind.TheVariants.{Missing, Regular}

-- no file has the name, or one has it
abbrev pub kind_of : Option (List ℕ) → FileKind
kind_of None = Missing
kind_of (Some bytes) = Regular
