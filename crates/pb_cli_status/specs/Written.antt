-- What was answered and written.
use Rattle.std.specs.Prelude.{◌≡◌, ℕ, ◌⊎◌, List, Option}
use Rattle.std.specs.Io.KnownBytes.{Appends}
use Rattle.pb_io.specs.Sinks.{AppendsFront}
use Rattle.pb_cli_status.specs.declared.status.Status.{Status}
use Rattle.pb_cli_status.specs.declared.status.Status.TheVariants.{WriteFault}

-- a status was given and its text was written, or a write failed and only some first bytes of it were
abbrev pub Says : Status → List ℕ → Status → Option (List ℕ) → Option (List ℕ) → Type 0
Says status text result old new = ((result ≡ status) × Appends old new text) ⊎ ((result ≡ WriteFault) × AppendsFront old new text)
