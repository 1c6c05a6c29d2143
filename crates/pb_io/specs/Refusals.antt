-- Where the open file stands after a whole read was refused.
use Rattle.std.specs.Prelude.{◌≡◌, ℕ, ◌+◌, ◌≤◌, ◌⊎◌, List, length, Option, Some, IfSome}
use Rattle.std.specs.Io.KnownBytes.{Consumes}
use Rattle.pb_io.specs.Files.{File, content_of}
use Rattle.pb_io.specs.declared.fault.InFault.{InFault}
use Rattle.pb_io.specs.declared.fault.InFault.TheVariants.{ReadFault, TooLong, NoMemory}

-- some first bytes of the content were read, as many as P says, and the rest is left
abbrev pub StandsBehind : List ℕ → Option (List ℕ) → (ℕ → Type 0) → Type 0
StandsBehind content left P = (front : List ℕ) × Consumes (Some content) left front × P (length front)

-- a read fault comes at the opening, which leaves all as before, or behind bytes within the limit
abbrev pub StandsAt : InFault → ℕ → List ℕ → Option (List ℕ) → Option (List ℕ) → Type 0
StandsAt ReadFault limit content old new = (new ≡ old) ⊎ StandsBehind content new (λ n. n ≤ limit)
StandsAt TooLong limit content old new = StandsBehind content new (λ n. n ≡ limit + 1)
StandsAt NoMemory limit content old new = StandsBehind content new (λ n. n ≤ limit + 1)

-- of a folder that tells what it holds
abbrev pub Stands : InFault → ℕ → Option (List File) → List ℕ → Option (List ℕ) → Option (List ℕ) → Type 0
Stands fault limit holds name old new = IfSome holds (λ files. StandsAt fault limit (content_of files name) old new)
