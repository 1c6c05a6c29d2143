-- Files in memory as a list of names and bytes.
use Rattle.std.specs.Prelude.{ℕ, List, [], ◌∷◌, Option, Some, None}
use Rattle.std.specs.List.{slice_get}
use Rattle.std.specs.String.{string_bytes}
use Rattle.pb_io.specs.Files.{File}
use Rattle.pb_io.specs.declared.mem_file.MemFile.{MemFile}

abbrev pub entry_of : MemFile → File
entry_of file = record { name = string_bytes file.name; bytes = file.bytes.items }

abbrev pub entries : List MemFile → List File
entries [] = []
entries (file ∷ files) = entry_of file ∷ entries files

abbrev pub bytes_of : Option MemFile → List ℕ
bytes_of None = []
bytes_of (Some file) = file.bytes.items

-- the bytes of the file at a place, and none past the end
abbrev pub place_bytes : List MemFile → ℕ → List ℕ
place_bytes files place = bytes_of (slice_get files place)

-- the same, and none without a place
abbrev pub bytes_at : List MemFile → Option ℕ → List ℕ
bytes_at files None = []
bytes_at files (Some place) = place_bytes files place
