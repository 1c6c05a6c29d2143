-- What a shelf holds, and what of its open file is left.
use Rattle.std.specs.Prelude.{ℕ, List, Option, drop}
use Rattle.pb_io.specs.Files.{File}
use Rattle.pb_io.specs.Entries.{entries, bytes_at}
use Rattle.pb_io.specs.declared.shelf.Shelf.{Shelf}

abbrev pub shelf_files : Shelf → List File
shelf_files shelf = entries shelf.files.items

abbrev pub shelf_left : Shelf → List ℕ
shelf_left shelf = drop shelf.position (bytes_at shelf.files.items shelf.current)

-- the bytes of the file at a place, and none without a place
abbrev pub shelf_bytes : Shelf → Option ℕ → List ℕ
shelf_bytes shelf place = bytes_at shelf.files.items place
