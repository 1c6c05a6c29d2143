-- What a store in memory holds, and what it told.
use Rattle.std.specs.Prelude.{◌≡◌, ℕ, Bool, List, ◌++◌, Some, nat_eq, not}
use Rattle.std.specs.Cmp.Lexicographic.{pointwise}
use Rattle.std.specs.List.{filter}
use Rattle.std.specs.String.{string_bytes}
use Rattle.pb_io.specs.Entries.{entries}
use Rattle.pb_io.specs.Files.{File, file_of}
use Rattle.pb_io.specs.declared.mem_file.MemFile.{MemFile}
use Rattle.pb_renew_store.specs.Deeds.{Deed}
use Rattle.pb_renew_store.specs.Recorded.{is_whole, told_by}
use Rattle.pb_renew_store.specs.declared.mem_store.MemStore.{MemStore}

abbrev pub store_files : MemStore → List File
store_files store = entries store.files.items

-- the name of the file that was made last
abbrev pub store_written : MemStore → List ℕ
store_written store = string_bytes store.written

abbrev pub store_deeds : MemStore → List Deed
store_deeds store = told_by store.deeds.items store.unkept (string_bytes store.written)

-- it keeps all that it tells
abbrev pub keeps_all : MemStore → Bool
keeps_all store = is_whole store.unkept

-- the files without this name
abbrev pub others_than : List ℕ → List MemFile → List MemFile
others_than name files = filter (λ file. not (pointwise nat_eq (string_bytes file.name) name)) files

-- a file has bytes, and these are they and a piece behind them
pub record IsGrown (files : List File) (name piece grown : List ℕ) : Type 0 where
  pub bytes : List ℕ
  pub there : file_of files name ≡ Some bytes
  pub are : grown ≡ bytes ++ piece
