-- What a folder in memory holds, and which of its calls fail.
use Rattle.std.specs.Prelude.{◌≡◌, ℕ, ◌==◌, if◌then◌else◌, Bool, List, length, Result, is_ok}
use Rattle.pb_io.specs.Faults.{is_among, next_count}
use Rattle.pb_io.specs.Files.{File}
use Rattle.pb_io.specs.Shelf.{shelf_files, shelf_left}
use Rattle.pb_io.specs.declared.mem_folder.MemFolder.{MemFolder}

abbrev pub folder_files : MemFolder → List File
folder_files folder = shelf_files folder.shelf

abbrev pub folder_left : MemFolder → List ℕ
folder_left folder = shelf_left folder.shelf

-- the numbers of the calls that fail
abbrev pub folder_fails : MemFolder → List ℕ
folder_fails folder = folder.calls.fails.items

-- the number of calls so far, and so the number of the next one
abbrev pub folder_calls : MemFolder → ℕ
folder_calls folder = folder.calls.next

abbrev pub folder_faults : MemFolder → ℕ
folder_faults folder = folder.faults

abbrev pub folder_reads : MemFolder → ℕ
folder_reads folder = folder.reads

-- the number of bytes that were read
abbrev pub folder_passed : MemFolder → ℕ
folder_passed folder = folder.shelf.passed

-- the next call fails by its number
abbrev pub folder_fails_now : MemFolder → Bool
folder_fails_now folder = is_among folder.calls.next folder.calls.fails.items

-- no call fails by its number
abbrev pub folder_steady : MemFolder → Bool
folder_steady folder = length folder.calls.fails.items == 0

-- one more call, and one more fault where it failed
pub record CountsCall {T E : Type 0} (old new : MemFolder) (result : Result T E) : Type 0 where
  pub calls : folder_calls new ≡ next_count (folder_calls old)
  pub faults : folder_faults new ≡ (if is_ok result then folder_faults old else next_count (folder_faults old))

-- what the folder was made with stays
pub record KeepsFiles (old new : MemFolder) : Type 0 where
  pub files : folder_files new ≡ folder_files old
  pub fails : folder_fails new ≡ folder_fails old
