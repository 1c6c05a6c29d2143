use Rattle.std.proofs.Common.{◌≡◌, drop}
use Rattle.pb_io.specs.Files.{file_of}
use Rattle.pb_io.specs.Entries.{entries}
use Rattle.pb_renew_store.proofs.mem_files.bytes_of.Given as goal

abbrev pub invariant-loop-file : goal.invariant-loop-file
invariant-loop-file l = file_of (entries (drop l.file-index l.files)) l.name ≡ file_of (entries l.files) l.name
