use Rattle.std.proofs.Common.{◌≡◌, drop}
use Rattle.pb_io.specs.Files.{file_of}
use Rattle.pb_io.specs.Entries.{entries}
use Rattle.pb_io.proofs.shelf.first_place.Given as goal

abbrev pub invariant-loop-place : goal.invariant-loop-place
invariant-loop-place l = file_of (entries (drop l.place l.files)) l.name ≡ file_of (entries l.files) l.name
