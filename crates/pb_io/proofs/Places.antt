-- The first file of a name among those from a place on.
use Rattle.std.proofs.Common.{◌≡◌, ℕ, ◌+◌, ◌<◌, if◌then◌else◌, Bool, true, false, List, length, drop, get_or, Option, Some, nat_eq, refl, sym, ap, ◌∙◌}
use Rattle.std.specs.Cmp.Lexicographic.{pointwise}
use Rattle.std.specs.String.{string_bytes}
use Rattle.std.proofs.lemmas.List.{at_drop_more}
use Rattle.std.proofs.lemmas.Option.{slice_get-get_or}
use Rattle.pb_io.specs.Files.{file_of}
use Rattle.pb_io.specs.Entries.{entries, bytes_of, place_bytes}
use Rattle.pb_io.specs.declared.mem_file.MemFile.{MemFile}

abbrev pub is_named : MemFile → List ℕ → Bool
is_named file name = pointwise nat_eq (string_bytes file.name) name

-- the file at a place comes before those behind it
pub file_of-drop : (files : List MemFile) (place : ℕ) (file : MemFile) (name : List ℕ) → place < length files → file ≡ get_or files place file → file_of (entries (drop place files)) name ≡ (if is_named file name then Some file.bytes.items else file_of (entries (drop (place + 1) files)) name)
file_of-drop files place file name within is =
    at_drop_more (λ (fs : List MemFile). file_of (entries fs) name) files place file within
    ∙ ap (λ (f : MemFile). if is_named f name then Some f.bytes.items else file_of (entries (drop (place + 1) files)) name) (sym is)

-- a file with the name is the first
pub first_here : (files : List MemFile) (place : ℕ) (file : MemFile) (name : List ℕ) → place < length files → file ≡ get_or files place file → is_named file name ≡ true → Some (place_bytes files place) ≡ file_of (entries (drop place files)) name
first_here files place file name within is named =
    ap (λ (o : Option MemFile). Some (bytes_of o)) (slice_get-get_or files place file within ∙ ap (λ (f : MemFile). Some f) (sym is))
    ∙ sym (file_of-drop files place file name within is ∙ rw named refl)

-- a file without it isn't
pub first_behind : (files : List MemFile) (place : ℕ) (file : MemFile) (name : List ℕ) → place < length files → file ≡ get_or files place file → is_named file name ≡ false → file_of (entries (drop (place + 1) files)) name ≡ file_of (entries (drop place files)) name
first_behind files place file name within is named = sym (file_of-drop files place file name within is ∙ rw named refl)
