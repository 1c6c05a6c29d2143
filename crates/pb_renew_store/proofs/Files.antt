-- The first file of a name, where a file is put in front, or files are taken away.
use Rattle.std.proofs.Common.{◌≡◌, ◌≢◌, ℕ, if◌then◌else◌, Bool, true, false, not, List, [], ◌∷◌, Option, None, Some, IsSome, nat_eq, refl, sym, ap, ◌∙◌, true≢false}
use Rattle.std.specs.Cmp.Lexicographic.{pointwise}
use Rattle.std.specs.String.{string_bytes}
use Rattle.std.proofs.lemmas.List.{append-nil}
use Rattle.pb_io.specs.Entries.{entries}
use Rattle.pb_io.specs.Files.{File, file_of}
use Rattle.pb_io.specs.declared.mem_file.MemFile.{MemFile}
use Rattle.pb_renew_store.specs.Changes.{KeepsOthers}
use Rattle.pb_renew_store.specs.Deeds.{Does, renamed, removed}
use Rattle.pb_renew_store.specs.MemStore.{IsGrown, others_than}
use Rattle.pb_renew_store.proofs.Names.{same_name, named_so, other_name}

abbrev pub named : List ℕ → List ℕ → File
named name bytes = record { name = name; bytes = bytes }

-- a file in front has its bytes
pub in_front : (name bytes : List ℕ) (files : List File) → file_of (named name bytes ∷ files) name ≡ Some bytes
in_front name bytes files = rw (same_name name name refl) refl

-- and the others are as they were
pub behind_front : (name bytes : List ℕ) (files : List File) → KeepsOthers name files (named name bytes ∷ files)
behind_front name bytes files = λ other ne. rw (other_name name other (λ e. ne (sym e))) refl

-- what is taken away is gone
pub taken_away : (name : List ℕ) (files : List MemFile) → file_of (entries (others_than name files)) name ≡ None
taken_away name [] = refl
taken_away name (file ∷ files) = by_test (taken_away name files) (pointwise nat_eq (string_bytes file.name) name) refl where
  by_test : file_of (entries (others_than name files)) name ≡ None → (test : Bool) → pointwise nat_eq (string_bytes file.name) name ≡ test
      → file_of (entries (if not test then file ∷ others_than name files else others_than name files)) name ≡ None
  by_test rest true e = rest
  by_test rest false e = rw e rest

-- and nothing else
pub left_there : (name : List ℕ) (files : List MemFile) (other : List ℕ) → other ≢ name → file_of (entries (others_than name files)) other ≡ file_of (entries files) other
left_there name [] other ne = refl
left_there name (file ∷ files) other ne = by_test (left_there name files other ne) (pointwise nat_eq (string_bytes file.name) name) refl where
  by_test : file_of (entries (others_than name files)) other ≡ file_of (entries files) other → (test : Bool) → pointwise nat_eq (string_bytes file.name) name ≡ test
      → file_of (entries (if not test then file ∷ others_than name files else others_than name files)) other ≡ (if pointwise nat_eq (string_bytes file.name) other then Some file.bytes.items else file_of (entries files) other)
  by_test rest true e = rw (other_name (string_bytes file.name) other (λ s. ne (sym s ∙ named_so (string_bytes file.name) name e))) rest
  by_test rest false e = ap (λ (o : Option (List ℕ)). if pointwise nat_eq (string_bytes file.name) other then Some file.bytes.items else o) rest

-- a grown file is the file's bytes, where nothing is appended
pub is_content : (files : List File) (name grown : List ℕ) → IsGrown files name [] grown → Some grown ≡ file_of files name
is_content files name grown is = ap (λ (l : List ℕ). Some l) (is.are ∙ append-nil is.bytes) ∙ sym is.there

-- a file that has bytes is there
there_is : (files : List File) (name piece grown : List ℕ) → IsGrown files name piece grown → IsSome (file_of files name)
there_is files name piece grown is = rw is.there refl

-- each file with a name is taken away
pub takes_away : (name : List ℕ) (old new : List MemFile) → new ≡ others_than name old → Does (removed name) (entries old) (entries new)
takes_away name old new is_new = rw is_new (taken_away name old, λ other ne. left_there name old other ne)

-- a file that has another's name in front, and isn't there under its own
pub renames_other : (from to grown : List ℕ) (old : List File) (middle new : List MemFile) → pointwise nat_eq from to ≡ false → IsGrown old from [] grown
    → entries middle ≡ named to grown ∷ old → new ≡ others_than from middle → Does (renamed from to) old (entries new)
renames_other from to grown old middle new ne is front is_new = rw is_new (
  there_is old from [] grown is,
  record {
    there = left_there from middle to (λ e. true≢false (sym (same_name from to (sym e)) ∙ ne)) ∙ ap (λ (fs : List File). file_of fs to) front ∙ in_front to grown old ∙ is_content old from grown is;
    gone = λ _. taken_away from middle;
    others = λ other not_from not_to. left_there from middle other not_from ∙ ap (λ (fs : List File). file_of fs other) front ∙ behind_front to grown old other not_to;
  },
)

-- a file that has its own name again
pub renames_same : (from to grown : List ℕ) (old new : List File) → pointwise nat_eq from to ≡ true → IsGrown old from [] grown
    → new ≡ named to grown ∷ old → Does (renamed from to) old new
renames_same from to grown old new e is front = rw front (
  there_is old from [] grown is,
  record {
    there = in_front to grown old ∙ is_content old from grown is;
    gone = λ ne. absurd (ne (named_so from to e));
    others = λ other not_from not_to. behind_front to grown old other not_to;
  },
)
