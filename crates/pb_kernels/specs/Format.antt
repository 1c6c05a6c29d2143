-- What a kernel file of a dialect is: lines outside bodies, and bodies between their markers.
use Rattle.std.specs.Prelude.{◌≡◌, ℕ, true, false, List, [], ◌∷◌, ◌++◌, ◌↔◌, Ok}
use Rattle.pb_ctree.specs.Bodies.{is_marker}
use Rattle.pb_ctree.specs.declared.kernel.KName.{KName}
use Rattle.pb_kernels.specs.declared.dialect.Dialect.{Dialect}
use Rattle.pb_kernels.specs.declared.file.NamedBody.{NamedBody}
use Rattle.pb_kernels.specs.declared.marker.Marker.TheVariants.{Opening, Closing}
use Rattle.pb_kernels.specs.Files.{lines, bodies_in, kernel_file, program_file}
use Rattle.pb_kernels.specs.Marks.{marker_of}
use Rattle.pb_kernels.specs.Names.{are_distinct}

-- these lines are those of a body with these bytes, the line that closes it, and the rest
pub data IsBody (dialect : Dialect) (rest : List (List ℕ)) : List (List ℕ) → List ℕ → Type 0 where
  close : (line : List ℕ) → is_marker line ≡ true → marker_of dialect line ≡ Closing → IsBody dialect rest (line ∷ rest) []
  more : (line : List ℕ) {below : List (List ℕ)} {bytes : List ℕ} → is_marker line ≡ false
      → IsBody dialect rest below bytes → IsBody dialect rest (line ∷ below) (line ++ bytes)

-- these lines are those of a file with these bodies
pub data IsFile (dialect : Dialect) : List (List ℕ) → List NamedBody → Type 0 where
  done : IsFile dialect [] []
  pass : (line : List ℕ) {below : List (List ℕ)} {list : List NamedBody} → is_marker line ≡ false
      → IsFile dialect below list → IsFile dialect (line ∷ below) list
  body : (line : List ℕ) (name : KName) {below rest : List (List ℕ)} {bytes : List ℕ} {list : List NamedBody}
      → is_marker line ≡ true → marker_of dialect line ≡ Opening name → IsBody dialect rest below bytes
      → IsFile dialect rest list → IsFile dialect (line ∷ below) (record { name = name; body = bytes } ∷ list)

-- what is read is a kernel file's list of bodies with distinct names, and every such file is read
abbrev pub ReadsTheFormat : Type 0
ReadsTheFormat =
    (dialect : Dialect) (bytes : List ℕ) (list : List NamedBody) → (bodies_in dialect bytes ≡ Ok list) ↔ (IsFile dialect (lines bytes) list × (are_distinct list ≡ true))

-- a kernel file of a plain text is one of a program text, with the same bodies
abbrev pub PlainIsProgram : Type 0
PlainIsProgram = (bytes : List ℕ) (list : List NamedBody) → kernel_file bytes ≡ Ok list → program_file bytes ≡ Ok list
