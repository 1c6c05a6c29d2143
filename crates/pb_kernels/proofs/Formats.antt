-- What is read is the format.
use Rattle.std.proofs.Common.{◌≡◌, ℕ, Bool, true, false, not, List, [], ◌∷◌, ◌++◌, refl, sym, ap, subst, ◌∙◌, append_assoc, append-nil, Some, None, Ok, Err, if◌then◌else◌}
use Rattle.std.specs.Prelude.{Result}
use Rattle.std.proofs.lemmas.Bool.{not-true, and_from, and_parts}
use Rattle.pb_text.specs.Places.{one_more}
use Rattle.pb_ctree.specs.Bodies.{is_marker}
use Rattle.pb_ctree.specs.declared.kernel.KName.{KName}
use Rattle.pb_kernels.specs.declared.dialect.Dialect.{Dialect}
use Rattle.pb_kernels.specs.declared.dialect.Dialect.TheVariants.{Plain, Program}
use Rattle.pb_kernels.specs.declared.fault.KernelFault.{KernelFault}
use Rattle.pb_kernels.specs.declared.fault.KernelFault.TheVariants.{Twice}
use Rattle.pb_kernels.specs.declared.file.NamedBody.{NamedBody}
use Rattle.pb_kernels.specs.declared.marker.Marker.{Marker}
use Rattle.pb_kernels.specs.declared.marker.Marker.TheVariants.{Opening, Closing, Bad}
use Rattle.pb_kernels.specs.declared.reading.OpenBody.{OpenBody}
use Rattle.pb_kernels.specs.declared.reading.Reading.{Reading}
use Rattle.pb_kernels.specs.Files.{lines, step, after_marker, after_plain, read_from, then_read, kernel_file, program_file}
use Rattle.pb_kernels.specs.Format.{IsBody, close, more, IsFile, done, pass, body, PlainIsProgram, ReadsTheFormat}
use Rattle.pb_kernels.specs.Marks.{marker_of}
use Rattle.pb_kernels.specs.Names.{is_among, are_new, are_distinct}
use Rattle.pb_kernels.proofs.Dialects.{file_same}
use Rattle.pb_kernels.proofs.Steps.{read_on}

abbrev outside : List NamedBody → Reading
outside before = record { closed = before; current = None }

abbrev inside : List NamedBody → OpenBody → Reading
inside before b = record { closed = before; current = Some b }

abbrev with_line : OpenBody → List ℕ → OpenBody
with_line b line = record { name = b.name; line = b.line; text = b.text ++ line }

abbrev named : KName → List ℕ → NamedBody
named name bytes = record { name = name; body = bytes }

abbrev stepped : Bool → Marker → ℕ → List ℕ → Reading → Result Reading KernelFault
stepped b m n line reading = if b then after_marker m n reading else Ok (after_plain line reading reading.current)

step_at : (d : Dialect) (n : ℕ) (line : List ℕ) (reading : Reading) (b : Bool) (m : Marker) → is_marker line ≡ b → marker_of d line ≡ m → step d n line reading ≡ stepped b m n line reading
unfolding step
step_at d n line reading b m e f =
    ap (λ (t : Bool). stepped t (marker_of d line) n line reading) e ∙ ap (λ (k : Marker). stepped b k n line reading) f

-- every kernel file is read

read_body : (d : Dialect) {rest below : List (List ℕ)} {bytes : List ℕ} → IsBody d rest below bytes → (n : ℕ) (before : List NamedBody) (b : OpenBody) (result : Result (List NamedBody) KernelFault)
    → ((m : ℕ) → read_from d m rest (outside (before ++ named b.name (b.text ++ bytes) ∷ [])) ≡ result) → read_from d n below (inside before b) ≡ result
read_body d {rest} (close line marker closes) n before b result after =
    read_on d n line rest (inside before b) (outside (before ++ named b.name b.text ∷ [])) (step_at d n line (inside before b) true Closing marker closes)
    ∙ subst (λ (t : List ℕ). read_from d (one_more n) rest (outside (before ++ named b.name t ∷ [])) ≡ result) (append-nil b.text) (after (one_more n))
read_body d {rest} (more line {below} {bytes} plain rests) n before b result after =
    read_on d n line below (inside before b) (inside before (with_line b line)) (step_at d n line (inside before b) false (marker_of d line) plain refl)
    ∙ read_body d rests (one_more n) before (with_line b line) result
    (λ m. subst (λ (t : List ℕ). read_from d m rest (outside (before ++ named b.name t ∷ [])) ≡ result) (sym (append_assoc b.text line bytes)) (after m))

no_lines : (d : Dialect) (n : ℕ) (before : List NamedBody) → read_from d n [] (outside before) ≡ Ok before
unfolding read_from
no_lines d n before = refl

read_file : (d : Dialect) {below : List (List ℕ)} {list : List NamedBody} → IsFile d below list → (n : ℕ) (before : List NamedBody) → are_new before list ≡ true
    → read_from d n below (outside before) ≡ Ok (before ++ list)
read_file d done n before fresh = no_lines d n before ∙ ap Ok (sym (append-nil before))
read_file d (pass line {below} {list} plain file) n before fresh =
    read_on d n line below (outside before) (outside before) (step_at d n line (outside before) false (marker_of d line) plain refl)
    ∙ read_file d file (one_more n) before fresh
read_file d (body line name {below} {rest} {bytes} {list} marker opens inner file) n before fresh =
    let parts : (not (is_among name before) ≡ true) × (are_new (before ++ named name bytes ∷ []) list ≡ true) =
    and_parts (not (is_among name before)) (are_new (before ++ named name bytes ∷ []) list) fresh in
    let b : OpenBody = record { name = name; line = n; text = [] } in
    let opened : step d n line (outside before) ≡ Ok (inside before b) =
    step_at d n line (outside before) true (Opening name) marker opens ∙ ap (λ (t : Bool). if t then Err (Twice name) else Ok (inside before b)) (not-true (is_among name before) parts.0) in
    read_on d n line below (outside before) (inside before b) opened
    ∙ read_body d inner (one_more n) before b (Ok (before ++ named name bytes ∷ list))
    (λ m. read_file d file m (before ++ named name bytes ∷ []) parts.1 ∙ ap Ok (append_assoc before (named name bytes ∷ []) list))

-- and nothing else

record FileFound (d : Dialect) (below : List (List ℕ)) (before list : List NamedBody) : Type 0 where
  tail : List NamedBody
  whole : list ≡ before ++ tail
  file : IsFile d below tail
  fresh : are_new before tail ≡ true

record BodyFound (d : Dialect) (below : List (List ℕ)) (before : List NamedBody) (b : OpenBody) (list : List NamedBody) : Type 0 where
  bytes : List ℕ
  rest : List (List ℕ)
  tail : List NamedBody
  inner : IsBody d rest below bytes
  whole : list ≡ (before ++ named b.name (b.text ++ bytes) ∷ []) ++ tail
  file : IsFile d rest tail
  fresh : are_new (before ++ named b.name (b.text ++ bytes) ∷ []) tail ≡ true

abbrev Out : Dialect → List (List ℕ) → Type 0
Out d below = (n : ℕ) (before list : List NamedBody) → read_from d n below (outside before) ≡ Ok list → FileFound d below before list

abbrev In : Dialect → List (List ℕ) → Type 0
In d below = (n : ℕ) (before : List NamedBody) (b : OpenBody) (list : List NamedBody) → read_from d n below (inside before b) ≡ Ok list → BodyFound d below before b list

opening_at : (d : Dialect) (line : List ℕ) (name : KName) (below : List (List ℕ)) (n : ℕ) (before list : List NamedBody) (t : Bool) → In d below
    → is_marker line ≡ true → marker_of d line ≡ Opening name → is_among name before ≡ t
    → then_read (read_from d (one_more n) below) (if t then Err (Twice name) else Ok (inside before (record { name = name; line = n; text = [] }))) ≡ Ok list
    → FileFound d (line ∷ below) before list
opening_at d line name below n before list true within marker opens among e = cc
opening_at d line name below n before list false within marker opens among e =
    let g = within (one_more n) before (record { name = name; line = n; text = [] }) list e in record {
      tail = named name g.bytes ∷ g.tail;
      whole = g.whole ∙ append_assoc before (named name g.bytes ∷ []) g.tail;
      file = body line name marker opens g.inner g.file;
      fresh = and_from (not (is_among name before)) (are_new (before ++ named name g.bytes ∷ []) g.tail) (ap not among) g.fresh;
    }

out_at : (d : Dialect) (line : List ℕ) (below : List (List ℕ)) (n : ℕ) (before list : List NamedBody) (t : Bool) (m : Marker) → Out d below → In d below
    → is_marker line ≡ t → marker_of d line ≡ m → then_read (read_from d (one_more n) below) (stepped t m n line (outside before)) ≡ Ok list
    → FileFound d (line ∷ below) before list
out_at d line below n before list false m without within marker what e =
    let f = without (one_more n) before list e in record { tail = f.tail; whole = f.whole; file = pass line marker f.file; fresh = f.fresh }
out_at d line below n before list true (Opening name) without within marker what e =
    opening_at d line name below n before list (is_among name before) within marker what refl e
out_at d line below n before list true Closing without within marker what e = cc
out_at d line below n before list true Bad without within marker what e = cc

in_at : (d : Dialect) (line : List ℕ) (below : List (List ℕ)) (n : ℕ) (before : List NamedBody) (b : OpenBody) (list : List NamedBody) (t : Bool) (m : Marker) → Out d below → In d below
    → is_marker line ≡ t → marker_of d line ≡ m → then_read (read_from d (one_more n) below) (stepped t m n line (inside before b)) ≡ Ok list
    → BodyFound d (line ∷ below) before b list
in_at d line below n before b list false m without within marker what e =
    let g = within (one_more n) before (with_line b line) list e in
    let same : (b.text ++ line) ++ g.bytes ≡ b.text ++ (line ++ g.bytes) = append_assoc b.text line g.bytes in record {
      bytes = line ++ g.bytes;
      rest = g.rest;
      tail = g.tail;
      inner = more line marker g.inner;
      whole = subst (λ (u : List ℕ). list ≡ (before ++ named b.name u ∷ []) ++ g.tail) same g.whole;
      file = g.file;
      fresh = subst (λ (u : List ℕ). are_new (before ++ named b.name u ∷ []) g.tail ≡ true) same g.fresh;
    }
in_at d line below n before b list true (Opening name) without within marker what e = cc
in_at d line below n before b list true Closing without within marker what e =
    let f = without (one_more n) (before ++ named b.name b.text ∷ []) list e in
    let same : b.text ≡ b.text ++ [] = sym (append-nil b.text) in record {
      bytes = [];
      rest = below;
      tail = f.tail;
      inner = close line marker what;
      whole = subst (λ (u : List ℕ). list ≡ (before ++ named b.name u ∷ []) ++ f.tail) same f.whole;
      file = f.file;
      fresh = subst (λ (u : List ℕ). are_new (before ++ named b.name u ∷ []) f.tail ≡ true) same f.fresh;
    }
in_at d line below n before b list true Bad without within marker what e = cc

abbrev given : List NamedBody → Result (List NamedBody) KernelFault
given list = Ok list

same_ok : (before list : List NamedBody) → given before ≡ given list → before ≡ list
same_ok before list e = cc

found : (d : Dialect) (below : List (List ℕ)) → Out d below × In d below
unfolding read_from step
found d [] = (
  (λ n before list e. record { tail = []; whole = sym (same_ok before list e) ∙ sym (append-nil before); file = done; fresh = refl }),
  (λ n before b list e. cc),
)
found d (line ∷ below) =
    let h = found d below in (
      (λ n before list e. out_at d line below n before list (is_marker line) (marker_of d line) h.0 h.1 refl refl e),
      (λ n before b list e. in_at d line below n before b list (is_marker line) (marker_of d line) h.0 h.1 refl refl e),
    )

pub reads_the_format : ReadsTheFormat
reads_the_format d bytes list = (
  (λ e. let f = (found d (lines bytes)).0 1 [] list e in (
    subst (IsFile d (lines bytes)) (sym f.whole) f.file,
    subst (λ (l : List NamedBody). are_distinct l ≡ true) (sym f.whole) f.fresh,
  )),
  (λ h. read_file d h.0 1 [] h.1),
)

pub plain_is_program : PlainIsProgram
unfolding kernel_file program_file
plain_is_program bytes list e =
    let read = (reads_the_format Plain bytes list).0 e in (reads_the_format Program bytes list).1 (file_same read.0, read.1)
