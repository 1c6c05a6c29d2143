-- What the lines of a kernel file of a dialect are, from the first on.
use Rattle.std.specs.Prelude.{ℕ, ◌+◌, Bool, true, not, List, [], ◌∷◌, ◌++◌, Option, None, Some, Result, Ok, Err, length, min, nat_eq, if◌then◌else◌}
use Rattle.std.specs.List.{prefix_len}
use Rattle.pb_text.specs.Places.{one_more}
use Rattle.pb_ctree.specs.Bodies.{before_lines, is_body, is_marker}
use Rattle.pb_ctree.specs.declared.kernel.KName.{KName}
use Rattle.pb_kernels.specs.declared.dialect.Dialect.{Dialect}
use Rattle.pb_kernels.specs.declared.dialect.Dialect.TheVariants.{Plain, Program}
use Rattle.pb_kernels.specs.declared.fault.KernelFault.{KernelFault}
use Rattle.pb_kernels.specs.declared.fault.KernelFault.TheVariants.{BadMarker, Twice}
use Rattle.pb_kernels.specs.declared.file.NamedBody.{NamedBody}
use Rattle.pb_kernels.specs.declared.marker.Marker.{Marker}
use Rattle.pb_kernels.specs.declared.marker.Marker.TheVariants.{Opening, Closing, Bad}
use Rattle.pb_kernels.specs.declared.reading.OpenBody.{OpenBody}
use Rattle.pb_kernels.specs.declared.reading.Reading.{Reading}
use Rattle.pb_kernels.specs.Marks.{marker_of}
use Rattle.pb_kernels.specs.Names.{is_among}

-- the lines of a text, each with its line feed, which the last may lack
unfoldable pub lines : List ℕ → List (List ℕ)
lines [] = []
lines (byte ∷ bytes) = if nat_eq byte 10 then (byte ∷ []) ∷ lines bytes else before_lines byte (lines bytes)

-- the number of bytes of the first line, with its line feed
abbrev pub first_len : List ℕ → ℕ
first_len bytes = min (prefix_len (λ byte. not (nat_eq byte 10)) bytes + 1) (length bytes)

abbrev pub nothing : Reading
nothing = record { closed = []; current = None }

-- a line that is no marker: it is passed over outside bodies
abbrev pub after_plain : List ℕ → Reading → Option OpenBody → Reading
after_plain line reading None = reading
after_plain line reading (Some body) = record { closed = reading.closed; current = Some (record { name = body.name; line = body.line; text = body.text ++ line }) }

-- line n opens a body
abbrev pub after_opening : ℕ → KName → List NamedBody → Option OpenBody → Result Reading KernelFault
after_opening n name before (Some body) = Err (BadMarker n)
after_opening n name before None =
    if is_among name before then Err (Twice name) else Ok (record { closed = before; current = Some (record { name = name; line = n; text = [] }) })

-- line n closes the body that is open
abbrev pub after_closing : ℕ → List NamedBody → Option OpenBody → Result Reading KernelFault
after_closing n before None = Err (BadMarker n)
after_closing n before (Some body) = Ok (record { closed = before ++ record { name = body.name; body = body.text } ∷ []; current = None })

abbrev pub after_marker : Marker → ℕ → Reading → Result Reading KernelFault
after_marker (Opening name) n reading = after_opening n name reading.closed reading.current
after_marker Closing n reading = after_closing n reading.closed reading.current
after_marker Bad n reading = Err (BadMarker n)

-- line n
unfoldable pub step : Dialect → ℕ → List ℕ → Reading → Result Reading KernelFault
step dialect n line reading = if is_marker line then after_marker (marker_of dialect line) n reading else Ok (after_plain line reading reading.current)

abbrev pub then_read : (Reading → Result (List NamedBody) KernelFault) → Result Reading KernelFault → Result (List NamedBody) KernelFault
then_read next (Ok reading) = next reading
then_read next (Err fault) = Err fault

-- a body that is never closed is at fault where it was opened
abbrev pub finished : List NamedBody → Option OpenBody → Result (List NamedBody) KernelFault
finished before None = Ok before
finished before (Some body) = Err (BadMarker body.line)

-- the lines from line n on
unfoldable pub read_from : Dialect → ℕ → List (List ℕ) → Reading → Result (List NamedBody) KernelFault
read_from dialect n [] reading = finished reading.closed reading.current
read_from dialect n (line ∷ rest) reading = then_read (read_from dialect (one_more n) rest) (step dialect n line reading)

-- the bodies of a kernel file of this dialect, or its first line at fault
abbrev pub bodies_in : Dialect → List ℕ → Result (List NamedBody) KernelFault
bodies_in dialect bytes = read_from dialect 1 (lines bytes) nothing

-- the same of a kernel file of a plain text
unfoldable pub kernel_file : List ℕ → Result (List NamedBody) KernelFault
kernel_file bytes = bodies_in Plain bytes

-- the same of a kernel file of a program text
unfoldable pub program_file : List ℕ → Result (List NamedBody) KernelFault
program_file bytes = bodies_in Program bytes

abbrev pub is_open_body : Option OpenBody → Bool
is_open_body None = true
is_open_body (Some body) = is_body body.text

abbrev pub is_open_new : List NamedBody → Option OpenBody → Bool
is_open_new before None = true
is_open_new before (Some body) = not (is_among body.name before)
