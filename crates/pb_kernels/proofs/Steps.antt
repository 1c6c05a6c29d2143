-- The lines of a file, one on.
use Rattle.std.proofs.Common.{◌≡◌, ℕ, true, false, ◌+◌, ◌-◌, ◌<◌, ◌≤◌, ◌⊎◌, List, [], ◌∷◌, length, length-drop, take, drop, refl, sym, ap, subst, ◌∙◌, arith, Ok, Err, inl, inr}
use Rattle.std.proofs.Math.Seq.{take-length}
use Rattle.std.proofs.lemmas.List.{drop-drop, drop_all}
use Rattle.std.specs.Prelude.{Result}
use Rattle.pb_ctree.specs.Bodies.{is_rest}
use Rattle.pb_text.specs.Places.{one_more}
use Rattle.pb_kernels.specs.declared.dialect.Dialect.{Dialect}
use Rattle.pb_kernels.specs.declared.fault.KernelFault.{KernelFault}
use Rattle.pb_kernels.specs.declared.file.NamedBody.{NamedBody}
use Rattle.pb_kernels.specs.declared.reading.Reading.{Reading}
use Rattle.pb_kernels.specs.Outcomes.{Gives}
use Rattle.pb_kernels.specs.declared.fault.KernelFault.TheVariants.{NoMemory}
use Rattle.pb_kernels.specs.Files.{lines, step, read_from, then_read, finished}

-- what a slice without an end is
pub rest_is : (bytes : List ℕ) (at : ℕ) → take (length bytes - at) (drop at bytes) ≡ drop at bytes
rest_is bytes at = ap (λ n. take n (drop at bytes)) (sym (length-drop at bytes)) ∙ take-length (drop at bytes)

-- a line that was read
pub read_on : (d : Dialect) (n : ℕ) (line : List ℕ) (rest : List (List ℕ)) (old new : Reading) → step d n line old ≡ Ok new
    → read_from d n (line ∷ rest) old ≡ read_from d (one_more n) rest new
unfolding read_from
read_on d n line rest old new e = ap (then_read (read_from d (one_more n) rest)) e

-- a line at fault
refused : (d : Dialect) (n : ℕ) (line : List ℕ) (rest : List (List ℕ)) (old : Reading) (fault : KernelFault) → step d n line old ≡ Err fault
    → read_from d n (line ∷ rest) old ≡ Err fault
unfolding read_from
refused d n line rest old fault e = ap (then_read (read_from d (one_more n) rest)) e

-- no more lines
at_end : (d : Dialect) (n : ℕ) (reading : Reading) → read_from d n (lines []) reading ≡ finished reading.closed reading.current
unfolding read_from lines
at_end d n reading = refl

-- the first line of a slice is that of the rest
abbrev pub FirstLine : List ℕ → ℕ → Type 0
FirstLine text len = lines text ≡ take len text ∷ lines (drop len text)

abbrev pub slice_of : List ℕ → ℕ → List ℕ
slice_of bytes at = take (length bytes - at) (drop at bytes)

line_at : (bytes : List ℕ) (at len : ℕ) → take (at + len - at) (drop at bytes) ≡ take len (drop at bytes)
line_at bytes at len = ap (λ n. take n (drop at bytes)) (omega arith)

split : (bytes : List ℕ) (at len : ℕ) → FirstLine (slice_of bytes at) len → FirstLine (drop at bytes) len
split bytes at len first = subst (λ (l : List ℕ). FirstLine l len) (rest_is bytes at) first

pub next : (d : Dialect) (bytes : List ℕ) (at len n m : ℕ) (old new : Reading) (whole : Result (List NamedBody) KernelFault)
    → FirstLine (slice_of bytes at) len → m ≡ one_more n → step d n (take (at + len - at) (drop at bytes)) old ≡ Ok new
    → read_from d n (lines (drop at bytes)) old ≡ whole → read_from d m (lines (drop (at + len) bytes)) new ≡ whole
next d bytes at len n m old new whole first number stepped before =
    let line : step d n (take len (drop at bytes)) old ≡ Ok new = subst (λ (l : List ℕ). step d n l old ≡ Ok new) (line_at bytes at len) stepped in
    ap (λ k. read_from d k (lines (drop (at + len) bytes)) new) number
    ∙ ap (λ (l : List ℕ). read_from d (one_more n) (lines l) new) (sym (drop-drop len at bytes))
    ∙ sym (read_on d n (take len (drop at bytes)) (lines (drop len (drop at bytes))) old new line)
    ∙ ap (λ (ls : List (List ℕ)). read_from d n ls old) (sym (split bytes at len first))
    ∙ before

pub failed : (d : Dialect) (bytes : List ℕ) (at len n : ℕ) (old : Reading) (fault : KernelFault) (whole : Result (List NamedBody) KernelFault)
    → FirstLine (slice_of bytes at) len → (fault ≡ NoMemory) ⊎ (step d n (take (at + len - at) (drop at bytes)) old ≡ Err fault)
    → read_from d n (lines (drop at bytes)) old ≡ whole → (fault ≡ NoMemory) ⊎ (whole ≡ Err fault)
failed d bytes at len n old fault whole first (inl memory) before = inl memory
failed d bytes at len n old fault whole first (inr stopped) before =
    let line : step d n (take len (drop at bytes)) old ≡ Err fault = subst (λ (l : List ℕ). step d n l old ≡ Err fault) (line_at bytes at len) stopped in
    inr (sym before ∙ ap (λ (ls : List (List ℕ)). read_from d n ls old) (split bytes at len first)
    ∙ refused d n (take len (drop at bytes)) (lines (drop len (drop at bytes))) old fault line)

pub ended : (d : Dialect) (bytes : List ℕ) (at n : ℕ) (reading : Reading) (whole result : Result (List NamedBody) KernelFault) → length bytes ≤ at
    → read_from d n (lines (drop at bytes)) reading ≡ whole → Gives (finished reading.closed reading.current) result → Gives whole result
ended d bytes at n reading whole result past before gives =
    let e : finished reading.closed reading.current ≡ whole =
    sym (at_end d n reading) ∙ ap (λ (l : List ℕ). read_from d n (lines l) reading) (sym (drop_all at bytes past)) ∙ before in
    subst (λ (w : Result (List NamedBody) KernelFault). Gives w result) e gives

-- a line that isn't the last ends with a line feed
pub ends_at : (bytes : List ℕ) (at len : ℕ) → at + len < length bytes
    → (len < length (slice_of bytes at) → is_rest false (take len (slice_of bytes at)) ≡ true) → is_rest false (take (at + len - at) (drop at bytes)) ≡ true
ends_at bytes at len more ends =
    subst (λ (l : List ℕ). is_rest false l ≡ true) (sym (line_at bytes at len))
    (subst (λ (l : List ℕ). len < length l → is_rest false (take len l) ≡ true) (rest_is bytes at) ends (omega (arith, length-drop at bytes)))
