-- Known bytes that grow or are read in two steps.
use Rattle.std.proofs.Common.{◌≡◌, ℕ, arith, ◌+◌, ◌≤◌, List, ◌++◌, length, take, drop, Option, None, Some, IfSome, sym, ap, ◌∙◌, append_assoc, length-append}
use Rattle.std.proofs.Math.Seq.{take-add}
use Rattle.std.proofs.lemmas.List.{take_at, take-append-drop}
use Rattle.std.specs.Io.KnownBytes.{Appends, Consumes}
use Rattle.pb_io.specs.Files.{File, content_of}
use Rattle.pb_io.specs.Passed.{count_after, StopsAt}
use Rattle.pb_io.specs.Refusals.{Stands}
use Rattle.pb_io.specs.declared.fault.InFault.TheVariants.{NoMemory}

-- a front of some bytes, and then a front of the rest
pub appends_next : (start middle last : Option (List ℕ)) (bytes rest : List ℕ) (done count : ℕ) → rest ≡ drop done bytes → Appends start middle (take done bytes) → Appends middle last (take count rest) → Appends start last (take (done + count) bytes)
appends_next None middle last bytes rest done count behind before now = tt
appends_next (Some xs) None last bytes rest done count behind before now = absurd before
appends_next (Some xs) (Some ys) None bytes rest done count behind before now = absurd now
appends_next (Some xs) (Some ys) (Some zs) bytes rest done count behind before now =
    now ∙ ap (λ (l : List ℕ). l ++ take count rest) before ∙ append_assoc xs _ _
    ∙ ap (λ (l : List ℕ). xs ++ (take done bytes ++ take count l)) behind ∙ ap (λ (l : List ℕ). xs ++ l) (sym (take-add done count bytes))

-- two reads, one after the other
pub consumes_both : (start middle last : Option (List ℕ)) (front piece : List ℕ) → Consumes start middle front → Consumes middle last piece → Consumes start last (front ++ piece)
consumes_both None middle last front piece before now = tt
consumes_both (Some xs) None last front piece before now = absurd before
consumes_both (Some xs) (Some ys) None front piece before now = absurd now
consumes_both (Some xs) (Some ys) (Some zs) front piece before now =
    before ∙ ap (λ (l : List ℕ). front ++ l) now ∙ sym (append_assoc front piece zs)

-- where a file was opened and read in two steps, it stands behind both
pub stands_behind : (holds : Option (List File)) (name : List ℕ) (limit : ℕ) (old start middle last : Option (List ℕ)) (front piece : List ℕ) → IfSome holds (λ files. start ≡ Some (content_of files name)) → Consumes start middle front → Consumes middle last piece → length front + length piece ≤ limit + 1 → Stands NoMemory limit holds name old last
stands_behind None name limit old start middle last front piece opened before now most = tt
stands_behind (Some files) name limit old start middle last front piece opened before now most =
    (front ++ piece, rw opened at (consumes_both start middle last front piece before now), rw length-append most)

-- the first bytes of a rest, copied to the front of others, are read off it
pub read_next : (rest copied others after : List ℕ) (count : ℕ) → copied ≡ take count rest → length copied ≡ count → after ≡ drop count rest → rest ≡ take count (copied ++ others) ++ after
read_next rest copied others after count front long back =
    rw (take_at copied others count long, front, back) (sym (take-append-drop count rest))

-- bytes that were counted in two steps are counted in one
pub counted_both : (before middle now first more : ℕ) → middle ≡ count_after before first → now ≡ count_after middle more → now ≡ count_after before (first + more)
counted_both before middle now first more one two = omega (arith, one, two)

-- where memory ran out behind both, it was at most one byte past the limit
pub stops_behind : (limit before middle now first more : ℕ) → middle ≡ count_after before first → now ≡ count_after middle more → first + more ≤ limit + 1 → StopsAt NoMemory limit before now
stops_behind limit before middle now first more one two most = (first + more, most, counted_both before middle now first more one two)
