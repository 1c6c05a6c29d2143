-- Bytes have one verdict, and 'exactly' of accepted and of refused files rests on this.
use Rattle.std.specs.Prelude.{◌≡◌, ℕ, List}
use Rattle.pb_core_language.specs.Plain.{Protocol}
use Rattle.pb_compile.specs.Verdict.{IsAcceptedAs, IsVerdict}
use Rattle.pb_compile.specs.declared.verdict.Verdict.{Verdict}
use Rattle.pb_compile.specs.declared.verdict.Verdict.TheVariants as verdict

-- of an accepted file no verdict but want of memory is true
abbrev pub AcceptedHasNoFault : Type 0
AcceptedHasNoFault = (bytes : List ℕ) (p : Protocol) → IsAcceptedAs bytes p → (v : Verdict) → IsVerdict bytes v → v ≡ verdict.NoMemory

-- and it has one meaning
abbrev pub OneMeaning : Type 0
OneMeaning = (bytes : List ℕ) (p q : Protocol) → IsAcceptedAs bytes p → IsAcceptedAs bytes q → p ≡ q

-- Of two verdicts that are true of the same bytes, and neither is want of memory, the one is the other: the same lexical fault
-- at the same place, the same first token that doesn't go on, the same limit at the same place, the same broken rule with its
-- place, N and rank, or too many breakpoints.
abbrev pub OneVerdict : Type 0
OneVerdict =
    (bytes : List ℕ) (v w : Verdict) → IsVerdict bytes v → IsVerdict bytes w → (v ≡ verdict.NoMemory → ⊥) → (w ≡ verdict.NoMemory → ⊥)
    → v ≡ w
