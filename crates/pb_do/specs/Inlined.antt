-- What inlining a file answers.
use Rattle.std.specs.Prelude.{◌≡◌, Option, Some, None, Err}
use Rattle.pb_text.specs.declared.place.Place.{Place}
use Rattle.pb_do_syntax.specs.Calls.{PlainCallFile}
use Rattle.pb_do_syntax.specs.Inlining.{InlinesFile}
use Rattle.pb_do_inline.specs.declared.halt.Halt.{Halt}
use Rattle.pb_do_inline.specs.declared.halt.Halt.TheVariants as H
use Rattle.pb_do_faults.specs.declared.fault.CallFault.{CallFault}
use Rattle.pb_do_faults.specs.declared.fault.CallFault.TheVariants as C
use Rattle.pb_do_faults.specs.CallSites.{bodies}
use Rattle.pb_do_faults.specs.Faults.{twice, unknown, arity}
use Rattle.pb_do_faults.specs.Strangers.{strangers}
use Rattle.pb_do_faults.specs.Cycles.{FirstCycle}
use Rattle.pb_do_faults.specs.Found.{first, HasNoFault}
use Rattle.pb_do.specs.declared.fault.DoFault.{DoFault}
use Rattle.pb_do.specs.declared.fault.DoFault.TheVariants.{Twice, Unknown, Arity, Stranger, Cycle, TooMany, NoMemory}

abbrev pub do_fault : CallFault → DoFault
do_fault (C.Twice p) = Twice p
do_fault (C.Unknown p) = Unknown p
do_fault (C.Arity p) = Arity p
do_fault (C.Stranger p) = Stranger p
do_fault (C.Cycle p) = Cycle p
do_fault C.NoMemory = NoMemory

abbrev pub stopped : Halt → DoFault
stopped (H.TooMany q p) = TooMany q p
stopped H.NoMemory = NoMemory

-- Why the file isn't inlined: the fault that counts, or a limit that is passed where there is none. Or memory ran out.
abbrev pub IsRefused : PlainCallFile → DoFault → Type 0
IsRefused f (Twice p) = first (twice f) ≡ Some p
IsRefused f (Unknown p) = (first (twice f) ≡ None) × (first (unknown f) ≡ Some p)
IsRefused f (Arity p) = (first (twice f) ≡ None) × (first (unknown f) ≡ None) × (first (arity f) ≡ Some p)
IsRefused f (Stranger p) = (first (twice f) ≡ None) × (first (unknown f) ≡ None) × (first (arity f) ≡ None) × (first (strangers f) ≡ Some p)
IsRefused f (Cycle p) = (first (twice f) ≡ None) × (first (unknown f) ≡ None) × (first (arity f) ≡ None) × (first (strangers f) ≡ None) × FirstCycle (bodies f) (Some p)
IsRefused f (TooMany q p) = HasNoFault f × InlinesFile f (Err (record { limit = q; place = p }))
IsRefused f NoMemory = Unit {0}

-- a limit is passed, or memory ran out
abbrev pub IsExcess : PlainCallFile → DoFault → Type 0
IsExcess f (Twice p) = ⊥
IsExcess f (Unknown p) = ⊥
IsExcess f (Arity p) = ⊥
IsExcess f (Stranger p) = ⊥
IsExcess f (Cycle p) = ⊥
IsExcess f (TooMany q p) = InlinesFile f (Err (record { limit = q; place = p }))
IsExcess f NoMemory = Unit {0}
