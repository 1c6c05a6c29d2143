-- The fault of a file that counts: the least of twice, unknown, arity, stranger and cycle, at its first place.
use Rattle.std.specs.Prelude.{◌≡◌, Option, Some, None, List, [], ◌∷◌}
use Rattle.pb_text.specs.declared.place.Place.{Place}
use Rattle.pb_do_syntax.specs.Calls.{PlainCallFile}
use Rattle.pb_do_syntax.specs.Names.{Name}
use Rattle.pb_do_faults.specs.declared.around.Around.{Around-F, Around, fold-Around}
use Rattle.pb_do_faults.specs.declared.around.Around.TheOpen as L
use Rattle.pb_do_faults.specs.declared.call_site.Body.{Body}
use Rattle.pb_do_faults.specs.declared.call_site.CallSite.{CallSite}
use Rattle.pb_do_faults.specs.declared.fault.CallFault.{CallFault}
use Rattle.pb_do_faults.specs.declared.fault.CallFault.TheVariants.{Twice, Unknown, Arity, Stranger, Cycle, NoMemory}
use Rattle.pb_do_faults.specs.CallSites.{bodies}
use Rattle.pb_do_faults.specs.Faults.{twice, unknown, arity}
use Rattle.pb_do_faults.specs.Strangers.{strangers}
use Rattle.pb_do_faults.specs.Cycles.{FirstCycle}

abbrev pub first : List Place → Option Place
first [] = None
first (p ∷ ps) = Some p

abbrev pub body_calls : Body → List CallSite
body_calls body = body.calls.items

-- the names of the loops around a place, the innermost first
abbrev pub around_layer : Around-F (List Name) → List Name
around_layer L.Nothing = []
around_layer (L.Inside x rest) = x ∷ rest.now

abbrev pub names_of : Around → List Name
names_of = fold-Around (List Name) around_layer

-- the fault that counts, or memory ran out
abbrev pub IsFault : PlainCallFile → CallFault → Type 0
IsFault f (Twice p) = first (twice f) ≡ Some p
IsFault f (Unknown p) = (first (twice f) ≡ None) × (first (unknown f) ≡ Some p)
IsFault f (Arity p) = (first (twice f) ≡ None) × (first (unknown f) ≡ None) × (first (arity f) ≡ Some p)
IsFault f (Stranger p) = (first (twice f) ≡ None) × (first (unknown f) ≡ None) × (first (arity f) ≡ None) × (first (strangers f) ≡ Some p)
IsFault f (Cycle p) = (first (twice f) ≡ None) × (first (unknown f) ≡ None) × (first (arity f) ≡ None) × (first (strangers f) ≡ None) × FirstCycle (bodies f) (Some p)
IsFault f NoMemory = Unit {0}

pub record HasNoFault (f : PlainCallFile) : Type 0 where
  pub once : first (twice f) ≡ None
  pub known : first (unknown f) ≡ None
  pub counted : first (arity f) ≡ None
  pub no_stranger : first (strangers f) ≡ None
  pub no_cycle : FirstCycle (bodies f) None

-- ---- on the way there

-- the first of these names that stand twice, or memory ran out
abbrev pub IsTwice : List Place → CallFault → Type 0
IsTwice places (Twice p) = first places ≡ Some p
IsTwice places (Unknown p) = ⊥
IsTwice places (Arity p) = ⊥
IsTwice places (Stranger p) = ⊥
IsTwice places (Cycle p) = ⊥
IsTwice places NoMemory = Unit {0}

-- the fault that counts where no name stands twice
abbrev pub IsMisuse : PlainCallFile → CallFault → Type 0
IsMisuse f (Twice p) = ⊥
IsMisuse f (Unknown p) = first (unknown f) ≡ Some p
IsMisuse f (Arity p) = (first (unknown f) ≡ None) × (first (arity f) ≡ Some p)
IsMisuse f (Stranger p) = (first (unknown f) ≡ None) × (first (arity f) ≡ None) × (first (strangers f) ≡ Some p)
IsMisuse f (Cycle p) = (first (unknown f) ≡ None) × (first (arity f) ≡ None) × (first (strangers f) ≡ None) × FirstCycle (bodies f) (Some p)
IsMisuse f NoMemory = Unit {0}

pub record HasNoMisuse (f : PlainCallFile) : Type 0 where
  pub known : first (unknown f) ≡ None
  pub counted : first (arity f) ≡ None
  pub no_stranger : first (strangers f) ≡ None
  pub no_cycle : FirstCycle (bodies f) None
