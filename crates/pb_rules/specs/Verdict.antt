-- What is said of a protocol whose rules 6 to 8 are decided.
use Rattle.std.specs.Prelude.{◌≡◌, ℕ, ◌≤◌, ℤ, Option, Some, None, List, length}
use Rattle.pb_text.specs.declared.place.Place.{Place}
use Rattle.pb_cases.specs.declared.fault.CaseFault.{CaseFault}
use Rattle.pb_cases.specs.declared.fault.CaseFault.TheVariants as C
use Rattle.pb_cases.specs.Breakpoints.{IsDivision, HasTooMany}
use Rattle.pb_core_language.specs.Ranks.{Seat}
use Rattle.pb_core_language.specs.Plain.{Protocol}
use Rattle.pb_core_language.specs.Cuts.{cuts}
use Rattle.pb_core_language.specs.Verdict as V
use Rattle.pb_core_language.specs.Verdict.{IsBroken, IsFirstBroken}
use Rattle.pb_rules.specs.declared.fault.At.{At}
use Rattle.pb_rules.specs.declared.fault.RuleFault.{RuleFault}
use Rattle.pb_rules.specs.declared.fault.RuleFault.TheVariants.{Broken, TooManyCases, NoMemory}

-- the protocol keeps the rules 6 to 8 at every N of its range
abbrev pub KeepsIndex : Protocol → Type 0
KeepsIndex p = (b : V.Broken) → IsBroken p b → b.breach.rule ≤ 8 → ⊥

-- the cuts have at most 4,096 breakpoints
pub record HasFewCases (p : Protocol) : Type 0 where
  pub breakpoints : List ℤ
  pub division : IsDivision (record { range = p.range; cuts = cuts p; breakpoints = breakpoints })
  pub few : length breakpoints ≤ 4096

-- the rank, or the role with its index
abbrev pub seat_if : Option At → Option Seat
seat_if None = None
seat_if (Some a) = Some (record { role = a.role; index = a.index })

-- this is the first breach of all, and one of the rules 6 to 8
pub record IsFirstAt (p : Protocol) (rule : ℕ) (place : Place) (n : ℤ) (at : Option At) : Type 0 where
  pub b : V.Broken
  pub first : IsFirstBroken p b
  pub of_index : b.breach.rule ≤ 8
  pub rule_is : rule ≡ b.breach.rule
  pub place_is : place ≡ b.breach.mark.place
  pub n_is : n ≡ b.n
  pub at_is : seat_if at ≡ b.breach.at

-- what each fault says
abbrev pub IsFault : Protocol → RuleFault → Type 0
IsFault p (Broken rule place n at) = HasFewCases p × IsFirstAt p rule place n at
IsFault p TooManyCases = HasTooMany p.range (cuts p)
IsFault p NoMemory = Unit {0}

-- the fault for a range that wasn't cut into cases
abbrev pub fault_of : CaseFault → RuleFault
fault_of C.TooManyCases = TooManyCases
fault_of C.NoMemory = NoMemory

-- one rule names nobody, and the others a seat
abbrev pub IsNamedBut : ℕ → ℕ → Option Seat → Type 0
IsNamedBut alone rule None = rule ≡ alone
IsNamedBut alone rule (Some s) = rule ≡ alone → ⊥
