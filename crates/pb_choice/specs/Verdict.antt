-- What is said of a protocol whose rules 9 to 12 are decided.
use Rattle.std.specs.Prelude.{◌≡◌, ℕ, ◌≤◌, ℤ, Option, Some, None}
use Rattle.pb_text.specs.declared.place.Place.{Place}
use Rattle.pb_core_language.specs.Plain.{Protocol}
use Rattle.pb_core_language.specs.Verdict as V
use Rattle.pb_core_language.specs.Verdict.{IsBroken, IsFirstBroken, KeepsAll}
use Rattle.pb_rules.specs.declared.fault.At.{At}
use Rattle.pb_rules.specs.declared.fault.RuleFault.{RuleFault}
use Rattle.pb_rules.specs.declared.fault.RuleFault.TheVariants.{Broken, TooManyCases, NoMemory}
use Rattle.pb_rules.specs.Verdict.{seat_if}
use Rattle.pb_choice.specs.declared.found.Found.{Found}

-- this is the first breach of all, and one of the rules 9 to 12
pub record IsFirstFlow (p : Protocol) (rule : ℕ) (place : Place) (n : ℤ) (at : Option At) : Type 0 where
  pub b : V.Broken
  pub first : IsFirstBroken p b
  pub of_flow : 9 ≤ b.breach.rule
  pub rule_is : rule ≡ b.breach.rule
  pub place_is : place ≡ b.breach.mark.place
  pub n_is : n ≡ b.n
  pub at_is : seat_if at ≡ b.breach.at

-- what each fault says
abbrev pub IsFlowFault : Protocol → RuleFault → Type 0
IsFlowFault p (Broken rule place n at) = IsFirstFlow p rule place n at
IsFlowFault p TooManyCases = ⊥
IsFlowFault p NoMemory = Unit {0}

-- the first breach of the protocol, or none where it has none
abbrev pub IsAnswer : Protocol → Option Found → Type 0
IsAnswer p None = KeepsAll p
IsAnswer p (Some f) = IsFirstFlow p f.rule f.mark.place f.n f.at
