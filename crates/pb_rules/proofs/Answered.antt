-- What the search for the first breach says of the whole protocol.
use Rattle.std.proofs.Common.{◌≡◌, Option, Some, None, List, true, refl, sym, ◌∙◌, subst}
use Rattle.pb_affine.specs.declared.lin.Lin.{Lin}
use Rattle.pb_cases.specs.declared.fault.CaseFault.{CaseFault}
use Rattle.pb_cases.specs.declared.fault.CaseFault.TheVariants as C
use Rattle.pb_cases.specs.Breakpoints.{HasTooMany, Explains}
use Rattle.pb_core_language.specs.Plain.{Protocol}
use Rattle.pb_core_language.specs.Cuts.{cuts}
use Rattle.pb_core_language.specs.Sound.{is_sound}
use Rattle.pb_rules.specs.declared.found.Found.{Found}
use Rattle.pb_rules.specs.declared.fault.RuleFault.TheVariants as R
use Rattle.pb_rules.specs.Sites.{best_of}
use Rattle.pb_rules.specs.Traps.{broken_of}
use Rattle.pb_rules.specs.CutLists.{HaveSame}
use Rattle.pb_rules.specs.Verdict.{KeepsIndex, HasFewCases, IsFault, fault_of}
use Rattle.pb_rules.proofs.CutSets.{same_too_many}
use Rattle.pb_rules.proofs.Whole.{first_found, none_found}

pub keeps_index : (p : Protocol) (o : Option Found) → is_sound p ≡ true → o ≡ best_of p → o ≡ None → KeepsIndex p
keeps_index p o sound e is = none_found p sound (sym e ∙ is)

pub is_fault : (p : Protocol) (o : Option Found) (f : Found) → is_sound p ≡ true → HasFewCases p → o ≡ best_of p → o ≡ Some f → IsFault p (R.Broken f.rule f.place f.n f.at)
is_fault p o f sound few e is =
    let t = first_found p sound f (sym e ∙ is) in
    (few, record { b = broken_of f; first = t.0; of_index = t.1; rule_is = refl; place_is = refl; n_is = refl; at_is = refl })

pub case_fault : (p : Protocol) (list v : List Lin) (e : CaseFault) → list ≡ v → HaveSame v (cuts p) → Explains p.range list e → IsFault p (fault_of e)
case_fault p list v C.TooManyCases is same h = same_too_many p.range v (cuts p) same (subst (λ l. HasTooMany p.range l) is h)
case_fault p list v C.NoMemory is same h = tt
