-- What an accepted file's meaning keeps.
use Rattle.std.proofs.Common.{◌≡◌, ℕ, true, List, sym, subst}
use Rattle.pb_core_language.specs.Meaning.{meaning}
use Rattle.pb_core_language.specs.Plain.{Protocol}
use Rattle.pb_core_language.specs.Sound.{is_sound}
use Rattle.pb_core_language.specs.Verdict.{KeepsAll}
use Rattle.pb_rules.specs.Verdict.{HasFewCases}
use Rattle.pb_core_endpoint.specs.Core.{IsProper}
use Rattle.pb_shape.specs.Tabled.{IsTabled}
use Rattle.pb_parse_laws.proofs.Sound.{parsed_is_sound}
use Rattle.pb_compile_laws.specs.Laws.{FileIsProper, FileIsTabled}
use Rattle.pb_compile.specs.Verdict.{IsAcceptedAs}

module _ (bytes : List ℕ) (p : Protocol) (is : IsAcceptedAs bytes p) where
  pub of_file : (P : Protocol → Type 0) → P (meaning is.0) → P p
  of_file P h = subst P (sym is.2.1) h

  pub sound_of : is_sound p ≡ true
  sound_of = of_file (λ q. is_sound q ≡ true) (parsed_is_sound bytes is.0 is.1 is.2.0.0.earlier)

  pub keeps_of : KeepsAll p
  keeps_of = of_file KeepsAll is.2.0.0.keeps

  pub few_of : HasFewCases p
  few_of = of_file HasFewCases is.2.0.1

  pub proper_of : FileIsProper → IsProper p
  proper_of law = of_file IsProper (law bytes is.0 is.1 is.2.0.0)

  pub tabled_of : FileIsTabled → IsTabled p
  tabled_of law = of_file IsTabled (law bytes is.0 is.1 is.2.0.0)
