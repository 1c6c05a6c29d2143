-- The verdict on the bytes of a protocol file: the first lexical fault, else the first token that doesn't go on or passes a
-- limit, else a tree; and of a tree the first rule that it breaks, or too many breakpoints, or none of these.
use Rattle.std.specs.Prelude.{◌≡◌, ℕ, ℤ, ◌⊎◌, List, Option, Some, None, slice_get}
use Rattle.pb_text.specs.declared.place.Place.{Place}
use Rattle.pb_lex.specs.Seen.{IsFirstError}
use Rattle.pb_syntax.specs.Tree.{PlainFile}
use Rattle.pb_parse.specs.Parsed.{IsTextFault}
use Rattle.pb_parse.specs.declared.fault.ParseFault.{ParseFault}
use Rattle.pb_parse.specs.declared.fault.ParseFault.TheVariants as P
use Rattle.pb_parse_laws.specs.Laws.{IsTreeOf}
use Rattle.pb_cases.specs.Breakpoints.{HasTooMany}
use Rattle.pb_core_language.specs.declared.fault.LowerFault.{LowerFault}
use Rattle.pb_core_language.specs.declared.fault.LowerFault.TheVariants as L
use Rattle.pb_core_language.specs.declared.protocol.CoreRole.{CoreRole}
use Rattle.pb_core_language.specs.Ranks.{Seat}
use Rattle.pb_core_language.specs.Cuts.{cuts}
use Rattle.pb_core_language.specs.FileRules.{broken}
use Rattle.pb_core_language.specs.Meaning.{meaning}
use Rattle.pb_core_language.specs.Plain.{Protocol}
use Rattle.pb_core_language.specs.Verdict as V
use Rattle.pb_core_language.specs.Verdict.{IsFirstBroken, IsRefused, IsRefusedAt, IsAccepted}
use Rattle.pb_rules.specs.Verdict.{HasFewCases}
use Rattle.pb_rules.specs.declared.fault.At.{At}
use Rattle.pb_rules.specs.declared.fault.RuleFault.{RuleFault}
use Rattle.pb_rules.specs.declared.fault.RuleFault.TheVariants as R
use Rattle.pb_compile.specs.declared.verdict.Verdict.{Verdict}
use Rattle.pb_compile.specs.declared.verdict.Verdict.TheVariants as verdict

-- the name of a role, the role of a seat by its name, and a seat's index
abbrev pub name_of : Option CoreRole → Option (List ℕ)
name_of None = None
name_of (Some role) = Some role.name

abbrev pub role_of : List CoreRole → Option Seat → Option (List ℕ)
role_of roles None = None
role_of roles (Some seat) = name_of (slice_get roles seat.role)

abbrev pub index_of : Option Seat → Option ℤ
index_of None = None
index_of (Some seat) = Some seat.index

-- this is told of a breach: its rule, its place, the N, and the rank where the rule speaks of one
pub record IsTold (p : Protocol) (b : V.Broken) (rule : ℕ) (place : Place) (n : Option ℤ) (role : Option (List ℕ)) (index : Option ℤ) : Type 0 where
  pub rule_is : rule ≡ b.breach.rule
  pub place_is : place ≡ b.breach.mark.place
  pub n_is : n ≡ Some b.n
  pub role_is : role ≡ role_of p.roles b.breach.at
  pub index_is : index ≡ index_of b.breach.at

-- The file breaks a rule, and this is told of it: the least of the rules 1 to 5, at its first place; or else, if it keeps
-- them and has at most 4,096 breakpoints, the least of the rules 6 to 12, at its first place, with the least N and the least
-- rank.
abbrev pub IsBrokenAt : PlainFile → ℕ → Place → Option ℤ → Option (List ℕ) → Option ℤ → Type 0
IsBrokenAt file rule place n role index =
    (IsRefused file rule place × ((n ≡ None) × ((role ≡ None) × (index ≡ None))))
    ⊎ (HasFewCases (meaning file) × ((b : V.Broken) × IsRefusedAt file b × IsTold (meaning file) b rule place n role index))

-- the file keeps the rules 1 to 5, and its meaning has more than 4,096 breakpoints
abbrev pub IsCrowded : PlainFile → Type 0
IsCrowded file = (broken file ≡ None) × HasTooMany (meaning file).range (cuts (meaning file))

-- the file keeps all twelve rules, and its meaning has at most 4,096 breakpoints
abbrev pub IsKept : PlainFile → Type 0
IsKept file = IsAccepted file × HasFewCases (meaning file)

-- the bytes are a text of the grammar within the limits, and its tree is such
abbrev pub OnTree : List ℕ → (PlainFile → Type 0) → Type 0
OnTree bytes P = (file : PlainFile) × IsTreeOf bytes file × P file

-- the bytes are an accepted file with this meaning
abbrev pub IsAcceptedAs : List ℕ → Protocol → Type 0
IsAcceptedAs bytes p = OnTree bytes (λ file. IsKept file × (p ≡ meaning file))

-- what is told of a tree that isn't accepted, and of bytes
abbrev pub IsVerdictOfTree : PlainFile → Verdict → Type 0
IsVerdictOfTree file (verdict.Broken rule place n role index) = IsBrokenAt file rule place n role index
IsVerdictOfTree file verdict.TooManyCases = IsCrowded file
IsVerdictOfTree file verdict.NoMemory = Unit {0}
IsVerdictOfTree file (verdict.Lex error) = ⊥
IsVerdictOfTree file (verdict.Unexpected place) = ⊥
IsVerdictOfTree file (verdict.TooDeep place) = ⊥
IsVerdictOfTree file (verdict.TooMany limit place) = ⊥

abbrev pub IsVerdict : List ℕ → Verdict → Type 0
IsVerdict bytes (verdict.Lex error) = IsFirstError bytes error
IsVerdict bytes (verdict.Unexpected place) = IsTextFault bytes (P.Unexpected place)
IsVerdict bytes (verdict.TooDeep place) = IsTextFault bytes (P.TooDeep place)
IsVerdict bytes (verdict.TooMany limit place) = IsTextFault bytes (P.TooMany limit place)
IsVerdict bytes (verdict.Broken rule place n role index) = OnTree bytes (λ file. IsBrokenAt file rule place n role index)
IsVerdict bytes verdict.TooManyCases = OnTree bytes IsCrowded
IsVerdict bytes verdict.NoMemory = Unit {0}

-- ---- the faults of the parts as verdicts

abbrev pub of_parse : ParseFault → Verdict
of_parse (P.Lex error) = verdict.Lex error
of_parse (P.Unexpected place) = verdict.Unexpected place
of_parse (P.TooDeep place) = verdict.TooDeep place
of_parse (P.TooMany limit place) = verdict.TooMany limit place
of_parse P.NoMemory = verdict.NoMemory

abbrev pub of_lower : LowerFault → Verdict
of_lower (L.Broken rule place) = verdict.Broken rule place None None None
of_lower L.NoMemory = verdict.NoMemory

abbrev pub role_at : List CoreRole → Option At → Option (List ℕ)
role_at roles None = None
role_at roles (Some at) = name_of (slice_get roles at.role)

abbrev pub index_at : Option At → Option ℤ
index_at None = None
index_at (Some at) = Some at.index

abbrev pub of_rule : List CoreRole → RuleFault → Verdict
of_rule roles (R.Broken rule place n at) = verdict.Broken rule place (Some n) (role_at roles at) (index_at at)
of_rule roles R.TooManyCases = verdict.TooManyCases
of_rule roles R.NoMemory = verdict.NoMemory

-- what is told of a protocol that keeps the rules 1 to 5
abbrev pub IsVerdictOfCore : Protocol → Verdict → Type 0
IsVerdictOfCore p (verdict.Broken rule place n role index) = HasFewCases p × ((b : V.Broken) × IsFirstBroken p b × IsTold p b rule place n role index)
IsVerdictOfCore p verdict.TooManyCases = HasTooMany p.range (cuts p)
IsVerdictOfCore p verdict.NoMemory = Unit {0}
IsVerdictOfCore p (verdict.Lex error) = ⊥
IsVerdictOfCore p (verdict.Unexpected place) = ⊥
IsVerdictOfCore p (verdict.TooDeep place) = ⊥
IsVerdictOfCore p (verdict.TooMany limit place) = ⊥
