-- The refusal that tells a verdict.
use Rattle.std.specs.Prelude.{ℕ, ℤ, List, Option, Some, None}
use Rattle.pb_text.specs.declared.quantity.Quantity.TheVariants as quantity
use Rattle.pb_lex.specs.declared.error.LexError.{LexError}
use Rattle.pb_lex.specs.declared.error.LexError.TheVariants as E
use Rattle.pb_cli_status.specs.declared.refusal.Refusal.{Refusal}
use Rattle.pb_cli_status.specs.declared.refusal.Refusal.TheVariants as refusal
use Rattle.pb_compile.specs.declared.verdict.Verdict.{Verdict}
use Rattle.pb_compile.specs.declared.verdict.Verdict.TheVariants as verdict

abbrev pub error_refusal : LexError → Refusal
error_refusal (E.BadByte place) = refusal.Syntax place
error_refusal (E.OpenComment place) = refusal.Syntax place
error_refusal (E.NumberTooLarge place) = refusal.Limit quantity.NumberSize place
error_refusal (E.NameTooLong place) = refusal.Limit quantity.NameLength place

-- a rank, where its role and its index are told
abbrev pub seat : Option (List ℕ) → Option ℤ → Option (List ℕ × ℤ)
seat None index = None
seat (Some role) None = None
seat (Some role) (Some index) = Some (role, index)

abbrev pub refusal_of : Verdict → Refusal
refusal_of (verdict.Lex error) = error_refusal error
refusal_of (verdict.Unexpected place) = refusal.Syntax place
refusal_of (verdict.TooDeep place) = refusal.Limit quantity.Nesting place
refusal_of (verdict.TooMany limit place) = refusal.Limit limit place
refusal_of (verdict.Broken rule place n role index) = refusal.Broken rule place n (seat role index)
refusal_of verdict.TooManyCases = refusal.Breakpoints
refusal_of verdict.NoMemory = refusal.NoMemory
