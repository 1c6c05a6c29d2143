-- From what the parser and the deciders answer to the verdict.
use Rattle.std.proofs.Common.{◌≡◌, ℕ, ◌≤◌, inl, inr, List, length, Option, None, Some, Ok, Err, Result, IfErr, true, refl, ap, subst, ◌∙◌}
use Rattle.std.specs.Prelude.{ℤ}
use Rattle.pb_text.specs.declared.place.Place.{Place}
use Rattle.pb_syntax.specs.Plain.{plain_file}
use Rattle.pb_syntax.specs.declared.tree.FileTree.{FileTree}
use Rattle.pb_syntax.specs.Tree.{PlainFile}
use Rattle.pb_parse.specs.Parsed.{IsParsedText, IsTextFault}
use Rattle.pb_parse.specs.declared.fault.ParseFault.{ParseFault}
use Rattle.pb_parse.specs.declared.fault.ParseFault.TheVariants as P
use Rattle.pb_core_language.specs.declared.fault.LowerFault.{LowerFault}
use Rattle.pb_core_language.specs.declared.fault.LowerFault.TheVariants as F
use Rattle.pb_core_language.specs.declared.protocol.CoreRole.{CoreRole}
use Rattle.pb_core_language.specs.FileRules.{broken}
use Rattle.pb_core_language.specs.Meaning.{meaning}
use Rattle.pb_core_language.specs.Plain.{Protocol}
use Rattle.pb_core_language.specs.Sound.{is_sound}
use Rattle.pb_core_language.specs.Verdict.{Broken, KeepsAll}
use Rattle.pb_core_file_rules.specs.Lowering as L
use Rattle.pb_core_file_rules.specs.Lowering.{IsCountable}
use Rattle.pb_rules.specs.Verdict as R
use Rattle.pb_rules.specs.Verdict.{seat_if}
use Rattle.pb_rules.specs.declared.fault.At.{At}
use Rattle.pb_rules.specs.declared.fault.RuleFault.{RuleFault}
use Rattle.pb_rules.specs.declared.fault.RuleFault.TheVariants as G
use Rattle.pb_choice.specs.Verdict.{IsFlowFault}
use Rattle.pb_parse_laws.proofs.Countable.{parsed_is_countable}
use Rattle.pb_parse_laws.proofs.Sound.{parsed_is_sound}
use Rattle.pb_compile.specs.Verdict.{IsKept, IsTold, IsVerdict, IsVerdictOfCore, IsVerdictOfTree, of_parse, of_lower, of_rule, role_of, index_of, role_at, index_at}
use Rattle.pb_compile.specs.declared.verdict.Verdict.{Verdict}
use Rattle.pb_compile.specs.declared.verdict.Verdict.TheVariants as V

-- each fault of the parser has its verdict
pub of_text : (bytes : List ℕ) (e : ParseFault) → IsTextFault bytes e → IsVerdict bytes (of_parse e)
of_text bytes (P.Lex error) found = found
of_text bytes (P.Unexpected place) found = found
of_text bytes (P.TooDeep place) found = found
of_text bytes (P.TooMany limit place) found = found
of_text bytes P.NoMemory found = tt

-- what was parsed can be counted, and means a sound core where it keeps the rules 1 to 5
pub countable : (bytes : List ℕ) (file : FileTree) → length bytes ≤ 67108864 → IsParsedText bytes (Ok file) → IsCountable (plain_file file)
countable bytes file short found = parsed_is_countable bytes (plain_file file) short found

pub sound : (bytes : List ℕ) (file : FileTree) → IsParsedText bytes (Ok file) → broken (plain_file file) ≡ None → is_sound (meaning (plain_file file)) ≡ true
sound bytes file found keeps = parsed_is_sound bytes (plain_file file) found keeps

-- the verdict on a tree that was parsed is the one on its bytes
pub of_tree : (bytes : List ℕ) (file : FileTree) (v : Verdict) → IsParsedText bytes (Ok file) → IsVerdictOfTree (plain_file file) v → IsVerdict bytes v
of_tree bytes file (V.Broken rule place n role index) found why = (plain_file file, found, why)
of_tree bytes file V.TooManyCases found why = (plain_file file, found, why)
of_tree bytes file V.NoMemory found why = tt
of_tree bytes file (V.Lex error) found why = absurd why
of_tree bytes file (V.Unexpected place) found why = absurd why
of_tree bytes file (V.TooDeep place) found why = absurd why
of_tree bytes file (V.TooMany limit place) found why = absurd why

pub of_trees : {A : Type 0} (bytes : List ℕ) (file : FileTree) (r : Result A Verdict) → IsParsedText bytes (Ok file) → IfErr r (IsVerdictOfTree (plain_file file)) → IfErr r (IsVerdict bytes)
of_trees bytes file (Ok x) found why = tt
of_trees bytes file (Err v) found why = of_tree bytes file v found why

-- a tree that breaks one of the rules 1 to 5
pub lowered : (file : PlainFile) (e : LowerFault) → L.IsFault (broken file) e → IsVerdictOfTree file (of_lower e)
lowered file (F.Broken rule place) why = inl (why, (refl, (refl, refl)))
lowered file F.NoMemory why = tt

-- the rank that a fault tells
role_is : (roles : List CoreRole) (at : Option At) → role_at roles at ≡ role_of roles (seat_if at)
role_is roles None = refl
role_is roles (Some at) = refl

index_is : (at : Option At) → index_at at ≡ index_of (seat_if at)
index_is None = refl
index_is (Some at) = refl

-- the fault of a breach tells it
told : (p : Protocol) (b : Broken) (rule : ℕ) (place : Place) (n : ℤ) (at : Option At) → rule ≡ b.breach.rule
    → place ≡ b.breach.mark.place → n ≡ b.n → seat_if at ≡ b.breach.at → IsTold p b rule place (Some n) (role_at p.roles at) (index_at at)
told p b rule place n at rule_is place_is n_is at_is = record {
  rule_is = rule_is;
  place_is = place_is;
  n_is = ap (λ (m : ℤ). Some m) n_is;
  role_is = role_is p.roles at ∙ ap (role_of p.roles) at_is;
  index_is = index_is at ∙ ap index_of at_is;
}

-- a protocol that breaks one of the rules 6 to 8, or has too many breakpoints
pub index_told : (p : Protocol) (e : RuleFault) → R.IsFault p e → IsVerdictOfCore p (of_rule p.roles e)
index_told p (G.Broken rule place n at) why =
    let f = why.1 in
    (why.0, (f.b, f.first, told p f.b rule place n at f.rule_is f.place_is f.n_is f.at_is))
index_told p G.TooManyCases why = why
index_told p G.NoMemory why = tt

-- a protocol that keeps these and breaks one of the rules 9 to 12
pub flow_told : (p : Protocol) (e : RuleFault) → R.HasFewCases p → IsFlowFault p e → IsVerdictOfCore p (of_rule p.roles e)
flow_told p (G.Broken rule place n at) few f = (few, (f.b, f.first, told p f.b rule place n at f.rule_is f.place_is f.n_is f.at_is))
flow_told p G.TooManyCases few why = absurd why
flow_told p G.NoMemory few why = tt

-- a tree whose meaning isn't accepted
of_meaning : (file : PlainFile) (v : Verdict) → broken file ≡ None → IsVerdictOfCore (meaning file) v → IsVerdictOfTree file v
of_meaning file (V.Broken rule place n role index) keeps why =
    inr (why.0, (why.1.0, record { earlier = keeps; broken_at = why.1.1 }, why.1.2))
of_meaning file V.TooManyCases keeps why = (keeps, why)
of_meaning file V.NoMemory keeps why = tt
of_meaning file (V.Lex error) keeps why = absurd why
of_meaning file (V.Unexpected place) keeps why = absurd why
of_meaning file (V.TooDeep place) keeps why = absurd why
of_meaning file (V.TooMany limit place) keeps why = absurd why

pub decided : (file : PlainFile) (p : Protocol) (v : Verdict) → broken file ≡ None → p ≡ meaning file → IsVerdictOfCore p v → IsVerdictOfTree file v
decided file p v keeps means why = of_meaning file v keeps (subst (λ (q : Protocol). IsVerdictOfCore q v) means why)

-- a tree whose meaning is accepted
pub kept : (file : PlainFile) (p : Protocol) → broken file ≡ None → p ≡ meaning file → KeepsAll p → R.HasFewCases p → IsKept file
kept file p keeps means all few = (record { earlier = keeps; keeps = subst KeepsAll means all }, subst R.HasFewCases means few)
