-- An accepted file has no fault, and one meaning.
use Rattle.std.proofs.Common.{◌≡◌, ℕ, ℤ, inl, inr, List, Option, Some, None, Err, refl, sym, ap, subst, ◌∙◌}
use Rattle.pb_text.specs.declared.place.Place.{Place}
use Rattle.pb_text.specs.declared.token.Token.{Token}
use Rattle.pb_lex.proofs.Ways.{one_text}
use Rattle.pb_syntax.specs.Grammar.{IsFile}
use Rattle.pb_syntax.specs.Tree.{PlainFile}
use Rattle.pb_syntax.proofs.Final.{one_tree}
use Rattle.pb_parse.specs.Parsed.{Gives, IsTextFault}
use Rattle.pb_parse.specs.declared.fault.ParseFault.{ParseFault}
use Rattle.pb_parse.specs.declared.fault.ParseFault.TheVariants as P
use Rattle.pb_parse.proofs.Texts.{only_text}
use Rattle.pb_parse_laws.specs.Laws.{IsTreeOf}
use Rattle.pb_core_language.specs.Meaning.{meaning}
use Rattle.pb_core_language.specs.FileRules.{broken}
use Rattle.pb_compile.specs.Verdict.{IsBrokenAt, IsKept}
use Rattle.pb_compile.specs.declared.verdict.Verdict.TheVariants as verdict
use Rattle.pb_compile_verdict_laws.specs.Laws.{AcceptedHasNoFault, OneMeaning}
use Rattle.pb_compile_verdict_laws.proofs.Crowds.{no_crowd}

-- a text has one tree
pub one_file : (bytes : List ℕ) (f g : PlainFile) → IsTreeOf bytes f → IsTreeOf bytes g → f ≡ g
one_file bytes f g a b = one_tree b.0 f g (subst (λ (ts : List Token). IsFile ts f) (one_text bytes a.0 b.0 a.1 b.1) a.2.0) b.2.0

-- it is parsed
parsed : (bytes : List ℕ) (file : PlainFile) → IsTreeOf bytes file → (fault : ParseFault) → IsTextFault bytes fault → Gives file (Err fault)
parsed bytes file tree fault is = only_text bytes (Err fault) is tree.0 file tree.1 tree.2.0 tree.2.1

-- a file that keeps the rules breaks none
never_broken : (file : PlainFile) (rule : ℕ) (place : Place) (n : Option ℤ) (role : Option (List ℕ)) (index : Option ℤ) → IsKept file → IsBrokenAt file rule place n role index → ⊥
never_broken file rule place n role index kept (inl refused) = let none : broken file ≡ None = kept.0.earlier in let some : broken file ≡ Some (rule, place) = refused.0 in absurd cc
never_broken file rule place n role index kept (inr (few, (b, refused, told))) = kept.0.keeps b refused.broken_at.broken

pub accepted_has_no_fault : AcceptedHasNoFault
accepted_has_no_fault bytes p is (verdict.Lex error) v = absurd (parsed bytes is.0 is.1 (P.Lex error) v)
accepted_has_no_fault bytes p is (verdict.Unexpected place) v = absurd (parsed bytes is.0 is.1 (P.Unexpected place) v)
accepted_has_no_fault bytes p is (verdict.TooDeep place) v = absurd (parsed bytes is.0 is.1 (P.TooDeep place) v)
accepted_has_no_fault bytes p is (verdict.TooMany limit place) v = absurd (parsed bytes is.0 is.1 (P.TooMany limit place) v)
accepted_has_no_fault bytes p is (verdict.Broken rule place n role index) v =
    absurd (never_broken v.0 rule place n role index (subst IsKept (one_file bytes is.0 v.0 is.1 v.1) is.2.0) v.2)
accepted_has_no_fault bytes p is verdict.TooManyCases v =
    let kept : IsKept v.0 = subst IsKept (one_file bytes is.0 v.0 is.1 v.1) is.2.0 in
    absurd (no_crowd (meaning v.0) kept.1 v.2.1)
accepted_has_no_fault bytes p is verdict.NoMemory v = refl

pub one_meaning : OneMeaning
one_meaning bytes p q a b = a.2.1 ∙ ap meaning (one_file bytes a.0 b.0 a.1 b.1) ∙ sym b.2.1
