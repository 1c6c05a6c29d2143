-- Bytes have one verdict.
use Rattle.std.proofs.Common.{◌≡◌, ℕ, ℤ, inl, inr, List, Option, Some, None, Err, refl, sym, ap, ap₂, subst, ◌∙◌}
use Rattle.pb_text.specs.declared.place.Place.{Place}
use Rattle.pb_text.specs.declared.token.Token.{Token}
use Rattle.pb_text.specs.Lexemes.{Fault, bad_byte, open_comment, number_too_large, name_too_long}
use Rattle.pb_text.specs.Places.{first_place, place_after}
use Rattle.pb_text.specs.Tokens.{IsText, IsFirstFault}
use Rattle.pb_lex.specs.Seen.{IsFirstError, error_at}
use Rattle.pb_lex.specs.declared.error.LexError.{LexError}
use Rattle.pb_lex.specs.declared.error.LexError.TheVariants as errors
use Rattle.pb_lex.proofs.Ways.{one_text, one_fault, text_or_fault}
use Rattle.pb_syntax.specs.Tree.{PlainFile}
use Rattle.pb_parse.specs.Parsed.{IsFault, Gives}
use Rattle.pb_parse.specs.declared.fault.ParseFault.{ParseFault}
use Rattle.pb_parse.specs.declared.fault.ParseFault.TheVariants as P
use Rattle.pb_parse.proofs.Together.{only}
use Rattle.pb_parse_laws.specs.Laws.{IsTreeOf}
use Rattle.pb_core_language.specs.FileRules.{broken}
use Rattle.pb_core_language.specs.Meaning.{meaning}
use Rattle.pb_core_language.specs.Plain.{Protocol}
use Rattle.pb_core_language.specs.Verdict as V
use Rattle.pb_compile.specs.Verdict.{IsVerdict, IsBrokenAt, IsCrowded, IsTold, of_parse, role_of, index_of}
use Rattle.pb_compile.specs.declared.verdict.Verdict.{Verdict}
use Rattle.pb_compile.specs.declared.verdict.Verdict.TheVariants as verdict
use Rattle.pb_compile_verdict_laws.proofs.Crowds.{no_crowd}
use Rattle.pb_compile_verdict_laws.proofs.Files.{one_file}
use Rattle.pb_compile_verdict_laws.specs.Laws.{OneVerdict}
use Rattle.pb_compile_verdict_laws.proofs.Firsts.{Same, one_first}
use Rattle.pb_compile_verdict_laws.proofs.Tokens as tokens_

-- ---- lexical faults

record Seen (bytes : List ℕ) (error : LexError) : Type 0 where
  fault : Fault
  place : Place
  first : IsFirstFault bytes fault place
  is : error ≡ error_at fault place

seen : (bytes : List ℕ) (error : LexError) → IsFirstError bytes error → Seen bytes error
seen bytes (errors.BadByte place) h = record { fault = bad_byte; place = place; first = h; is = refl }
seen bytes (errors.OpenComment place) h = record { fault = open_comment; place = place; first = h; is = refl }
seen bytes (errors.NumberTooLarge place) h = record { fault = number_too_large; place = place; first = h; is = refl }
seen bytes (errors.NameTooLong place) h = record { fault = name_too_long; place = place; first = h; is = refl }

one_error : (bytes : List ℕ) (e f : LexError) → IsFirstError bytes e → IsFirstError bytes f → e ≡ f
one_error bytes e f h k =
    let x = seen bytes e h in
    let y = seen bytes f k in
    let same = one_fault bytes x.fault y.fault x.place y.place x.first y.first in
    x.is ∙ ap₂ error_at same.0 same.1 ∙ sym y.is

error_or_text : (bytes : List ℕ) (e : LexError) (tokens : List Token) → IsFirstError bytes e → IsText bytes tokens → ⊥
error_or_text bytes e tokens h text = let x = seen bytes e h in text_or_fault bytes tokens x.fault x.place text x.first

-- ---- broken rules

none_or_some : {X : Type 0} (o : Option X) (x : X) → o ≡ None → o ≡ Some x → ⊥
none_or_some o x e f = cc

alike : (rule rule' : ℕ) (place place' : Place) (n n' : Option ℤ) (role role' : Option (List ℕ)) (index index' : Option ℤ)
    → rule ≡ rule' → place ≡ place' → n ≡ n' → role ≡ role' → index ≡ index' → verdict.Broken rule place n role index ≡ verdict.Broken rule' place' n' role' index'
alike rule rule' place place' n n' role role' index index' a b c d e = cc

refused_once : (x y : ℕ × Place) → Some x ≡ Some y → x ≡ y
refused_once x y e = cc

told_once : (p : Protocol) (b c : V.Broken) → Same b c → (rule rule' : ℕ) (place place' : Place) (n n' : Option ℤ) (role role' : Option (List ℕ)) (index index' : Option ℤ)
    → IsTold p b rule place n role index → IsTold p c rule' place' n' role' index' → verdict.Broken rule place n role index ≡ verdict.Broken rule' place' n' role' index'
told_once p b c same rule rule' place place' n n' role role' index index' x y =
    alike rule rule' place place' n n' role role' index index'
    (x.rule_is ∙ same.rule ∙ sym y.rule_is)
    (x.place_is ∙ same.place ∙ sym y.place_is)
    (x.n_is ∙ ap Some same.n ∙ sym y.n_is)
    (x.role_is ∙ ap (role_of p.roles) same.at ∙ sym y.role_is)
    (x.index_is ∙ ap index_of same.at ∙ sym y.index_is)

broken_once : (f : PlainFile) (rule rule' : ℕ) (place place' : Place) (n n' : Option ℤ) (role role' : Option (List ℕ)) (index index' : Option ℤ)
    → IsBrokenAt f rule place n role index → IsBrokenAt f rule' place' n' role' index' → verdict.Broken rule place n role index ≡ verdict.Broken rule' place' n' role' index'
broken_once f rule rule' place place' n n' role role' index index' (inl x) (inl y) =
    let same = refused_once (rule, place) (rule', place') (sym x.0 ∙ y.0) in
    alike rule rule' place place' n n' role role' index index' (ap (λ (z : ℕ × Place). z.0) same) (ap (λ (z : ℕ × Place). z.1) same) (x.1.0 ∙ sym y.1.0) (x.1.1.0 ∙ sym y.1.1.0) (x.1.1.1 ∙ sym y.1.1.1)
broken_once f rule rule' place place' n n' role role' index index' (inl x) (inr (few, (b, at, told))) = absurd (none_or_some (broken f) (rule, place) at.earlier x.0)
broken_once f rule rule' place place' n n' role role' index index' (inr (few, (b, at, told))) (inl y) = absurd (none_or_some (broken f) (rule', place') at.earlier y.0)
broken_once f rule rule' place place' n n' role role' index index' (inr (few, (b, at, told))) (inr (few', (c, at', told'))) =
    told_once (meaning f) b c (one_first f b c at.broken_at at'.broken_at) rule rule' place place' n n' role role' index index' told told'

broken_or_crowded : (f : PlainFile) (rule : ℕ) (place : Place) (n : Option ℤ) (role : Option (List ℕ)) (index : Option ℤ) → IsBrokenAt f rule place n role index → IsCrowded f → ⊥
broken_or_crowded f rule place n role index (inl x) y = none_or_some (broken f) (rule, place) y.0 x.0
broken_or_crowded f rule place n role index (inr (few, (b, at, told))) y = no_crowd (meaning f) few y.1

-- ---- what a verdict rests on

data Ground (bytes : List ℕ) : Verdict → Type 0 where
  by_bytes : (error : LexError) → IsFirstError bytes error → Ground bytes (verdict.Lex error)
  by_tokens : (fault : ParseFault) (tokens : List Token) → IsText bytes tokens → IsFault (place_after first_place bytes) tokens fault → (fault ≡ P.NoMemory → ⊥) → Ground bytes (of_parse fault)
  by_rule : (rule : ℕ) (place : Place) (n : Option ℤ) (role : Option (List ℕ)) (index : Option ℤ) (file : PlainFile) → IsTreeOf bytes file → IsBrokenAt file rule place n role index
      → Ground bytes (verdict.Broken rule place n role index)
  by_cases : (file : PlainFile) → IsTreeOf bytes file → IsCrowded file → Ground bytes verdict.TooManyCases

ground : (bytes : List ℕ) (v : Verdict) → IsVerdict bytes v → (v ≡ verdict.NoMemory → ⊥) → Ground bytes v
ground bytes (verdict.Lex error) h some = by_bytes error h
ground bytes (verdict.Unexpected place) h some = by_tokens (P.Unexpected place) h.0 h.1 h.2 (λ e. cc)
ground bytes (verdict.TooDeep place) h some = by_tokens (P.TooDeep place) h.0 h.1 h.2 (λ e. cc)
ground bytes (verdict.TooMany limit place) h some = by_tokens (P.TooMany limit place) h.0 h.1 h.2 (λ e. cc)
ground bytes (verdict.Broken rule place n role index) h some = by_rule rule place n role index h.0 h.1 h.2
ground bytes verdict.TooManyCases h some = by_cases h.0 h.1 h.2
ground bytes verdict.NoMemory h some = absurd (some refl)

no_memory_only : (fault : ParseFault) (file : PlainFile) → Gives file (Err fault) → fault ≡ P.NoMemory
no_memory_only (P.Lex error) file h = absurd h
no_memory_only (P.Unexpected place) file h = absurd h
no_memory_only (P.TooDeep place) file h = absurd h
no_memory_only (P.TooMany limit place) file h = absurd h
no_memory_only P.NoMemory file h = refl

-- a text of the grammar within the limits has no fault
fault_or_tree : (bytes : List ℕ) (fault : ParseFault) (tokens : List Token) (file : PlainFile) → IsText bytes tokens → IsFault (place_after first_place bytes) tokens fault → (fault ≡ P.NoMemory → ⊥) → IsTreeOf bytes file → ⊥
fault_or_tree bytes fault tokens file text is some tree =
    let same : tokens ≡ tree.0 = one_text bytes tokens tree.0 text tree.1 in
    some (no_memory_only fault file (only (place_after first_place bytes) tree.0 (Err fault) (subst (λ (ts : List Token). IsFault (place_after first_place bytes) ts fault) same is) file tree.2.0 tree.2.1))

tokens_once : (bytes : List ℕ) (f g : ParseFault) (ts us : List Token) → IsText bytes ts → IsFault (place_after first_place bytes) ts f → (f ≡ P.NoMemory → ⊥) → IsText bytes us → IsFault (place_after first_place bytes) us g → (g ≡ P.NoMemory → ⊥) → f ≡ g
tokens_once bytes f g ts us text is some text' is' some' =
    let same : ts ≡ us = one_text bytes ts us text text' in
    tokens_.one_fault (place_after first_place bytes) us f g (subst (λ (l : List Token). IsFault (place_after first_place bytes) l f) same is) is' some some'

one_ground : (bytes : List ℕ) (v w : Verdict) → Ground bytes v → Ground bytes w → v ≡ w
one_ground bytes v w (by_bytes e h) (by_bytes f k) = ap verdict.Lex (one_error bytes e f h k)
one_ground bytes v w (by_bytes e h) (by_tokens fault tokens text is some) = absurd (error_or_text bytes e tokens h text)
one_ground bytes v w (by_bytes e h) (by_rule rule place n role index file tree is) = absurd (error_or_text bytes e tree.0 h tree.1)
one_ground bytes v w (by_bytes e h) (by_cases file tree is) = absurd (error_or_text bytes e tree.0 h tree.1)
one_ground bytes v w (by_tokens fault tokens text is some) (by_bytes e h) = absurd (error_or_text bytes e tokens h text)
one_ground bytes v w (by_tokens f ts text is some) (by_tokens g us text' is' some') = ap of_parse (tokens_once bytes f g ts us text is some text' is' some')
one_ground bytes v w (by_tokens f ts text is some) (by_rule rule place n role index file tree is') = absurd (fault_or_tree bytes f ts file text is some tree)
one_ground bytes v w (by_tokens f ts text is some) (by_cases file tree is') = absurd (fault_or_tree bytes f ts file text is some tree)
one_ground bytes v w (by_rule rule place n role index file tree is) (by_bytes e h) = absurd (error_or_text bytes e tree.0 h tree.1)
one_ground bytes v w (by_rule rule place n role index file tree is) (by_tokens f ts text is' some) = absurd (fault_or_tree bytes f ts file text is' some tree)
one_ground bytes v w (by_rule rule place n role index file tree is) (by_rule rule' place' n' role' index' file' tree' is') =
    broken_once file' rule rule' place place' n n' role role' index index' (subst (λ (f : PlainFile). IsBrokenAt f rule place n role index) (one_file bytes file file' tree tree') is) is'
one_ground bytes v w (by_rule rule place n role index file tree is) (by_cases file' tree' is') =
    absurd (broken_or_crowded file' rule place n role index (subst (λ (f : PlainFile). IsBrokenAt f rule place n role index) (one_file bytes file file' tree tree') is) is')
one_ground bytes v w (by_cases file tree is) (by_bytes e h) = absurd (error_or_text bytes e tree.0 h tree.1)
one_ground bytes v w (by_cases file tree is) (by_tokens f ts text is' some) = absurd (fault_or_tree bytes f ts file text is' some tree)
one_ground bytes v w (by_cases file tree is) (by_rule rule place n role index file' tree' is') =
    absurd (broken_or_crowded file' rule place n role index is' (subst IsCrowded (one_file bytes file file' tree tree') is))
one_ground bytes v w (by_cases file tree is) (by_cases file' tree' is') = refl

pub one_verdict : OneVerdict
one_verdict bytes v w h k a b = one_ground bytes v w (ground bytes v h a) (ground bytes w k b)
