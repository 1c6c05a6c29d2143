-- The default bodies of functions with names are bodies.
use Rattle.std.proofs.Common.{◌≡◌, ℕ, Bool, true, false, List, [], ◌∷◌, ◌++◌, refl, ap, ◌∙◌, append_assoc, nat_eq, eqb-true, subst}
use Rattle.std.specs.Prelude.{IsTrue, codes, not, nat_lt, ◌&&◌, ◌||◌, length}
use Rattle.std.specs.List.{list_all}
use Rattle.std.proofs.lemmas.Bool.{and_parts}
use Rattle.pb_local.specs.Names.{is_name, is_word, is_letter, is_digit, is_keyword}
use Rattle.pb_ctree.specs.Bodies.{is_body, is_rest}
use Rattle.pb_typed.specs.declared.function.Role.{Role}
use Rattle.pb_typed.specs.declared.function.Role.TheVariants.{Makes, MakesOwn, GivesRoom, Takes, TakesOwn, Computes, Chooses}
use Rattle.pb_typed.specs.Functions.{default_body}

-- no line begins behind a byte of a name
within : (c : ℕ) (rest : List ℕ) → nat_eq c 10 ≡ false → is_rest false rest ≡ true → is_rest false (c ∷ rest) ≡ true
within c rest apart is = ap (λ b. is_rest b rest) apart ∙ is

abbrev fits : ℕ → Bool
fits c = is_letter c || is_digit c

no_break : (c : ℕ) → fits c ≡ true → nat_eq c 10 ≡ false
no_break c fit = by_test (nat_eq c 10) refl where
  by_test : (b : Bool) → nat_eq c 10 ≡ b → b ≡ false
  by_test false e = refl
  by_test true e = let is : fits 10 ≡ true = subst (λ x. fits x ≡ true) (eqb-true c 10 e) fit in absurd cc

letter_fits : (c : ℕ) → is_letter c ≡ true → fits c ≡ true
letter_fits c is = ap (λ b. b || is_digit c) is

past_all : (cs rest : List ℕ) → list_all (λ d. is_letter d || is_digit d) cs ≡ true → is_rest false rest ≡ true → is_rest false (cs ++ rest) ≡ true
past_all [] rest all is = is
past_all (c ∷ cs) rest all is =
    let parts = and_parts (fits c) (list_all (λ d. is_letter d || is_digit d) cs) all in
    within c (cs ++ rest) (no_break c parts.0) (past_all cs rest parts.1 is)

past : (name rest : List ℕ) → is_word name ≡ true → is_rest false rest ≡ true → is_rest false (name ++ rest) ≡ true
past [] rest word is = is
past (c ∷ cs) rest word is =
    let parts = and_parts (is_letter c) (list_all (λ d. is_letter d || is_digit d) cs) word in
    within c (cs ++ rest) (no_break c (letter_fits c parts.0)) (past_all cs rest parts.1 is)

word_of : (name : List ℕ) → IsTrue (is_name name) → is_word name ≡ true
word_of name named = (and_parts (is_word name) (nat_lt (length name) 65) (and_parts (is_word name && nat_lt (length name) 65) (not (is_keyword name)) named).0).0

abbrev unwritten : List ℕ
unwritten = codes " is not written yet\"\n" ++ []

-- further lines behind the warning
with_rest : (name rest : List ℕ) → IsTrue (is_name name) → is_rest false (unwritten ++ rest) ≡ true → is_rest false ((name ++ unwritten) ++ rest) ≡ true
with_rest name rest named is = ap (λ w. is_rest false w) (append_assoc name unwritten rest) ∙ past name (unwritten ++ rest) (word_of name named) is

pub default_is : (role : Role) (name : List ℕ) → IsTrue (is_name name) → IsTrue (is_body (default_body role name))
default_is Makes name named = past name unwritten (word_of name named) refl
default_is MakesOwn name named = with_rest name (codes "  *count = 0;\n  return 0;\n") named refl
default_is GivesRoom name named = with_rest name (codes "  *most = 0;\n  return 0;\n") named refl
default_is Takes name named = refl
default_is TakesOwn name named = refl
default_is Computes name named = refl
default_is Chooses name named = with_rest name (codes "  return 0;\n") named refl
