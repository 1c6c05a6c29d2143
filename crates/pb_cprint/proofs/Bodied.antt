-- Bodies, and the lists that they stand in.
use Rattle.std.proofs.Common.{◌≡◌, ℕ, zero, suc, ◌+◌, List, [], ◌∷◌, ◌++◌, drop, get_or, refl, sym, ap, ◌∙◌, append-nil, arith, Bool, true, false, add-one, nat_eq, eqb-true, rules}
use Rattle.std.specs.Prelude.{IsTrue, not, ◌&&◌, if◌then◌else◌}
use Rattle.std.proofs.lemmas.Bool.{and_parts}
use Rattle.pb_ctree.specs.Bodies.{is_body, is_rest, is_marker, lines_of, before_lines}
use Rattle.pb_ctree.specs.Frame.{first_body, other_bodies}
use Rattle.pb_cprint.specs.Framed.{lines_text, body_written}

pub first_at : (bodies : List (List ℕ)) (at : ℕ) → first_body (drop at bodies) ≡ get_or bodies at []
first_at [] zero = refl
first_at [] (suc at) = refl
first_at (b ∷ bs) zero = refl
first_at (b ∷ bs) (suc at) = first_at bs at

pub others_at : (bodies : List (List ℕ)) (at : ℕ) → other_bodies (drop at bodies) ≡ drop (at + 1) bodies
others_at bodies at = behind bodies at ∙ ap (λ n. drop n bodies) (sym (add-one at)) where
  behind : (bodies : List (List ℕ)) (at : ℕ) → other_bodies (drop at bodies) ≡ drop (suc at) bodies
  behind [] zero = refl
  behind [] (suc at) = refl
  behind (b ∷ bs) zero = refl
  behind (b ∷ bs) (suc at) = behind bs at

-- a list of lines that isn't empty
abbrev HasLine : List (List ℕ) → Type 0
HasLine [] = ⊥
HasLine (l ∷ ls) = Unit {0}

before_some : (c : ℕ) (ls : List (List ℕ)) → HasLine (before_lines c ls)
before_some c [] = tt
before_some c (l ∷ ls) = tt

before_text : (c : ℕ) (ls : List (List ℕ)) (text : List ℕ) → HasLine ls → lines_text ls ≡ text → lines_text (before_lines c ls) ≡ c ∷ text
before_text c [] text some is = absurd some
before_text c (l ∷ ls) text some is = ap (λ x. c ∷ x) is

lines_some : (cs : List ℕ) → is_rest false cs ≡ true → HasLine (lines_of cs)
lines_some [] rest = absurd cc
lines_some (d ∷ ds) rest = by_test (nat_eq d 10) where
  by_test : (b : Bool) → HasLine (if b then [] ∷ lines_of ds else before_lines d (lines_of ds))
  by_test true = tt
  by_test false = before_some d (lines_of ds)

-- the lines of a body are its bytes
whole : (begins : Bool) (bytes : List ℕ) → is_rest begins bytes ≡ true → lines_text (lines_of bytes) ≡ bytes
whole begins [] rest = refl
whole begins (c ∷ cs) rest =
    let tail : is_rest (nat_eq c 10) cs ≡ true = (and_parts (not (begins && is_marker (c ∷ cs))) (is_rest (nat_eq c 10) cs) rest).1 in
    by_test (nat_eq c 10) refl tail (whole (nat_eq c 10) cs tail) where
      by_test : (b : Bool) → nat_eq c 10 ≡ b → is_rest b cs ≡ true → lines_text (lines_of cs) ≡ cs → lines_text (if b then [] ∷ lines_of cs else before_lines c (lines_of cs)) ≡ c ∷ cs
      by_test true e tail same = ap (λ x. 10 ∷ x) same ∙ ap (λ x. x ∷ cs) (sym (eqb-true c 10 e))
      by_test false e tail same = before_text c (lines_of cs) cs (lines_some cs tail) same

pub body_same : (bytes : List ℕ) → IsTrue (is_body bytes) → body_written bytes ≡ bytes
unfolding body_written
body_same bytes is = whole true bytes is
