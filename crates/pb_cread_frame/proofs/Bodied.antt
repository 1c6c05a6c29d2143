-- A body, a line on.
use Rattle.std.proofs.Common.{◌≡◌, ℕ, Bool, true, false, not, ◌&&◌, List, [], ◌∷◌, ◌++◌, refl, sym, ap, subst, ◌∙◌, nat_eq}
use borrow.Author.Tests.{eqb-true}
use Rattle.std.specs.Prelude.{if◌then◌else◌}
use Rattle.std.proofs.lemmas.Bool.{and_from, and_parts}
use Rattle.pb_ctree.specs.Bodies.{is_marker, is_rest, is_body}
use Rattle.pb_cread_frame.specs.Rows.{is_nothing, is_line}

-- what stands behind whole lines makes none of them a marker
mark_kept : (c : ℕ) (cs line : List ℕ) → is_rest (nat_eq c 10) cs ≡ true → is_marker (c ∷ (cs ++ line)) ≡ is_marker (c ∷ cs)
mark_kept c [] line h = subst (λ (k : ℕ). is_marker (k ∷ line) ≡ is_marker (k ∷ [])) (sym (eqb-true c 10 h)) refl
mark_kept c (d ∷ []) line h =
    subst (λ (k : ℕ). is_marker (c ∷ (k ∷ line)) ≡ is_marker (c ∷ k ∷ [])) (sym (eqb-true d 10 (and_parts _ _ h).1)) refl
mark_kept c (d ∷ e ∷ fs) line h = refl

rest_more : (begins : Bool) (xs line : List ℕ) → is_rest begins xs ≡ true → is_rest true line ≡ true → is_rest begins (xs ++ line) ≡ true
rest_more begins [] line h last = ap (λ b. is_rest b line) h ∙ last
rest_more begins (c ∷ cs) line h last =
    let parts : (not (begins && is_marker (c ∷ cs)) ≡ true) × (is_rest (nat_eq c 10) cs ≡ true) = and_parts (not (begins && is_marker (c ∷ cs))) (is_rest (nat_eq c 10) cs) h in
    and_from (not (begins && is_marker (c ∷ (cs ++ line)))) (is_rest (nat_eq c 10) (cs ++ line))
    (ap (λ b. not (begins && b)) (mark_kept c cs line parts.1) ∙ parts.0)
    (rest_more (nat_eq c 10) cs line parts.1 last)

line_rest : (line : List ℕ) → is_marker line ≡ false → is_rest false line ≡ true → is_rest true line ≡ true
line_rest [] plain ends = refl
line_rest (c ∷ cs) plain ends = and_from (not (is_marker (c ∷ cs))) (is_rest (nat_eq c 10) cs) (ap not plain) ends

line_ends : (line : List ℕ) → is_line line ≡ true → is_rest false line ≡ true
line_ends [] e = absurd cc
line_ends (c ∷ cs) e = by_test (nat_eq c 10) e (line_ends cs) where
  nothing_ends : (cs : List ℕ) → is_nothing cs ≡ true → is_rest true cs ≡ true
  nothing_ends [] e = refl
  nothing_ends (d ∷ ds) e = absurd cc

  by_test : (b : Bool) → (if b then is_nothing cs else is_line cs) ≡ true → (is_line cs ≡ true → is_rest false cs ≡ true) → is_rest b cs ≡ true
  by_test true e f = nothing_ends cs e
  by_test false e f = f e

pub body_more : (xs line : List ℕ) → is_body xs ≡ true → is_marker line ≡ false → is_line line ≡ true → is_body (xs ++ line) ≡ true
body_more xs line h plain ends = rest_more true xs line h (line_rest line plain (line_ends line ends))
