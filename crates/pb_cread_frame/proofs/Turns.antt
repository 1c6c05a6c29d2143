-- Small facts on tests and options.
use Rattle.std.proofs.Common.{◌≡◌, ℕ, Bool, true, false, cond, List, [], ◌∷◌, ◌++◌, Option, Some, None, refl, ap, subst, ◌∙◌, eq-eqb, eqb-true, nat_eq}
use Rattle.std.specs.Prelude.{◌&&◌, codes}
use Rattle.std.specs.Cmp.Lexicographic.{pointwise}
use Rattle.pb_syntax.specs.declared.core_label.CoreLabel.{CoreLabel}
use Rattle.pb_ctree.specs.Frame.{words_lines, function_lines, make_head, take_head, first_body, other_bodies}
use Rattle.pb_cread_frame.specs.Ahead.{Shown, shown, sure, show, body_from}
use Rattle.pb_cread_rows.specs.Guesses.{if_spelled}
use Rattle.pb_cread_frame.specs.Reading.{brace_text, make_opening, take_opening}
use Rattle.pb_cread_rows.proofs.Again.{and_left, and_right}
use Rattle.pb_cread_frame.proofs.Shapes.{map_both, function_shown}
use Rattle.std.proofs.Common.{map, append_assoc}
use Rattle.std.proofs.lemmas.Option.{same_Some, none-some}

pub same_refl : (text : List ℕ) → pointwise nat_eq text text ≡ true
same_refl [] = refl
same_refl (c ∷ cs) = let d : nat_eq c c ≡ true = eq-eqb c c refl in rw d (same_refl cs)

pub same_is : (a b : List ℕ) → pointwise nat_eq a b ≡ true → a ≡ b
same_is [] [] e = refl
same_is [] (d ∷ ds) e = absurd cc
same_is (c ∷ cs) [] e = absurd cc
same_is (c ∷ cs) (d ∷ ds) e =
    let k : c ≡ d = eqb-true c d (and_left (nat_eq c d) (pointwise nat_eq cs ds) e) in
    let r : cs ≡ ds = same_is cs ds (and_right (nat_eq c d) (pointwise nat_eq cs ds) e) in
    cc

pub cond_true : {X : Type 0} (b : Bool) (o : Option X) (x : X) → cond b o None ≡ Some x → b ≡ true
cond_true true o x e = refl
cond_true false o x e = absurd (none-some x e)

pub cond_some : {X : Type 0} (b : Bool) (o : Option X) (x : X) → cond b o None ≡ Some x → o ≡ Some x
cond_some true o x e = e
cond_some false o x e = absurd (none-some x e)

pub cond_goes : {X : Type 0} (b : Bool) (o : Option X) (x : X) → b ≡ true → o ≡ Some x → cond b o None ≡ Some x
cond_goes true o x e f = f
cond_goes false o x e f = absurd cc

pub spelled_so : {X : Type 0} (text : X → List ℕ) (rule : X → Bool) (x : X) (o : Option X) → o ≡ Some x → rule x ≡ true → if_spelled text rule (text x) o ≡ Some x
spelled_so text rule x o e kept =
    let same : pointwise nat_eq (text x) (text x) ≡ true = same_refl (text x) in
    ap (if_spelled text rule (text x)) e ∙ rw (same, kept) refl

-- what a guess that was seen says
pub record IsSpelled {X : Type 0} (text : X → List ℕ) (rule : X → Bool) (line : List ℕ) (x : X) : Type 0 where
  pub spells : text x ≡ line
  pub kept : rule x ≡ true

pub spelled_is : {X : Type 0} (text : X → List ℕ) (rule : X → Bool) (line : List ℕ) (o : Option X) (x : X) → if_spelled text rule line o ≡ Some x → IsSpelled text rule line x
spelled_is text rule line None x e = absurd (none-some x e)
spelled_is text rule line (Some y) x e =
    let both : (pointwise nat_eq (text y) line && rule y) ≡ true = cond_true (pointwise nat_eq (text y) line && rule y) (Some y) x e in
    let is : y ≡ x = same_Some y x (cond_some (pointwise nat_eq (text y) line && rule y) (Some y) x e) in
    subst (IsSpelled text rule line) is (record { spells = same_is (text y) line (and_left (pointwise nat_eq (text y) line) (rule y) both); kept = and_right (pointwise nat_eq (text y) line) (rule y) both })

pub shown_sure : (a line : List ℕ) (b : Bool) (behind : List Shown) → a ≡ line → b ≡ true → shown a b ∷ behind ≡ sure line ∷ behind
shown_sure a line b behind e f = ap (λ t. shown t b ∷ behind) e ∙ ap (λ c. shown line c ∷ behind) f

-- the two functions of a label with words, and what stands behind them
pub words_shown : (l : CoreLabel) (bodies : List (List ℕ)) (behind : List Shown)
    → map show (words_lines l bodies) ++ behind
    ≡ map sure (make_opening l) ++ body_from (first_body bodies) (sure brace_text ∷ (map sure (take_opening l) ++ body_from (first_body (other_bodies bodies)) (sure brace_text ∷ behind)))
words_shown l bodies behind =
    let one = function_lines (make_head l) true (codes "make_" ++ l.name) (first_body bodies) in
    let two = function_lines (take_head l) true (codes "take_" ++ l.name) (first_body (other_bodies bodies)) in
    ap (λ w. w ++ behind) (map_both show one two)
    ∙ append_assoc (map show one) (map show two) behind
    ∙ ap (λ w. map show one ++ w) (function_shown (take_head l) true (codes "take_" ++ l.name) (first_body (other_bodies bodies)) behind)
    ∙ function_shown (make_head l) true (codes "make_" ++ l.name) (first_body bodies) (map sure (take_opening l) ++ body_from (first_body (other_bodies bodies)) (sure brace_text ∷ behind))
