-- How the lines of bodies and functions stand one after the other.
use Rattle.std.proofs.Common.{◌≡◌, ℕ, Bool, true, false, List, [], ◌∷◌, ◌++◌, map, refl, sym, ap, ◌∙◌, append_assoc, eqb-true, nat_eq}
use Rattle.std.specs.Prelude.{if◌then◌else◌, codes}
use Rattle.pb_local.specs.Pieces as P
use Rattle.pb_ctree.specs.Bodies.{is_marker, before_lines, lines_of}
use Rattle.pb_ctree.specs.Frame.{body_lines, function_lines}
use Rattle.pb_cread_frame.specs.Ahead.{Shown, shown, sure, show, body_from, goes_on_with}
use Rattle.pb_cread_frame.specs.Reading.{brace_text}
use Rattle.pb_cread_frame.specs.Rows.{is_nothing, is_line, bare}

pub map_push : {A B : Type 0} (f : A → B) (xs : List A) (x : A) → map f (xs ++ x ∷ []) ≡ map f xs ++ f x ∷ []
map_push f [] x = refl
map_push f (y ∷ ys) x = ap (λ zs. f y ∷ zs) (map_push f ys x)

pub map_both : {A B : Type 0} (f : A → B) (xs ys : List A) → map f (xs ++ ys) ≡ map f xs ++ map f ys
map_both f [] ys = refl
map_both f (x ∷ xs) ys = ap (λ zs. f x ∷ zs) (map_both f xs ys)

pub push_more : {A : Type 0} (xs : List A) (x : A) (ys : List A) → (xs ++ x ∷ []) ++ ys ≡ xs ++ (x ∷ ys)
push_more xs x ys = append_assoc xs (x ∷ []) ys

-- a function's lines, and those behind it
pub function_shown : (head : List ℕ) (kept : Bool) (name body : List ℕ) (behind : List Shown)
    → map show (function_lines head kept name body) ++ behind
    ≡ shown (P.line 0 head) kept ∷ sure (P.line 0 (codes "{")) ∷ sure (P.line 0 (P.joined (codes "/*@ kernel " ∷ name ∷ codes " */" ∷ []))) ∷ body_from body (sure brace_text ∷ behind)
function_shown head kept name body behind =
    let two = sure (P.line 0 (codes "/*@ end */")) ∷ sure brace_text ∷ [] in
    ap (λ w. shown (P.line 0 head) kept ∷ sure (P.line 0 (codes "{")) ∷ sure (P.line 0 (P.joined (codes "/*@ kernel " ∷ name ∷ codes " */" ∷ []))) ∷ w)
    (ap (λ w. w ++ behind) (map_both show (body_lines body) _) ∙ append_assoc (map show (body_lines body)) two behind)

-- ---- lines of a body

abbrev pub behind_line : List ℕ → List ℕ
behind_line [] = []
behind_line (c ∷ cs) = if nat_eq c 10 then cs else behind_line cs

abbrev pub later : List (List ℕ) → List (List ℕ)
later [] = []
later (l ∷ ls) = ls

later_before : (c : ℕ) (ls : List (List ℕ)) → later (before_lines c ls) ≡ later ls
later_before c [] = refl
later_before c (l ∷ ls) = refl

pub lines_behind : (text : List ℕ) → lines_of (behind_line text) ≡ later (lines_of text)
lines_behind [] = refl
lines_behind (c ∷ cs) = by_test (nat_eq c 10) (lines_behind cs) where
  by_test : (b : Bool) → lines_of (behind_line cs) ≡ later (lines_of cs) → lines_of (if b then cs else behind_line cs) ≡ later (if b then [] ∷ lines_of cs else before_lines c (lines_of cs))
  by_test true e = refl
  by_test false e = e ∙ sym (later_before c (lines_of cs))

nothing_more : (cs : List ℕ) → is_nothing cs ≡ true → cs ≡ []
nothing_more [] e = refl
nothing_more (c ∷ cs) e = absurd cc

pub line_is : (line : List ℕ) → is_line line ≡ true → bare line ++ 10 ∷ [] ≡ line
line_is [] e = absurd cc
line_is (c ∷ cs) e = by_test (nat_eq c 10) refl e (line_is cs) where
  by_test : (b : Bool) → nat_eq c 10 ≡ b → (if b then is_nothing cs else is_line cs) ≡ true → (is_line cs ≡ true → bare cs ++ 10 ∷ [] ≡ cs) → (if b then [] else c ∷ bare cs) ++ 10 ∷ [] ≡ c ∷ cs
  by_test true t e f = let n : cs ≡ [] = nothing_more cs e in let k : c ≡ 10 = eqb-true c 10 t in cc
  by_test false t e f = ap (λ x. c ∷ x) (f e)

pub line_lines : (line rest : List ℕ) → is_line line ≡ true → lines_of (line ++ rest) ≡ bare line ∷ lines_of rest
line_lines [] rest e = absurd cc
line_lines (c ∷ cs) rest e = by_test (nat_eq c 10) e (line_lines cs rest) where
  by_test : (b : Bool) → (if b then is_nothing cs else is_line cs) ≡ true → (is_line cs ≡ true → lines_of (cs ++ rest) ≡ bare cs ∷ lines_of rest)
      → (if b then [] ∷ lines_of (cs ++ rest) else before_lines c (lines_of (cs ++ rest))) ≡ (if b then [] else c ∷ bare cs) ∷ lines_of rest
  by_test true e f = ap (λ x. [] ∷ lines_of (x ++ rest)) (nothing_more cs e)
  by_test false e f = ap (before_lines c) (f e)

pub marker_line : (l : List ℕ) → is_marker (l ++ 10 ∷ []) ≡ is_marker l
marker_line [] = refl
marker_line (a ∷ []) = refl
marker_line (a ∷ b ∷ []) = refl
marker_line (a ∷ b ∷ c ∷ l) = refl

pub goes_on_nothing : (bodies : List (List ℕ)) → goes_on_with [] bodies ≡ bodies
goes_on_nothing [] = refl
goes_on_nothing (b ∷ bs) = refl

pub same_first : {x : Shown} {a b : List Shown} → a ≡ b → x ∷ a ≡ x ∷ b
same_first {x = x} e = ap (λ w. x ∷ w) e
