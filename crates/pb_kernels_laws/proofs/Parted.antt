-- The lines of a text, each with its line feed, are those that the text is spelled with.
use Rattle.std.proofs.Common.{◌≡◌, ℕ, Bool, true, false, List, [], ◌∷◌, ◌++◌, length, map, if◌then◌else◌, refl, sym, ap, ◌∙◌, arith, nat_eq, append-nil, All}
use Rattle.std.proofs.lemmas.List.Elements.{All-nil, All-cons, All-head, All-tail}
use Rattle.pb_local.specs.Pieces.{joined}
use Rattle.pb_local.specs.Tree.{Program, program_of}
use Rattle.pb_ctree.specs.declared.body.Bodies.{Bodies}
use Rattle.pb_ctree.specs.declared.tree.CTree.{CTree}
use Rattle.pb_ctree.specs.Bodies.{before_lines, is_body}
use Rattle.pb_ctree.specs.Frame.{text_lines}
use Rattle.pb_ctree.specs.Lines.{Line}
use Rattle.pb_ctree.specs.Texts.{line_bytes, line_text, text_of, Spells, Starts}
use Rattle.pb_kernels.specs.Files.{lines}
use Rattle.pb_cread_frame.specs.Rows.{is_line, bare}
use Rattle.pb_cread_frame.proofs.Shapes.{line_is}
use Rattle.pb_cread.specs.Rows.{Begins}
use Rattle.pb_cread.proofs.Cleared.{all_lines}

-- ---- whole lines

-- whether the bytes end a line, where a line begins before them or not
abbrev ends_line : Bool → List ℕ → Bool
ends_line begins [] = begins
ends_line begins (c ∷ cs) = ends_line (nat_eq c 10) cs

feed_ends : (begins : Bool) (line rest : List ℕ) → ends_line true rest ≡ true → ends_line begins ((line ++ 10 ∷ []) ++ rest) ≡ true
feed_ends begins [] rest e = e
feed_ends begins (c ∷ cs) rest e = feed_ends (nat_eq c 10) cs rest e

text_ends : (p : Program) (ls : List Line) → ends_line true (text_of p ls) ≡ true
text_ends p [] = refl
text_ends p (l ∷ ls) = feed_ends true (line_bytes p l) (text_of p ls) (text_ends p ls)

abbrev AreLines : List (List ℕ) → Type 0
AreLines ls = All (λ l. is_line l ≡ true) ls

-- the lines of what ends a line: within a line there is one more
abbrev AreAhead : Bool → List (List ℕ) → Type 0
AreAhead true ls = AreLines ls
AreAhead false [] = ⊥
AreAhead false (l ∷ ls) = AreLines (l ∷ ls)

abbrev IsWholeLine : List ℕ → Type 0
IsWholeLine l = is_line l ≡ true

lines_ahead : (begins : Bool) (bytes : List ℕ) → ends_line begins bytes ≡ true → AreAhead begins (lines bytes)
unfolding lines
lines_ahead true [] e = All-nil IsWholeLine
lines_ahead false [] e = absurd cc
lines_ahead begins (c ∷ cs) e = at begins (nat_eq c 10) refl (lines_ahead (nat_eq c 10) cs e) where
  feed : nat_eq c 10 ≡ true → is_line (c ∷ []) ≡ true
  feed t = rw t refl

  longer : (begins : Bool) (ls : List (List ℕ)) → nat_eq c 10 ≡ false → AreAhead false ls → AreAhead begins (before_lines c ls)
  longer begins [] t h = absurd h
  longer true (l ∷ ls) t h = All-cons IsWholeLine (c ∷ l) ls (rw t (All-head IsWholeLine l ls h)) (All-tail IsWholeLine l ls h)
  longer false (l ∷ ls) t h = All-cons IsWholeLine (c ∷ l) ls (rw t (All-head IsWholeLine l ls h)) (All-tail IsWholeLine l ls h)

  at : (begins b : Bool) → nat_eq c 10 ≡ b → AreAhead b (lines cs) → AreAhead begins (if b then (c ∷ []) ∷ lines cs else before_lines c (lines cs))
  at true true t h = All-cons IsWholeLine (c ∷ []) (lines cs) (feed t) h
  at false true t h = All-cons IsWholeLine (c ∷ []) (lines cs) (feed t) h
  at begins false t h = longer begins (lines cs) t h

before_joined : (c : ℕ) (ls : List (List ℕ)) → joined (before_lines c ls) ≡ c ∷ joined ls
before_joined c [] = refl
before_joined c (l ∷ ls) = refl

lines_joined : (bytes : List ℕ) → joined (lines bytes) ≡ bytes
unfolding lines
lines_joined [] = refl
lines_joined (c ∷ cs) = at (nat_eq c 10) (lines_joined cs) where
  at : (b : Bool) → joined (lines cs) ≡ cs → joined (if b then (c ∷ []) ∷ lines cs else before_lines c (lines cs)) ≡ c ∷ cs
  at true e = ap (λ x. c ∷ x) e
  at false e = before_joined c (lines cs) ∙ ap (λ x. c ∷ x) e

-- ---- the lines of a spelling

same_lines : (p : Program) (xs : List (List ℕ)) (ls : List Line) → AreLines xs → Starts p (map bare xs) ls → length xs ≡ length ls → xs ≡ map (line_text p) ls
same_lines p [] [] each starts many = refl
same_lines p [] (l ∷ ls) each starts many = absurd cc
same_lines p (x ∷ xs) [] each starts many = absurd starts
same_lines p (x ∷ xs) (l ∷ ls) each starts many =
    let first : x ≡ line_text p l = sym (line_is x (All-head IsWholeLine x xs each)) ∙ ap (λ w. w ++ 10 ∷ []) starts.0 in
    ap (λ w. w ∷ xs) first ∙ ap (λ ws. line_text p l ∷ ws) (same_lines p xs ls (All-tail IsWholeLine x xs each) starts.2 (omega (arith, many)))

pub spelled_lines : (tree : CTree) (bodies : Bodies) (bytes : List ℕ) → is_body bodies.prelude ≡ true → All (λ body. is_body body ≡ true) bodies.list.items → Spells tree bodies bytes
    → lines bytes ≡ map (line_text (program_of tree.local)) (text_lines (program_of tree.local) bodies.prelude bodies.list.items)
spelled_lines tree bodies bytes one each spells =
    let p = program_of tree.local in
    let ls = text_lines p bodies.prelude bodies.list.items in
    let whole : ends_line true bytes ≡ true = ap (ends_line true) spells.text ∙ text_ends p ls in
    let are : AreLines (lines bytes) = lines_ahead true bytes whole in
    let begins : Begins bytes (lines bytes) [] = record { each = are; whole = sym (lines_joined bytes) ∙ sym (append-nil (joined (lines bytes))) } in
    let all = all_lines tree bodies bytes (lines bytes) one each spells begins in
    same_lines p (lines bytes) ls are all.starts all.many
