-- Bodies are whole lines without markers.
use Rattle.std.proofs.Common.{◌≡◌, ℕ, Bool, true, false, not, ◌&&◌, if◌then◌else◌, List, [], ◌∷◌, ◌++◌, length, map, take, refl, sym, ap, subst, ◌∙◌, Decides, All, nat_eq}
use Rattle.std.specs.Cmp.Lexicographic.{pointwise}
use Rattle.std.specs.List.{starts_with}
use Rattle.std.proofs.lemmas.Bool.{eqb-true, not-true, not_from_false}
use Rattle.std.proofs.lemmas.Bool.Decides.{Decides-and, Decides-like, Decides-by_and}
use Rattle.std.proofs.lemmas.List.Elements.{All-nil, All-cons, All-head, All-tail}
use Rattle.pb_ctree.specs.Bodies.{is_marker, is_rest, before_lines, lines_of, marker}
use Rattle.pb_ctree.specs.Frame.{body_lines, first_body}
use Rattle.pb_ctree.specs.Lines.{raw, line}
use Rattle.pb_ctree.specs.Texts.{all_kept}
use Rattle.pb_ctree_laws.specs.Laws.{HasNoMarker, whole, IsWhole, BodiesAreLines}
use Rattle.pb_ctree_laws.proofs.Tests.{itself}

abbrev IsPlain : List ℕ → Type 0
IsPlain l = is_marker l ≡ false

plain_is : (l : List ℕ) → Decides (not (is_marker l)) (IsPlain l)
plain_is l = (not-true (is_marker l), not_from_false (is_marker l))

pub body_lines_are : (bytes : List ℕ) → Decides (all_kept (body_lines bytes)) (HasNoMarker bytes)
body_lines_are bytes =
    Decides-by_and (λ l. not (is_marker l)) IsPlain (λ ls. all_kept (map (λ l. line 0 (raw l) (not (is_marker l))) ls)) plain_is refl (λ _ _. refl) (lines_of bytes)

-- ---- the first line

abbrev HasLine : List (List ℕ) → Type 0
HasLine [] = ⊥
HasLine (l ∷ ls) = Unit {0}

abbrev behind_first : List (List ℕ) → List (List ℕ)
behind_first [] = []
behind_first (l ∷ ls) = ls

before_some : (c : ℕ) (ls : List (List ℕ)) → HasLine (before_lines c ls)
before_some c [] = tt
before_some c (l ∷ ls) = tt

before_first : (c : ℕ) (ls : List (List ℕ)) → first_body (before_lines c ls) ≡ c ∷ first_body ls
before_first c [] = refl
before_first c (l ∷ ls) = refl

before_behind : (c : ℕ) (ls : List (List ℕ)) → behind_first (before_lines c ls) ≡ behind_first ls
before_behind c [] = refl
before_behind c (l ∷ ls) = refl

before_whole : (c : ℕ) (ls : List (List ℕ)) → HasLine ls → whole (before_lines c ls) ≡ c ∷ whole ls
before_whole c [] some = absurd some
before_whole c (l ∷ ls) some = refl

-- words without a line feed
abbrev pub HasNoFeed : List ℕ → Type 0
HasNoFeed [] = Unit {0}
HasNoFeed (x ∷ xs) = (nat_eq x 10 ≡ false) × HasNoFeed xs

-- what the first line begins with, all lines begin with
begins_same : (words bytes : List ℕ) → HasNoFeed words → starts_with nat_eq (first_body (lines_of bytes)) words ≡ starts_with nat_eq bytes words
begins_same [] bytes free = refl
begins_same (x ∷ words) [] free = refl
begins_same (x ∷ words) (c ∷ cs) free = at (nat_eq c 10) refl (begins_same words cs free.1) where
  feed_differs : (x c : ℕ) (b : Bool) → nat_eq x 10 ≡ false → nat_eq c 10 ≡ true → false ≡ (nat_eq x c && b)
  feed_differs x c b e f = let same : c ≡ 10 = eqb-true c 10 f in rw (same, e) refl

  at : (b : Bool) → nat_eq c 10 ≡ b → starts_with nat_eq (first_body (lines_of cs)) words ≡ starts_with nat_eq cs words →
      starts_with nat_eq (first_body (if b then [] ∷ lines_of cs else before_lines c (lines_of cs))) (x ∷ words) ≡ starts_with nat_eq (c ∷ cs) (x ∷ words)
  at true e rest = feed_differs x c (pointwise nat_eq words (take (length words) cs)) free.0 e
  at false e rest =
      ap (λ (l : List ℕ). starts_with nat_eq l (x ∷ words)) (before_first c (lines_of cs)) ∙ ap (λ b. nat_eq x c && b) rest

marker_same : (bytes : List ℕ) → is_marker (first_body (lines_of bytes)) ≡ is_marker bytes
marker_same bytes = begins_same marker bytes (refl, (refl, (refl, tt)))

-- ---- whole lines

-- what is said of the lines that are left, where a line begins and inside one
abbrev IsClear : Bool → List (List ℕ) → Type 0
IsClear true ls = All IsPlain ls
IsClear false ls = HasLine ls × All IsPlain (behind_first ls)

no_lines : (bytes : List ℕ) → (HasLine (lines_of bytes) → ⊥) → bytes ≡ []
no_lines [] none = refl
no_lines (c ∷ cs) none = absurd (none (some (nat_eq c 10))) where
  some : (b : Bool) → HasLine (if b then [] ∷ lines_of cs else before_lines c (lines_of cs))
  some true = tt
  some false = before_some c (lines_of cs)

-- a line feed begins no marker
feed_plain : (c : ℕ) (cs : List ℕ) → nat_eq c 10 ≡ true → is_marker (c ∷ cs) ≡ false
feed_plain c cs e = rw (eqb-true c 10 e) refl

open_plain : (begins : Bool) (c : ℕ) (cs : List ℕ) → is_marker (c ∷ cs) ≡ false → not (begins && is_marker (c ∷ cs)) ≡ true
open_plain true c cs e = ap not e
open_plain false c cs e = refl

clear_feed : (begins : Bool) (ls : List (List ℕ)) → (All IsPlain ls → IsClear begins ([] ∷ ls)) × (IsClear begins ([] ∷ ls) → All IsPlain ls)
clear_feed true ls = (λ h. All-cons IsPlain [] ls refl h, λ h. All-tail IsPlain [] ls h)
clear_feed false ls = (λ h. (tt, h), λ w. w.1)

tail_same : (c d : ℕ) (xs ys : List ℕ) → c ∷ xs ≡ d ∷ ys → xs ≡ ys
tail_same c d xs ys e = cc

at_feed : (begins : Bool) (c : ℕ) (cs : List ℕ) → nat_eq c 10 ≡ true → Decides (is_rest true cs) (IsClear true (lines_of cs) × IsWhole cs) →
    Decides (not (begins && is_marker (c ∷ cs)) && is_rest true cs) (IsClear begins ([] ∷ lines_of cs) × ((10 ∷ whole (lines_of cs)) ≡ c ∷ cs))
at_feed begins c cs e h =
    Decides-like _
    (λ w. ((clear_feed begins (lines_of cs)).0 w.1.0, ap (λ x. 10 ∷ x) w.1.1 ∙ ap (λ x. x ∷ cs) (sym (eqb-true c 10 e))))
    (λ w. (open_plain begins c cs (feed_plain c cs e), ((clear_feed begins (lines_of cs)).1 w.0, tail_same 10 c (whole (lines_of cs)) cs w.1)))
    (Decides-and (not (begins && is_marker (c ∷ cs))) (is_rest true cs) (itself (not (begins && is_marker (c ∷ cs)))) h)

all_lines : (ls : List (List ℕ)) → HasLine ls → IsPlain (first_body ls) → All IsPlain (behind_first ls) → All IsPlain ls
all_lines [] some first behind = absurd some
all_lines (l ∷ ls) some first behind = All-cons IsPlain l ls first behind

first_plain : (ls : List (List ℕ)) → All IsPlain ls → IsPlain (first_body ls)
first_plain [] h = refl
first_plain (l ∷ ls) h = All-head IsPlain l ls h

behind_plain : (ls : List (List ℕ)) → All IsPlain ls → All IsPlain (behind_first ls)
behind_plain [] h = h
behind_plain (l ∷ ls) h = All-tail IsPlain l ls h

-- the first line that is left begins here, or stands before
clear_inside : (begins : Bool) (c : ℕ) (cs : List ℕ) → is_marker (first_body (before_lines c (lines_of cs))) ≡ is_marker (c ∷ cs) →
    not (begins && is_marker (c ∷ cs)) ≡ true → IsClear false (lines_of cs) → IsClear begins (before_lines c (lines_of cs))
clear_inside true c cs same opens w =
    all_lines (before_lines c (lines_of cs)) (before_some c (lines_of cs)) (same ∙ not-true (is_marker (c ∷ cs)) opens)
    (subst (λ (ls : List (List ℕ)). All IsPlain ls) (sym (before_behind c (lines_of cs))) w.1)
clear_inside false c cs same opens w = (before_some c (lines_of cs), subst (λ (ls : List (List ℕ)). All IsPlain ls) (sym (before_behind c (lines_of cs))) w.1)

opens_inside : (begins : Bool) (c : ℕ) (cs : List ℕ) → is_marker (first_body (before_lines c (lines_of cs))) ≡ is_marker (c ∷ cs) →
    IsClear begins (before_lines c (lines_of cs)) → not (begins && is_marker (c ∷ cs)) ≡ true
opens_inside true c cs same w = not_from_false (is_marker (c ∷ cs)) (sym same ∙ first_plain (before_lines c (lines_of cs)) w)
opens_inside false c cs same w = refl

inside_behind : (begins : Bool) (c : ℕ) (ls : List (List ℕ)) → IsClear begins (before_lines c ls) → All IsPlain (behind_first ls)
inside_behind true c ls w = subst (λ (xs : List (List ℕ)). All IsPlain xs) (before_behind c ls) (behind_plain (before_lines c ls) w)
inside_behind false c ls w = subst (λ (xs : List (List ℕ)). All IsPlain xs) (before_behind c ls) w.1

some_line : (c : ℕ) (cs : List ℕ) → c ∷ cs ≡ [] → ⊥
some_line c cs e = cc

-- a last line has its line feed
inside_some : (c : ℕ) (cs : List ℕ) (ls : List (List ℕ)) → ls ≡ lines_of cs → whole (before_lines c ls) ≡ c ∷ cs → HasLine ls
inside_some c cs [] e w =
    let none : cs ≡ [] = no_lines cs (λ h. subst HasLine (sym e) h) in
    let line : List ℕ = 10 ∷ [] in
    let feed : line ≡ cs = tail_same c c (10 ∷ []) cs w in
    absurd (some_line 10 [] (feed ∙ none))
inside_some c cs (l ∷ ls) e w = tt

at_inside : (begins : Bool) (c : ℕ) (cs : List ℕ) → nat_eq c 10 ≡ false → Decides (is_rest false cs) (IsClear false (lines_of cs) × IsWhole cs) →
    Decides (not (begins && is_marker (c ∷ cs)) && is_rest false cs) (IsClear begins (before_lines c (lines_of cs)) × (whole (before_lines c (lines_of cs)) ≡ c ∷ cs))
at_inside begins c cs e h =
    let same : is_marker (first_body (before_lines c (lines_of cs))) ≡ is_marker (c ∷ cs) =
    subst (λ b. is_marker (first_body (if b then [] ∷ lines_of cs else before_lines c (lines_of cs))) ≡ is_marker (c ∷ cs)) e (marker_same (c ∷ cs)) in
    Decides-like _
    (λ w. (clear_inside begins c cs same w.0 w.1.0, before_whole c (lines_of cs) w.1.0.0 ∙ ap (λ x. c ∷ x) w.1.1))
    (λ w. let some = inside_some c cs (lines_of cs) refl w.1 in
    (opens_inside begins c cs same w.0, ((some, inside_behind begins c (lines_of cs) w.0), tail_same c c (whole (lines_of cs)) cs (sym (before_whole c (lines_of cs) some) ∙ w.1))))
    (Decides-and (not (begins && is_marker (c ∷ cs))) (is_rest false cs) (itself (not (begins && is_marker (c ∷ cs)))) h)

rest_is : (begins : Bool) (bytes : List ℕ) → Decides (is_rest begins bytes) (IsClear begins (lines_of bytes) × IsWhole bytes)
rest_is true [] = (λ e. (All-nil IsPlain, refl), λ w. refl)
rest_is false [] = (λ e. cc, λ w. absurd w.0.0)
rest_is begins (c ∷ cs) = at (nat_eq c 10) refl (rest_is (nat_eq c 10) cs) where
  at : (b : Bool) → nat_eq c 10 ≡ b → Decides (is_rest b cs) (IsClear b (lines_of cs) × IsWhole cs) →
      Decides (not (begins && is_marker (c ∷ cs)) && is_rest b cs) (IsClear begins (if b then [] ∷ lines_of cs else before_lines c (lines_of cs)) × (whole (if b then [] ∷ lines_of cs else before_lines c (lines_of cs)) ≡ c ∷ cs))
  at true e h = at_feed begins c cs e h
  at false e h = at_inside begins c cs e h

pub bodies_are_lines : BodiesAreLines
bodies_are_lines bytes = Decides-like _ (λ w. (w.1, w.0)) (λ w. (w.1, w.0)) (rest_is true bytes)

-- ---- lines of whole lines

-- no line has a line feed
pub lines_free : (bytes : List ℕ) → All HasNoFeed (lines_of bytes)
lines_free [] = All-nil HasNoFeed
lines_free (c ∷ cs) = at (nat_eq c 10) refl (lines_free cs) where
  longer : (ls : List (List ℕ)) → nat_eq c 10 ≡ false → All HasNoFeed ls → All HasNoFeed (before_lines c ls)
  longer [] e h = All-cons HasNoFeed (c ∷ []) [] (e, tt) (All-nil HasNoFeed)
  longer (l ∷ ls) e h = All-cons HasNoFeed (c ∷ l) ls (e, All-head HasNoFeed l ls h) (All-tail HasNoFeed l ls h)

  at : (b : Bool) → nat_eq c 10 ≡ b → All HasNoFeed (lines_of cs) → All HasNoFeed (if b then [] ∷ lines_of cs else before_lines c (lines_of cs))
  at true e rest = All-cons HasNoFeed [] (lines_of cs) tt rest
  at false e rest = longer (lines_of cs) e rest

feed_ends : (line rest : List ℕ) → HasNoFeed line → lines_of (line ++ (10 ∷ rest)) ≡ line ∷ lines_of rest
feed_ends [] rest free = refl
feed_ends (c ∷ cs) rest free = rw (free.0, feed_ends cs rest free.1) refl

pub lines_of_whole : (lines : List (List ℕ)) → All HasNoFeed lines → lines_of (whole lines) ≡ lines
lines_of_whole [] free = refl
lines_of_whole (l ∷ ls) free =
    feed_ends l (whole ls) (All-head HasNoFeed l ls free) ∙ ap (λ xs. l ∷ xs) (lines_of_whole ls (All-tail HasNoFeed l ls free))
