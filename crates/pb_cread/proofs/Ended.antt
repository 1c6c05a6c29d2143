-- Where texts end, and end too early.
use Rattle.std.proofs.Common.{◌≡◌, ℕ, suc, ◌+◌, ◌≤◌, ◌<◌, true, false, List, [], ◌∷◌, ◌++◌, map, length, Some, refl, sym, ap, subst, ◌∙◌, arith, append_assoc, append-nil, length-append}
use Rattle.std.specs.Prelude.{All, codes}
use Rattle.std.proofs.lemmas.List.Elements.{All-push, All-cons}
use Rattle.std.proofs.lemmas.Bool.{both_ways}
use Rattle.std.proofs.lemmas.Option.{same_Some}
use Rattle.pb_text.specs.declared.place.Place.{Place}
use Rattle.pb_text.specs.Places.{one_more}
use Rattle.pb_local.specs.Pieces as P
use Rattle.pb_local.specs.Tree.{Code, Codes, codes_of, Program, program_of, size_all}
use Rattle.pb_local.specs.WellMade.{outermost}
use Rattle.pb_ctree.specs.Frame.{words, end_lines, text_lines}
use Rattle.pb_ctree.specs.Lines.{Line}
use Rattle.pb_ctree.specs.Texts.{Starts, line_text, text}
use Rattle.pb_cread_lines.specs.Head.{HasHead}
use Rattle.pb_cread_frame.specs.Ahead.{Shown}
use Rattle.pb_cread_frame.specs.Frames.{frame_lines, behind_frame, rest_of, shown_of}
use Rattle.pb_cread_frame.specs.Laws as K
use Rattle.pb_cread_frame.specs.Reading.{Read, State, is_done, start_with, same_line}
use Rattle.pb_cread_frame.specs.Rows.{is_line, bare}
use Rattle.pb_cread_frame.proofs.Folds.{starts_texts}
use Rattle.pb_cread_frame.proofs.Framed.{text_is}
use Rattle.pb_cread_frame.proofs.Shapes.{line_is, map_both}
use Rattle.pb_cread_frame.proofs.Turns.{same_refl, same_is}
use Rattle.pb_cread_statements.specs.Fronts.{Begins, Are, main_lines}
use Rattle.pb_cread_statements.specs.Reading as M
use Rattle.pb_cread_statements.proofs.Laws.{are_lines, reads_statements}
use Rattle.pb_cread.specs.Faults.{Spell, IsGood, IsUnexpected, Comes}
use Rattle.pb_cread.specs.Limits.{KeepsLimits}
use Rattle.pb_cread.specs.Reached.{with_body, headed, Taken, InFrame, Framed, finalize, last_texts, Stated, InMain, InEnd, IsWhole}
use Rattle.pb_cread.specs.Rows as W
use Rattle.pb_cread.specs.Rows.{line_number, HasNoLine, IsFirst}
use Rattle.pb_cread.proofs.Cleared.{all_lines}
use Rattle.pb_cread.proofs.Counts.{within_all}
use Rattle.pb_cread.proofs.Faulted.{rows_behind}
use Rattle.pb_cread.proofs.Good.{good_frame, good_main, is_next, place_is}
use Rattle.pb_cread.proofs.Heads.{only_head, has_head, length_map, starts_begins, frame_many, fits_head, fitting, is_text}
use Rattle.pb_cread_statements.proofs.Marked.{marks_statements}
use Rattle.pb_cread.proofs.Parted.{left_over}
use Rattle.pb_cread.proofs.Stated.{starts_front, starts_both, starts_behind, starts_within, inner_lines, at_end, shows_many, shows_starts}
use Rattle.pb_cread.proofs.Tables.{spelled_same, marks_same}
use Rattle.pb_cread.proofs.Taken.{one_taken}

-- ---- too early, before the statements

text_length : (p : Program) (prelude : List ℕ) (bodies : List (List ℕ)) → length (text_lines p prelude bodies) ≡ length (frame_lines p prelude bodies) + (length (main_lines p p.body) + 3)
text_length p prelude bodies =
    ap length (text_is p prelude bodies) ∙ length-append (frame_lines p prelude bodies) (behind_frame p) ∙ ap (λ n. length (frame_lines p prelude bodies) + n) (length-append (main_lines p p.body) end_lines)

apart : (a b c d : ℕ) → a ≡ b → b ≡ c + (d + 3) → a < c → ⊥
apart a b c d e f g = omega (arith, e, f, g)

pub frame_early : (text rest : List ℕ) (n : ℕ) (s : State) (place : Place) → InFrame text rest n s → HasNoLine rest → is_done s ≡ false → place.line ≡ n → place.col ≡ 1 → Comes text place IsUnexpected
frame_early text rest n s place f none some_left a b = record {
  lines = f.lines;
  rest = rest;
  begins = f.taken.begins;
  good = good_frame f.lines f.name s f.taken.begins.each f.reads;
  place_is = place_is place n (length f.lines) a b f.taken.number;
  is = record {
    no_line = λ line more e one front. none line more e one;
    no_end = λ e tree bodies body each spells.
        let A : List ℕ → Type 0 = λ x. W.Begins text f.lines x in
        let p = program_of tree.local in
        let x = all_lines tree bodies text f.lines body each spells (subst A e f.taken.begins) in
        let B : List Shown → Type 0 = λ xs. K.Begins f.lines xs in
        let k = starts_begins p f.lines (text_lines p bodies.prelude bodies.list.items) f.taken.begins.each x.starts in
        let less = left_over f.lines (start_with f.name) s (rest_of p bodies.prelude bodies.list.items) (map (shown_of p) (behind_frame p)) f.reads some_left (subst B (starts_texts p bodies.prelude bodies.list.items) k) in
        let C : ℕ → Type 0 = λ n. length f.lines < n in
        apart (length f.lines) (length (text_lines p bodies.prelude bodies.list.items)) (length (frame_lines p bodies.prelude bodies.list.items)) (length (main_lines p p.body)) x.many (text_length p bodies.prelude bodies.list.items) (subst C (sym (frame_many p bodies.prelude bodies.list.items)) less);
  };
}

-- ---- too early, in the statements

main_length : (p : Program) (r : Read) → p ≡ with_body (headed r) p.body → length (main_lines p p.body) ≡ length (main_lines (headed r) p.body)
main_length p r e = ap (λ (q : Program). length (main_lines q p.body)) e ∙ ap length (spelled_same (headed r) p.body 1 outermost p.body)

beyond : (a b c d e f g : ℕ) → a ≡ b → a ≡ d + c → b ≡ e + (f + 3) → e ≡ d → f ≡ g → c ≤ g → ⊥
beyond a b c d e f g h i j k l m = omega (arith, h, i, j, k, l, m)

pub main_early : (text rest : List ℕ) (n : ℕ) (r : Read) (p : Program) (s : M.State) (place : Place) → InMain text rest n r p s → HasNoLine rest → place.line ≡ n → place.col ≡ 1 → Comes text place IsUnexpected
main_early text rest n r p s place i none a b =
    let C : Program → Type 0 = λ q. InMain text rest n r q s in
    stops r (subst C (sym i.is) i) where
      stops : (r : Read) → InMain text rest n r (headed r) s → Comes text place IsUnexpected
      stops r i = record {
        lines = i.frame ++ i.lines;
        rest = rest;
        begins = i.taken.begins;
        good = good_main i.frame i.lines r s i.framed i.stated;
        place_is = place_is place n (length (i.frame ++ i.lines)) a b i.taken.number;
        is = record {
          no_line = λ line more e one front. none line more e one;
          no_end = λ e tree bodies body each spells.
              let h = headed r in
              let A : List ℕ → Type 0 = λ x. W.Begins text (i.frame ++ i.lines) x in
              let p = program_of tree.local in
              let x = all_lines tree bodies text (i.frame ++ i.lines) body each spells (subst A e i.taken.begins) in
              let rows = rows_behind i.frame i.lines i.taken.begins.each in
              let o = only_head i.frame i.lines r p bodies.prelude bodies.list.items i.framed rows x.starts in
              let st = inner_lines h i.lines (main_lines h p.body) rows i.stated.inner o.behind in
              let B : ℕ → Type 0 = λ n. n ≤ length (main_lines h p.body) in
              beyond (length (i.frame ++ i.lines)) (length (text_lines p bodies.prelude bodies.list.items)) (length i.lines) (length i.frame) (length (frame_lines p bodies.prelude bodies.list.items)) (length (main_lines p p.body)) (length (main_lines h p.body))
              x.many (length-append i.frame i.lines) (text_length p bodies.prelude bodies.list.items) o.many (main_length p r o.is) (subst B (length_map bare i.lines) (starts_within h (map bare i.lines) (main_lines h p.body) st));
        };
      }

-- ---- the end

abbrev last_lines : List Line
last_lines = words 1 (codes "return 0;") ∷ words 0 (codes "}") ∷ []

are_begins : (items : List M.Place) (ls : List Line) → Are items ls → Begins items ls
are_begins [] [] a = tt
are_begins [] (l ∷ ls) a = absurd a
are_begins (i ∷ is) [] a = absurd a
are_begins (i ∷ is) (l ∷ ls) a = (a.0, a.1, a.2, are_begins is ls a.3)

are_many : (items : List M.Place) (ls : List Line) → Are items ls → length items ≡ length ls
are_many [] [] a = refl
are_many [] (l ∷ ls) a = absurd a
are_many (i ∷ is) [] a = absurd a
are_many (i ∷ is) (l ∷ ls) a = ap (λ n. suc n) (are_many is ls a.3)

-- the lines are the statements' and those behind them
end_starts_so : (p : Program) (lines last left : List (List ℕ)) (s : M.State) (done : List Code) → Stated p lines s → M.finished s ≡ Some done → last ++ left ≡ last_texts → Starts p (map bare (lines ++ finalize ∷ last)) (main_lines p (codes_of done) ++ end_lines)
end_starts_so p lines last left s done t finished parts =
    let ls = main_lines p (codes_of done) in
    let are = are_lines p t.items s done t.reads finished in
    let own = shows_starts p lines t.items ls t.shows (are_begins t.items ls are) in
    let many : length (map bare lines) ≡ length ls = length_map bare lines ∙ shows_many p lines t.items t.shows ∙ are_many t.items ls are in
    let A : List (List ℕ) → Type 0 = λ xs. Starts p (map bare (finalize ∷ xs)) end_lines in
    let full : Starts p (map bare (finalize ∷ last_texts)) end_lines = (refl, refl, (refl, refl, (refl, refl, tt))) in
    let B : List (List ℕ) → Type 0 = λ xs. Starts p (bare finalize ∷ xs) end_lines in
    let front = starts_front p (map bare (finalize ∷ last)) (map bare left) end_lines (subst B (map_both bare last left) (subst A (sym parts) full)) in
    let C : List (List ℕ) → Type 0 = λ xs. Starts p xs (ls ++ end_lines) in
    subst C (sym (map_both bare lines (finalize ∷ last))) (starts_both p (map bare lines) (map bare (finalize ∷ last)) ls end_lines own many front)

-- the limits are kept to the end
pub keeps : (p : Program) (lines : List (List ℕ)) (s : M.State) (done : List Code) → Stated p lines s → M.finished s ≡ Some done → KeepsLimits (with_body p (codes_of done))
keeps p lines s done t finished =
    let c = codes_of done in
    let are = are_lines p t.items s done t.reads finished in
    let many = are_many t.items (main_lines p c) are in
    let w = within_all (with_body p c) (length t.items) (t.within c (are_begins t.items (main_lines p c) are)) (at_most (ap length (spelled_same p c 1 outermost c) ∙ sym many)) (at_most (ap length (marks_same p c c) ∙ (marks_statements p c).0 ∙ sym many)) in
    let x = reads_statements p c t.items are in
    let one : x.0 ≡ s = same_Some x.0 s (sym x.1 ∙ t.reads) in
    let size : size_all c ≡ s.begun = sym x.5 ∙ ap (λ (u : M.State). u.begun) one in
    record { deep = w.deep; many = (let e = t.many in omega (arith, e, size)) } where
      at_most : {a b : ℕ} → a ≡ b → a ≤ b
      at_most e = omega (arith, e)

good_end : (frame lines last left : List (List ℕ)) (r : Read) (s : M.State) (done : List Code) → Framed frame r → Stated (headed r) lines s → M.finished s ≡ Some done → last ++ left ≡ last_texts → IsGood (frame ++ (lines ++ finalize ∷ last))
good_end frame lines last left r s done f t finished parts =
    let h = headed r in
    let c = codes_of done in
    let are = are_lines h t.items s done t.reads finished in
    let many = are_many t.items (main_lines h c) are in
    let w = within_all (with_body h c) (length t.items) (t.within c (are_begins t.items (main_lines h c) are)) (at_most (ap length (spelled_same h c 1 outermost c) ∙ sym many)) (at_most (ap length (marks_same h c c) ∙ (marks_statements h c).0 ∙ sym many)) in
    record {
      program = with_body h c;
      prelude = r.prelude;
      bodies = r.bodies;
      spell = fits_head frame (lines ++ finalize ∷ last) r c f (end_starts_so h lines last left s done t finished parts);
      within = record { deep = λ j le. w.deep j; many = λ j le. w.many j };
    } where
      at_most : {a b : ℕ} → a ≡ b → a ≤ b
      at_most e = omega (arith, e)

pub end_starts : (text rest : List ℕ) (n : ℕ) (r : Read) (p : Program) (s : M.State) (done : List Code) (l m : List ℕ) → InMain text rest n r p s → IsFirst rest l m → same_line finalize l ≡ true → M.finished s ≡ Some done → InEnd text m (one_more n) r p done [] last_texts
end_starts text rest n r p s done l m i first is finished =
    let same : finalize ≡ l = same_is finalize l is in
    let A : List (List ℕ) → Type 0 = λ xs. Taken text xs m (one_more n) in
    let B : List ℕ → Type 0 = λ x. Taken text (i.frame ++ (i.lines ++ x ∷ [])) m (one_more n) in
    record {
      is = i.is;
      frame = i.frame;
      framed = i.framed;
      lines = i.lines;
      taken = subst B (sym same) (subst A (append_assoc i.frame i.lines (l ∷ [])) (one_taken text rest n (i.frame ++ i.lines) l m i.taken first));
      state = s;
      stated = i.stated;
      finished = finished;
      parts = refl;
    }

regroup : (frame lines : List (List ℕ)) (f : List ℕ) (last : List (List ℕ)) (l : List ℕ) → (frame ++ (lines ++ f ∷ last)) ++ l ∷ [] ≡ frame ++ (lines ++ f ∷ (last ++ l ∷ []))
regroup frame lines f last l = append_assoc frame (lines ++ f ∷ last) (l ∷ []) ∙ ap (λ xs. frame ++ xs) (append_assoc lines (f ∷ last) (l ∷ []))

pub end_goes : (text rest : List ℕ) (n : ℕ) (r : Read) (p : Program) (done : List Code) (last left : List (List ℕ)) (e l m : List ℕ) → InEnd text rest n r p done last (e ∷ left) → IsFirst rest l m → same_line e l ≡ true → InEnd text m (one_more n) r p done (last ++ e ∷ []) left
end_goes text rest n r p done last left e l m i first is =
    let same : e ≡ l = same_is e l is in
    let A : List (List ℕ) → Type 0 = λ xs. Taken text xs m (one_more n) in
    let B : List ℕ → Type 0 = λ x. Taken text (i.frame ++ (i.lines ++ finalize ∷ (last ++ x ∷ []))) m (one_more n) in
    record {
      is = i.is;
      frame = i.frame;
      framed = i.framed;
      lines = i.lines;
      taken = subst B (sym same) (subst A (regroup i.frame i.lines finalize last l) (one_taken text rest n (i.frame ++ (i.lines ++ finalize ∷ last)) l m i.taken first));
      state = i.state;
      stated = i.stated;
      finished = i.finished;
      parts = append_assoc last (e ∷ []) left ∙ i.parts;
    }

-- any spelling whose lines begin so ends its statements at the same line
record Closing (p : Program) (c : Codes) (lines ys : List (List ℕ)) : Type 0 where
  many : length lines ≡ length (main_lines p c)
  behind : Starts p (map bare ys) last_lines

closing : (p : Program) (lines ys : List (List ℕ)) (s : M.State) (c : Codes) → HasHead p → Stated p lines s → All (λ l. is_line l ≡ true) lines → Starts p (map bare (lines ++ finalize ∷ ys)) (main_lines p c ++ end_lines) → Closing p c lines ys
closing p lines ys s c head t rows st =
    let ls = main_lines p c in
    let A : List (List ℕ) → Type 0 = λ xs. Starts p xs (ls ++ end_lines) in
    let own : Starts p (map bare lines ++ map bare (finalize ∷ ys)) (ls ++ end_lines) = subst A (map_both bare lines (finalize ∷ ys)) st in
    let before = inner_lines p lines ls rows t.inner (starts_front p (map bare lines) (map bare (finalize ∷ ys)) (ls ++ end_lines) own) in
    let B : List (List ℕ) → Type 0 = λ xs. Starts p (map bare xs) (ls ++ end_lines) in
    let seam : Starts p (map bare ((lines ++ finalize ∷ []) ++ ys)) (ls ++ end_lines) = subst B (sym (append_assoc lines (finalize ∷ []) ys)) st in
    let upto = starts_front p (map bare (lines ++ finalize ∷ [])) (map bare ys) (ls ++ end_lines) (subst A (map_both bare (lines ++ finalize ∷ []) ys) seam) in
    let many = at_end p lines s finalize c head t refl (same_refl finalize) before upto in
    let behind = starts_behind p (map bare lines) (map bare (finalize ∷ ys)) ls end_lines own many in
    record { many = sym (length_map bare lines) ∙ many; behind = behind.2 }

-- a line that goes on is the one that is left
next_left : (p : Program) (xs left : List (List ℕ)) (l : List ℕ) (ls : List Line) → is_line l ≡ true → xs ++ left ≡ map (line_text p) ls → Starts p (map bare (xs ++ l ∷ [])) ls → (behind : List (List ℕ)) × (left ≡ l ∷ behind)
next_left p [] left l [] one e st = absurd st
next_left p [] left l (x ∷ ls) one e st =
    let same : l ≡ line_text p x = sym (line_is l one) ∙ ap (λ w. w ++ 10 ∷ []) st.0 in
    (map (line_text p) ls, e ∙ ap (λ y. y ∷ map (line_text p) ls) (sym same))
next_left p (y ∷ ys) left l [] one e st = absurd st
next_left p (y ∷ ys) left l (x ∷ ls) one e st = let f : ys ++ left ≡ map (line_text p) ls = cc in next_left p ys left l ls one f st.2

all_left : (last left : List (List ℕ)) → last ++ left ≡ last_texts → length last ≡ 2 → left ≡ []
all_left last left e two = on left (ap length e) where
  on : (left : List (List ℕ)) → length (last ++ left) ≡ 2 → left ≡ []
  on [] f = refl
  on (x ∷ xs) f = absurd (let g = length-append last (x ∷ xs) in omega (arith, f, g, two))

counted : (a b c d e f g h : ℕ) → a ≡ b → a ≡ d + (c + suc h) → b ≡ e + (f + 3) → e ≡ d → f ≡ g → c ≡ g → h ≡ 2
counted a b c d e f g h i j k l m n = omega (arith, i, j, k, l, m, n)

refuses : (text rest : List ℕ) (n : ℕ) (r : Read) (done : List Code) (last left : List (List ℕ)) (place : Place) → InEnd text rest n r (headed r) done last left
    → ((line more : List ℕ) (behind : List (List ℕ)) → rest ≡ line ++ more → is_line line ≡ true → left ≡ line ∷ behind → ⊥) → (rest ≡ [] → left ≡ [] → ⊥) → place.line ≡ n → place.col ≡ 1 → Comes text place IsUnexpected
refuses text rest n r done last left place i no_next no_rest a b =
    let h = headed r in
    let xs = i.lines ++ finalize ∷ last in
    let rows = rows_behind i.frame xs i.taken.begins.each in
    let inner = rows_front i.lines (finalize ∷ last) rows in
    let head = has_head i.frame r i.framed in
    record {
      lines = i.frame ++ xs;
      rest = rest;
      begins = i.taken.begins;
      good = good_end i.frame i.lines last left r i.state done i.framed i.stated i.finished i.parts;
      place_is = place_is place n (length (i.frame ++ xs)) a b i.taken.number;
      is = record {
        no_line = λ line more e one front.
            let A : List (List ℕ) → Type 0 = λ ys. Spell ys front.0 front.1 front.2 in
            let o = only_head i.frame (xs ++ line ∷ []) r front.0 front.1 front.2 i.framed (All-push (λ x. is_line x ≡ true) xs line rows one) (subst A (append_assoc i.frame xs (line ∷ [])) front.3) in
            let B : List (List ℕ) → Type 0 = λ ys. Starts h (map bare ys) (main_lines h front.0.body ++ end_lines) in
            let c = closing h i.lines (last ++ line ∷ []) i.state front.0.body head i.stated inner (subst B (append_assoc i.lines (finalize ∷ last) (line ∷ [])) o.behind) in
            let x = next_left h last left line last_lines one i.parts c.behind in
            no_next line more x.0 e one x.1;
        no_end = λ e tree bodies body each spells.
            let p = program_of tree.local in
            let A : List ℕ → Type 0 = λ x. W.Begins text (i.frame ++ xs) x in
            let x = all_lines tree bodies text (i.frame ++ xs) body each spells (subst A e i.taken.begins) in
            let o = only_head i.frame xs r p bodies.prelude bodies.list.items i.framed rows x.starts in
            let c = closing h i.lines last i.state p.body head i.stated inner o.behind in
            let long : length (i.frame ++ xs) ≡ length i.frame + (length i.lines + suc (length last)) = length-append i.frame xs ∙ ap (λ k. length i.frame + k) (length-append i.lines (finalize ∷ last)) in
            let two = counted (length (i.frame ++ xs)) (length (text_lines p bodies.prelude bodies.list.items)) (length i.lines) (length i.frame) (length (frame_lines p bodies.prelude bodies.list.items)) (length (main_lines p p.body)) (length (main_lines h p.body)) (length last)
            x.many long (text_length p bodies.prelude bodies.list.items) o.many (main_length p r o.is) c.many in
            no_rest e (all_left last left i.parts two);
      };
    } where
      rows_front : (xs ys : List (List ℕ)) → All (λ l. is_line l ≡ true) (xs ++ ys) → All (λ l. is_line l ≡ true) xs
      rows_front [] ys all = λ k d less. absurd (omega (arith, less))
      rows_front (x ∷ xs) ys all = All-cons (λ l. is_line l ≡ true) x xs (all 0 x (omega arith)) (rows_front xs ys (λ k d less. all (suc k) d (omega (arith, less))))

on_head : (text rest : List ℕ) (n : ℕ) (r : Read) (p : Program) (done : List Code) (last left : List (List ℕ)) → InEnd text rest n r p done last left → InEnd text rest n r (headed r) done last left
on_head text rest n r p done last left i = let A : Program → Type 0 = λ q. InEnd text rest n r q done last left in subst A (sym i.is) i

-- another line than the one that is left
pub end_stops : (text rest : List ℕ) (n : ℕ) (r : Read) (p : Program) (done : List Code) (last left : List (List ℕ)) (e l m : List ℕ) (place : Place) → InEnd text rest n r p done last (e ∷ left) → IsFirst rest l m → same_line e l ≡ false → place.line ≡ n → place.col ≡ 1 → Comes text place IsUnexpected
end_stops text rest n r p done last left e l m place i first other a b =
    refuses text rest n r done last (e ∷ left) place (on_head text rest n r p done last (e ∷ left) i)
    (λ line more behind f one same. no line (is_next rest l m line more first f one) behind same)
    (λ f none. cons none) a b where
      no : (line : List ℕ) → line ≡ l → (behind : List (List ℕ)) → e ∷ left ≡ line ∷ behind → ⊥
      no line f behind same =
          let g : e ≡ l = (let h : e ≡ line = cc in h ∙ f) in
          both_ways (same_line e l) other (ap (λ (x : List ℕ). same_line x l) g ∙ same_refl l)

      cons : e ∷ left ≡ [] → ⊥
      cons f = cc

-- no line where one is left
pub end_early : (text rest : List ℕ) (n : ℕ) (r : Read) (p : Program) (done : List Code) (last left : List (List ℕ)) (e : List ℕ) (place : Place) → InEnd text rest n r p done last (e ∷ left) → HasNoLine rest → place.line ≡ n → place.col ≡ 1 → Comes text place IsUnexpected
end_early text rest n r p done last left e place i none a b =
    refuses text rest n r done last (e ∷ left) place (on_head text rest n r p done last (e ∷ left) i) (λ line more behind f one same. none line more f one) (λ f empty. cons empty) a b where
      cons : e ∷ left ≡ [] → ⊥
      cons f = cc

-- more behind the last line
pub end_exceeded : (text rest : List ℕ) (n : ℕ) (r : Read) (p : Program) (done : List Code) (last : List (List ℕ)) (place : Place) → InEnd text rest n r p done last [] → (rest ≡ [] → ⊥) → place.line ≡ n → place.col ≡ 1 → Comes text place IsUnexpected
end_exceeded text rest n r p done last place i more a b =
    refuses text rest n r done last [] place (on_head text rest n r p done last [] i) (λ line m behind f one same. cons line behind same) (λ f empty. more f) a b where
      cons : (line : List ℕ) (behind : List (List ℕ)) → [] ≡ line ∷ behind → ⊥
      cons line behind f = cc

-- ---- the whole

pub end_whole : (bytes rest : List ℕ) (n : ℕ) (r : Read) (p : Program) (done : List Code) (last : List (List ℕ)) → InEnd bytes rest n r p done last [] → rest ≡ [] → IsWhole bytes r (with_body p (codes_of done))
end_whole bytes rest n r p done last i none =
    let A : Program → Type 0 = λ q. IsWhole bytes r (with_body q (codes_of done)) in
    subst A i.is (at (on_head bytes rest n r p done last [] i)) where
      at : InEnd bytes rest n r (headed r) done last [] → IsWhole bytes r (with_body (headed r) (codes_of done))
      at i =
          let h = headed r in
          let c = codes_of done in
          let xs = i.lines ++ finalize ∷ last in
          let rows = rows_behind i.frame xs i.taken.begins.each in
          let st = end_starts_so h i.lines last [] i.state done i.stated i.finished i.parts in
          let are = are_lines h i.stated.items i.state done i.stated.reads i.finished in
          let two : length last ≡ 2 = ap length (sym (append-nil last) ∙ i.parts) in
          let many : length xs ≡ length (main_lines h c ++ end_lines) =
          length-append i.lines (finalize ∷ last) ∙ ap (λ k. length i.lines + suc k) two ∙ ap (λ k. k + 3) (shows_many h i.lines i.stated.items i.stated.shows ∙ are_many i.stated.items (main_lines h c) are) ∙ sym (length-append (main_lines h c) end_lines) in
          let t = is_text i.frame xs r c i.framed rows st many in
          record {
            made = t.made;
            text = i.taken.begins.whole ∙ ap (λ x. P.joined (i.frame ++ xs) ++ x) none ∙ append-nil (P.joined (i.frame ++ xs)) ∙ t.text;
            many = (fitting i.frame r c i.framed).many;
            limits = keeps h i.lines i.state done i.stated i.finished;
          }
