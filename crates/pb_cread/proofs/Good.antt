-- Lines that were read begin a spelling, and keep the limits.
use Rattle.std.proofs.Common.{◌≡◌, ℕ, suc, ◌+◌, ◌-◌, Bool, true, false, List, [], ◌∷◌, ◌++◌, map, length, Some, refl, sym, ap, subst, ◌∙◌, arith, append_assoc, length-append, nat_eq}
use Rattle.std.specs.Prelude.{All, if◌then◌else◌}
use Rattle.pb_text.specs.declared.place.Place.{Place}
use Rattle.pb_local.specs.Tree.{Codes, nothing, Program}
use Rattle.pb_ctree.specs.Frame.{end_lines, text_lines}
use Rattle.pb_ctree.specs.Lines.{Line}
use Rattle.pb_ctree.specs.Texts.{Starts}
use Rattle.pb_cread_frame.specs.Ahead.{Shown, sure, ahead}
use Rattle.pb_cread_frame.specs.Frames.{frame_lines, behind_frame, shown_of}
use Rattle.pb_cread_frame.specs.Laws as K
use Rattle.pb_cread_frame.specs.Reading.{Read, State, start_with}
use Rattle.pb_cread_frame.specs.Rows.{is_nothing, is_line, bare}
use Rattle.pb_cread_frame.proofs.Folds.{fronts_read, starts_texts}
use Rattle.pb_cread_statements.specs.Fronts.{main_lines}
use Rattle.pb_cread_statements.specs.Laws.{place_of}
use Rattle.pb_cread_statements.specs.Reading as M
use Rattle.pb_cread_statements.proofs.Laws.{is_front}
use Rattle.pb_cread.specs.Faults.{past_frame, Spell, IsGood}
use Rattle.pb_cread.specs.Limits.{open_behind, begun_behind, IsWithin}
use Rattle.pb_cread.specs.Reached.{with_body, headed, Framed, Stated, GoesBy}
use Rattle.pb_cread.specs.Rows.{line_number, line_place, IsFirst}
use Rattle.pb_cread.proofs.Counts.{counts, none_within}
use Rattle.pb_cread.proofs.Heads.{fits_head, frame_length, frame_shown, no_rest, rest_program, length_map, same_bytes}
use Rattle.pb_cread.proofs.Stated.{starts_more, shows_many, shows_push, shows_starts, read_push}

-- ---- lines of the frame

starts_shown : (p : Program) (lines : List (List ℕ)) (ls : List Line) (more : List Shown) → All (λ l. is_line l ≡ true) lines → map (shown_of p) ls ≡ map sure lines ++ more → Starts p (map bare lines) ls
starts_shown p [] ls more all e = tt
starts_shown p (x ∷ xs) [] more all e = absurd cc
starts_shown p (x ∷ xs) (l ∷ ls) more all e =
    let first : shown_of p l ≡ sure x = cc in
    let others : map (shown_of p) ls ≡ map sure xs ++ more = cc in
    let one : is_line x ≡ true = all 0 x (omega arith) in
    (same_bytes p l x one (sym (ap (λ (s : Shown). s.text) first)), ap (λ (s : Shown). s.kept) first, starts_shown p xs ls more (λ k d less. all (suc k) d (omega (arith, less))) others)

monus : (a b c : ℕ) → b ≡ a + c → a - b ≡ 0
monus a b c e = omega (arith, e)

pub good_frame : (lines : List (List ℕ)) (name : List ℕ) (s : State) → All (λ l. is_line l ≡ true) lines → K.read lines (start_with name) ≡ Some s → IsGood lines
good_frame lines name s all e =
    let f = fronts_read lines (start_with name) s no_rest all e in
    let q = f.rest in
    let p = rest_program q nothing in
    let tail = map (shown_of p) (behind_frame p) in
    let is : map (shown_of p) (text_lines p q.prelude q.bodies) ≡ map sure lines ++ (ahead s no_rest ++ tail) = starts_texts p q.prelude q.bodies ∙ ap (λ w. w ++ tail) f.ahead_is ∙ append_assoc (map sure lines) (ahead s no_rest) tail in
    let many : length (frame_lines p q.prelude q.bodies) ≡ length lines + length (ahead s no_rest) =
    sym (length_map (shown_of p) (frame_lines p q.prelude q.bodies)) ∙ ap length (frame_shown p q.prelude q.bodies ∙ f.ahead_is) ∙ length-append (map sure lines) (ahead s no_rest) ∙ ap (λ n. n + length (ahead s no_rest)) (length_map sure lines) in
    let none : past_frame p q.prelude q.bodies (length lines) ≡ 0 = monus (length lines) (length (frame_lines p q.prelude q.bodies)) (length (ahead s no_rest)) many in
    let P : ℕ → Type 0 = λ n. IsWithin p n in
    record {
      program = p;
      prelude = q.prelude;
      bodies = q.bodies;
      spell = starts_shown p lines (text_lines p q.prelude q.bodies) (ahead s no_rest ++ tail) all is;
      within = subst P (sym none) (none_within p);
    }

-- ---- lines of statements

-- how many of the lines stand behind the frame
pub past : (frame lines : List (List ℕ)) (r : Read) (c : Codes) → Framed frame r → past_frame (with_body (headed r) c) r.prelude r.bodies (length (frame ++ lines)) ≡ length lines
past frame lines r c f = apart (length (frame ++ lines)) (length frame) (length lines) (length (frame_lines (with_body (headed r) c) r.prelude r.bodies)) (length-append frame lines) (frame_length frame r c f) where
  apart : (a b c d : ℕ) → a ≡ b + c → d ≡ b → a - d ≡ c
  apart a b c d e f = omega (arith, e, f)

pub good_main : (frame lines : List (List ℕ)) (r : Read) (s : M.State) → Framed frame r → Stated (headed r) lines s → IsGood (frame ++ lines)
good_main frame lines r s f t =
    let h = headed r in
    let x = is_front h t.items s t.reads in
    let c = x.0 in
    let st = shows_starts h lines t.items (main_lines h c) t.shows x.1 in
    let P : ℕ → Type 0 = λ n. IsWithin (with_body h c) n in
    record {
      program = with_body h c;
      prelude = r.prelude;
      bodies = r.bodies;
      spell = fits_head frame lines r c f (starts_more h (map bare lines) (main_lines h c) end_lines st);
      within = subst P (sym (past frame lines r c f ∙ shows_many h lines t.items t.shows)) (t.within c x.1);
    }

-- a line more, with what is open and begun behind it
pub record Further (frame lines : List (List ℕ)) (l : List ℕ) (r : Read) (u : M.State) : Type 0 where
  pub program : Program
  pub spell : Spell ((frame ++ lines) ++ l ∷ []) program r.prelude r.bodies
  pub braces : open_behind program (past_frame program r.prelude r.bodies (length (frame ++ lines) + 1)) ≡ M.open_braces u
  pub begun : begun_behind program (past_frame program r.prelude r.bodies (length (frame ++ lines) + 1)) ≡ u.begun

pub further : (frame lines : List (List ℕ)) (l : List ℕ) (r : Read) (s u : M.State) → Framed frame r → Stated (headed r) lines s → GoesBy (headed r) s (bare l) u → Further frame lines l r u
further frame lines l r s u f t g =
    let h = headed r in
    let items = t.items ++ place_of g.depth g.item ∷ [] in
    let reads = read_push h t.items s u g.depth g.item t.reads g.goes in
    let x = is_front h items u reads in
    let c = x.0 in
    let shows = shows_push h lines t.items l (place_of g.depth g.item) t.shows g.is in
    let st = shows_starts h (lines ++ l ∷ []) items (main_lines h c) shows x.1 in
    let k = counts h c items u reads x.1 in
    let spell = fits_head frame (lines ++ l ∷ []) r c f (starts_more h (map bare (lines ++ l ∷ [])) (main_lines h c) end_lines st) in
    let p = with_body h c in
    let one : length (frame ++ (lines ++ l ∷ [])) ≡ length (frame ++ lines) + 1 = ap length (sym (append_assoc frame lines (l ∷ []))) ∙ length-append (frame ++ lines) (l ∷ []) in
    let n : past_frame p r.prelude r.bodies (length (frame ++ lines) + 1) ≡ length items = ap (past_frame p r.prelude r.bodies) (sym one) ∙ past frame (lines ++ l ∷ []) r c f ∙ shows_many h (lines ++ l ∷ []) items shows in
    let P : List (List ℕ) → Type 0 = λ xs. Spell xs p r.prelude r.bodies in
    record {
      program = p;
      spell = subst P (sym (append_assoc frame lines (l ∷ []))) spell;
      braces = ap (open_behind p) n ∙ k.braces;
      begun = ap (begun_behind p) n ∙ k.begun;
    }

-- ---- the next line

pub same_first_line : (l k m n : List ℕ) → is_line l ≡ true → is_line k ≡ true → l ++ m ≡ k ++ n → l ≡ k
same_first_line [] k m n a b e = absurd cc
same_first_line (c ∷ cs) [] m n a b e = absurd cc
same_first_line (c ∷ cs) (d ∷ ds) m n a b e =
    let head : c ≡ d = cc in
    let behind : cs ++ m ≡ ds ++ n = cc in
    let Q : ℕ → Type 0 = λ x. (if nat_eq x 10 then is_nothing ds else is_line ds) ≡ true in
    by_test (nat_eq c 10) a (subst Q (sym head) b) head behind (same_first_line cs ds m n) where
      nothing_more : (xs : List ℕ) → is_nothing xs ≡ true → xs ≡ []
      nothing_more [] e = refl
      nothing_more (x ∷ xs) e = absurd cc

      by_test : (t : Bool) → (if t then is_nothing cs else is_line cs) ≡ true → (if t then is_nothing ds else is_line ds) ≡ true → c ≡ d → cs ++ m ≡ ds ++ n → (is_line cs ≡ true → is_line ds ≡ true → cs ++ m ≡ ds ++ n → cs ≡ ds) → c ∷ cs ≡ d ∷ ds
      by_test true a b h e f = ap (λ xs. c ∷ xs) (nothing_more cs a) ∙ ap (λ x. x ∷ []) h ∙ ap (λ xs. d ∷ xs) (sym (nothing_more ds b))
      by_test false a b h e f = ap (λ xs. c ∷ xs) (f a b e) ∙ ap (λ x. x ∷ ds) h

-- the line that comes next is this one
pub is_next : (rest l m k n : List ℕ) → IsFirst rest l m → rest ≡ k ++ n → is_line k ≡ true → k ≡ l
is_next rest l m k n first e one = same_first_line k l n m one first.is (sym e ∙ first.whole)

-- a line isn't nothing
pub not_nothing : (rest l m : List ℕ) → IsFirst rest l m → rest ≡ [] → ⊥
not_nothing rest l m first e = no l first.is (sym first.whole ∙ e) where
  no : (l : List ℕ) → is_line l ≡ true → l ++ m ≡ [] → ⊥
  no [] a e = absurd cc
  no (c ∷ cs) a e = absurd cc

pub place_is : (place : Place) (n k : ℕ) → place.line ≡ n → place.col ≡ 1 → n ≡ line_number k → place ≡ line_place k
place_is place n k a b e = ap (λ (x : ℕ). record place { line = x }) (a ∙ e) ∙ ap (λ (x : ℕ). record place { line = line_number k; col = x }) b
