-- The lines before the statements settle a program's tables, and fit them.
use Rattle.std.proofs.Common.{◌≡◌, ℕ, suc, ◌+◌, true, List, [], ◌∷◌, ◌++◌, map, length, None, refl, sym, ap, subst, ◌∙◌, arith, append-nil, length-append}
use Rattle.std.specs.Prelude.{All, codes, ◌&&◌}
use Rattle.std.proofs.lemmas.List.{append_cancel_right}
use Rattle.std.proofs.lemmas.List.Elements.{All-append, All-cons}
use Rattle.pb_affine.specs.declared.range.NRange.{NRange}
use Rattle.pb_syntax.specs.declared.core_label.CoreLabel.{CoreLabel}
use Rattle.pb_syntax.specs.declared.core_label.CoreKernel.{CoreKernel}
use Rattle.pb_local.specs.declared.tables.Role.{Role}
use Rattle.pb_local.specs.Pieces as P
use Rattle.pb_local.specs.Ranks.{places_of}
use Rattle.pb_local.specs.Tree.{Codes, nothing, Program}
use Rattle.pb_local.specs.WellMade.{outermost, IsWellMade}
use Rattle.pb_ctree.specs.Frame.{head_lines, prelude_lines, number_lines, kernels_after, end_lines, text_lines}
use Rattle.pb_ctree.specs.Functions.{functions_of}
use Rattle.pb_ctree.specs.Lines.{Line}
use Rattle.pb_ctree.specs.Texts.{line_bytes, line_text, text_of, Starts, all_kept}
use Rattle.pb_cread_lines.specs.Head.{HasHead}
use Rattle.pb_ctree_laws.proofs.Texts.{made_where_kept}
use Rattle.pb_cread_frame.specs.Ahead.{Shown, sure, show, Rest, ahead, Whole, whole, spelled_body, words_bodies, in_functions}
use Rattle.pb_cread_frame.specs.Frames.{main_start, frame_lines, behind_frame, rest_of, shown_of}
use Rattle.pb_cread_frame.specs.Laws as K
use Rattle.pb_cread_frame.specs.Laws.{read}
use Rattle.pb_cread_frame.specs.Reading.{Read, start, start_with}
use Rattle.pb_cread_frame.specs.Rows.{is_line, bare}
use Rattle.pb_cread_frame.proofs.Folds.{fronts_read, starts_texts}
use Rattle.pb_cread_frame.proofs.Framed.{text_is, frame_ahead}
use Rattle.pb_cread_frame.proofs.Shapes.{line_is, map_both}
use Rattle.pb_cread_statements.specs.Fronts.{main_lines}
use Rattle.pb_cread.specs.Faults.{Spell}
use Rattle.pb_cread.specs.Reached.{with_body, headed, Framed}
use Rattle.pb_cread.proofs.Ahead.{none_ahead, whole_done}
use Rattle.pb_cread.proofs.Bodied.{prelude_again, functions_again, words_many}
use Rattle.pb_cread.proofs.Parted.{parted}
use Rattle.pb_cread.proofs.Tables.{spelled_same, starts_same, starts_with_body}

-- ---- lines with and without their line feeds

pub same_bytes : (p : Program) (l : Line) (text : List ℕ) → is_line text ≡ true → text ≡ line_text p l → bare text ≡ line_bytes p l
same_bytes p l text one e = append_cancel_right (bare text) (line_bytes p l) (10 ∷ []) (line_is text one ∙ e)

shown_starts : (p : Program) (lines : List (List ℕ)) (ls : List Line) → All (λ l. is_line l ≡ true) lines → K.Begins lines (map (shown_of p) ls) → Starts p (map bare lines) ls
shown_starts p [] ls all b = tt
shown_starts p (x ∷ xs) [] all b = absurd b
shown_starts p (x ∷ xs) (l ∷ ls) all b =
    let one : is_line x ≡ true = all 0 x (omega arith) in
    (same_bytes p l x one b.0, b.1, shown_starts p xs ls (λ k d less. all (suc k) d (omega (arith, less))) b.2)

pub starts_begins : (p : Program) (lines : List (List ℕ)) (ls : List Line) → All (λ l. is_line l ≡ true) lines → Starts p (map bare lines) ls → K.Begins lines (map (shown_of p) ls)
starts_begins p [] ls all st = tt
starts_begins p (x ∷ xs) [] all st = absurd st
starts_begins p (x ∷ xs) (l ∷ ls) all st =
    let one : is_line x ≡ true = all 0 x (omega arith) in
    (sym (line_is x one) ∙ ap (λ w. w ++ 10 ∷ []) st.0, st.1, starts_begins p xs ls (λ k d less. all (suc k) d (omega (arith, less))) st.2)

-- ---- what the lines settle

same_program : (p : Program) (r : Read) → p.protocol ≡ r.protocol → p.range ≡ r.range → p.roles ≡ r.roles → p.labels ≡ r.labels → p.kernels ≡ r.kernels → p ≡ with_body (headed r) p.body
same_program p r a b c d e =
    ap (λ (x : List ℕ). record p { protocol = x }) a
    ∙ ap (λ (x : NRange). record p { protocol = r.protocol; range = x }) b
    ∙ ap (λ (x : List Role). record p { protocol = r.protocol; range = r.range; roles = x }) c
    ∙ ap (λ (x : List CoreLabel). record p { protocol = r.protocol; range = r.range; roles = r.roles; labels = x }) d
    ∙ ap (λ (x : List CoreKernel). record p { protocol = r.protocol; range = r.range; roles = r.roles; labels = r.labels; kernels = x }) e

pub length_map : {A B : Type 0} (f : A → B) (xs : List A) → length (map f xs) ≡ length xs
length_map f [] = refl
length_map f (x ∷ xs) = ap (λ n. suc n) (length_map f xs)

pub frame_many : (p : Program) (prelude : List ℕ) (bodies : List (List ℕ)) → length (frame_lines p prelude bodies) ≡ length (ahead start (rest_of p prelude bodies))
frame_many p prelude bodies = sym (length_map show (frame_lines p prelude bodies)) ∙ ap length (frame_ahead p prelude bodies)

pub record Only (p : Program) (prelude : List ℕ) (bodies : List (List ℕ)) (r : Read) (frame more : List (List ℕ)) : Type 0 where
  pub is : p ≡ with_body (headed r) p.body
  pub many : length (frame_lines p prelude bodies) ≡ length frame
  pub behind : Starts (headed r) (map bare more) (main_lines (headed r) p.body ++ end_lines)

-- a spelling that begins with the lines has these tables
pub only_head : (frame more : List (List ℕ)) (r : Read) (p : Program) (prelude : List ℕ) (bodies : List (List ℕ))
    → Framed frame r → All (λ l. is_line l ≡ true) more → Spell (frame ++ more) p prelude bodies → Only p prelude bodies r frame more
only_head frame more r p prelude bodies f all spell =
    let q = rest_of p prelude bodies in
    let tail = map (shown_of p) (behind_frame p) in
    let every = All-append (λ l. is_line l ≡ true) frame more f.each all in
    let b = starts_begins p (frame ++ more) (text_lines p prelude bodies) every spell in
    let P : List Shown → Type 0 = λ xs. K.Begins (frame ++ more) xs in
    let w = parted frame more (start_with f.name) f.state q tail f.reads f.done (subst P (starts_texts p prelude bodies) b) in
    let same : whole (start_with f.name) q ≡ in_functions r [] r.prelude [] = w.same ∙ whole_done f.state w.rest f.done ∙ ap (λ (x : Read). in_functions x [] x.prelude []) f.read in
    let is : p ≡ with_body (headed r) p.body = same_program p r (ap (λ (x : Whole). x.protocol) same) (ap (λ (x : Whole). x.range) same) (ap (λ (x : Whole). x.roles) same) (ap (λ (x : Whole). x.labels) same) (ap (λ (x : Whole). x.kernels) same ∙ append-nil r.kernels) in
    let own : Starts p (map bare more) (behind_frame p) = shown_starts p more (behind_frame p) all w.behind in
    let Q : Program → Type 0 = λ x. Starts x (map bare more) (behind_frame x) in
    let other : Starts (headed r) (map bare more) (behind_frame (with_body (headed r) p.body)) = starts_same (headed r) p.body (map bare more) _ (subst Q is own) in
    let R : List Line → Type 0 = λ ls. Starts (headed r) (map bare more) (ls ++ end_lines) in
    record { is = is; many = frame_many p prelude bodies ∙ w.many; behind = subst R (spelled_same (headed r) p.body 1 outermost p.body) other }

-- ---- what fits them

pub frame_shown : (p : Program) (prelude : List ℕ) (bodies : List (List ℕ)) → map (shown_of p) (frame_lines p prelude bodies) ≡ ahead start (rest_of p prelude bodies)
frame_shown p prelude bodies =
    let tail = map (shown_of p) (behind_frame p) in
    append_cancel_right (map (shown_of p) (frame_lines p prelude bodies)) (ahead start (rest_of p prelude bodies)) tail
    (sym (map_both (shown_of p) (frame_lines p prelude bodies) (behind_frame p)) ∙ ap (map (shown_of p)) (sym (text_is p prelude bodies)) ∙ starts_texts p prelude bodies)

pub starts_frame : (p : Program) (lines more : List (List ℕ)) (ls bs : List Line) → All (λ l. is_line l ≡ true) lines → map (shown_of p) ls ≡ map sure lines → Starts p (map bare more) bs → Starts p (map bare (lines ++ more)) (ls ++ bs)
starts_frame p [] more [] bs all e st = st
starts_frame p [] more (l ∷ ls) bs all e st = absurd cc
starts_frame p (x ∷ xs) more [] bs all e st = absurd cc
starts_frame p (x ∷ xs) more (l ∷ ls) bs all e st =
    let first : shown_of p l ≡ sure x = cc in
    let others : map (shown_of p) ls ≡ map sure xs = cc in
    let one : is_line x ≡ true = all 0 x (omega arith) in
    (same_bytes p l x one (sym (ap (λ (s : Shown). s.text) first)), ap (λ (s : Shown). s.kept) first, starts_frame p xs more ls bs (λ k d less. all (suc k) d (omega (arith, less))) others st)

abbrev pub no_rest : Rest
no_rest = record { protocol = []; range = record { low = 0; high = None }; roles = []; labels = []; kernels = []; text = []; prelude = []; bodies = [] }

abbrev pub rest_program : Rest → Codes → Program
rest_program q c = record { protocol = q.protocol; range = q.range; roles = q.roles; labels = q.labels; kernels = q.kernels; body = c }

frame_again : (p : Program) (prelude : List ℕ) (bodies : List (List ℕ)) → frame_lines p (spelled_body prelude) (words_bodies p.labels p.kernels bodies) ≡ frame_lines p prelude bodies
frame_again p prelude bodies =
    let numbers = number_lines p.roles (places_of p.roles) in
    ap (λ ls. head_lines p ++ ls ++ numbers ++ kernels_after p.labels p.kernels (words_bodies p.labels p.kernels bodies) ++ main_start p) (prelude_again prelude)
    ∙ ap (λ ls. head_lines p ++ prelude_lines prelude ++ numbers ++ ls ++ main_start p) (functions_again p.labels p.kernels bodies)

-- a program with these tables, and its bodies
pub record Fitting (r : Read) (frame : List (List ℕ)) (c : Codes) : Type 0 where
  pub shown : map (shown_of (with_body (headed r) c)) (frame_lines (with_body (headed r) c) r.prelude r.bodies) ≡ map sure frame
  pub many : length r.bodies ≡ length (functions_of (headed r))

pub fitting : (frame : List (List ℕ)) (r : Read) (c : Codes) → Framed frame r → Fitting r frame c
fitting frame r c f =
    let g = fronts_read frame (start_with f.name) f.state no_rest f.each f.reads in
    let q = g.rest in
    let p = rest_program q c in
    let same : whole (start_with f.name) q ≡ in_functions r [] r.prelude [] = g.same ∙ whole_done f.state no_rest f.done ∙ ap (λ (x : Read). in_functions x [] x.prelude []) f.read in
    let is : p ≡ with_body (headed r) c = same_program p r (ap (λ (x : Whole). x.protocol) same) (ap (λ (x : Whole). x.range) same) (ap (λ (x : Whole). x.roles) same) (ap (λ (x : Whole). x.labels) same) (ap (λ (x : Whole). x.kernels) same ∙ append-nil r.kernels) in
    let prelude : spelled_body q.prelude ≡ r.prelude = ap (λ (x : Whole). x.prelude) same in
    let bodies : words_bodies q.labels q.kernels q.bodies ≡ r.bodies = ap (λ (x : Whole). x.bodies) same ∙ append-nil r.bodies in
    let whole_is : ahead start (rest_of p q.prelude q.bodies) ≡ map sure frame = g.ahead_is ∙ ap (λ xs. map sure frame ++ xs) (none_ahead f.state no_rest f.done) ∙ append-nil (map sure frame) in
    let mine : map (shown_of p) (frame_lines p (spelled_body q.prelude) (words_bodies q.labels q.kernels q.bodies)) ≡ map sure frame = ap (map (shown_of p)) (frame_again p q.prelude q.bodies) ∙ frame_shown p q.prelude q.bodies ∙ whole_is in
    let A : List ℕ → Type 0 = λ x. map (shown_of p) (frame_lines p x (words_bodies q.labels q.kernels q.bodies)) ≡ map sure frame in
    let B : List (List ℕ) → Type 0 = λ x. map (shown_of p) (frame_lines p r.prelude x) ≡ map sure frame in
    let C : Program → Type 0 = λ x. map (shown_of x) (frame_lines x r.prelude r.bodies) ≡ map sure frame in
    let D : Program → Type 0 = λ x. length r.bodies ≡ length (functions_of x) in
    record {
      shown = subst C is (subst B bodies (subst A prelude mine));
      many = subst D is (sym (ap length bodies) ∙ words_many q.labels q.kernels q.bodies);
    }

-- with lines of statements behind them, the lines begin its spelling
pub fits_head : (frame more : List (List ℕ)) (r : Read) (c : Codes) → Framed frame r → Starts (headed r) (map bare more) (main_lines (headed r) c ++ end_lines) → Spell (frame ++ more) (with_body (headed r) c) r.prelude r.bodies
fits_head frame more r c f st =
    let h = headed r in
    let p = with_body h c in
    let g = fitting frame r c f in
    let P : List Line → Type 0 = λ ls. Starts h (map bare more) (ls ++ end_lines) in
    let mine : Starts p (map bare more) (behind_frame p) = starts_with_body h c (map bare more) (behind_frame p) (subst P (sym (spelled_same h c 1 outermost c)) st) in
    let Q : List Line → Type 0 = λ ls. Starts p (map bare (frame ++ more)) ls in
    subst Q (sym (text_is p r.prelude r.bodies)) (starts_frame p frame more (frame_lines p r.prelude r.bodies) (behind_frame p) f.each g.shown mine)

pub frame_length : (frame : List (List ℕ)) (r : Read) (c : Codes) → Framed frame r → length (frame_lines (with_body (headed r) c) r.prelude r.bodies) ≡ length frame
frame_length frame r c f =
    let p = with_body (headed r) c in
    sym (length_map (shown_of p) (frame_lines p r.prelude r.bodies)) ∙ ap length (fitting frame r c f).shown ∙ length_map sure frame

-- ---- whole texts

pub starts_kept : (p : Program) (lines : List (List ℕ)) (ls : List Line) → Starts p lines ls → length ls ≡ length lines → all_kept ls ≡ true
starts_kept p [] [] st e = refl
starts_kept p [] (l ∷ ls) st e = absurd cc
starts_kept p (x ∷ xs) [] st e = absurd st
starts_kept p (x ∷ xs) (l ∷ ls) st e = ap (λ b. b && all_kept ls) st.1 ∙ starts_kept p xs ls st.2 (omega (arith, e))

starts_text : (p : Program) (lines : List (List ℕ)) (ls : List Line) → All (λ l. is_line l ≡ true) lines → Starts p (map bare lines) ls → length ls ≡ length lines → P.joined lines ≡ text_of p ls
starts_text p [] [] all st e = refl
starts_text p [] (l ∷ ls) all st e = absurd cc
starts_text p (x ∷ xs) [] all st e = absurd st
starts_text p (x ∷ xs) (l ∷ ls) all st e =
    let one : is_line x ≡ true = all 0 x (omega arith) in
    let first : x ≡ line_text p l = sym (line_is x one) ∙ ap (λ w. w ++ 10 ∷ []) st.0 in
    ap (λ w. w ++ P.joined xs) first ∙ ap (λ w. line_text p l ++ w) (starts_text p xs ls (λ k d less. all (suc k) d (omega (arith, less))) st.2 (omega (arith, e)))

text_many : (frame more : List (List ℕ)) (r : Read) (c : Codes) → Framed frame r → length more ≡ length (main_lines (headed r) c ++ end_lines) → length (text_lines (with_body (headed r) c) r.prelude r.bodies) ≡ length (frame ++ more)
text_many frame more r c f e =
    let p = with_body (headed r) c in
    let h = headed r in
    let a = ap length (text_is p r.prelude r.bodies) ∙ length-append (frame_lines p r.prelude r.bodies) (behind_frame p) in
    let b = frame_length frame r c f in
    let d = ap (λ ls. length (ls ++ end_lines)) (spelled_same h c 1 outermost c) in
    a ∙ ap (λ n. n + length (behind_frame p)) b ∙ ap (λ n. length frame + n) (d ∙ sym e) ∙ sym (length-append frame more)

pub record IsText (frame more : List (List ℕ)) (r : Read) (c : Codes) : Type 0 where
  pub kept : all_kept (text_lines (with_body (headed r) c) r.prelude r.bodies) ≡ true
  pub made : IsWellMade (with_body (headed r) c)
  pub text : P.joined (frame ++ more) ≡ text_of (with_body (headed r) c) (text_lines (with_body (headed r) c) r.prelude r.bodies)

pub is_text : (frame more : List (List ℕ)) (r : Read) (c : Codes) → Framed frame r → All (λ l. is_line l ≡ true) more → Starts (headed r) (map bare more) (main_lines (headed r) c ++ end_lines) → length more ≡ length (main_lines (headed r) c ++ end_lines) → IsText frame more r c
is_text frame more r c f all st e =
    let p = with_body (headed r) c in
    let spell = fits_head frame more r c f st in
    let many = text_many frame more r c f e in
    let kept = starts_kept p (map bare (frame ++ more)) (text_lines p r.prelude r.bodies) spell (many ∙ sym (length_map bare (frame ++ more))) in
    record {
      kept = kept;
      made = made_where_kept p r.prelude r.bodies kept;
      text = starts_text p (frame ++ more) (text_lines p r.prelude r.bodies) (All-append (λ l. is_line l ≡ true) frame more f.each all) spell many;
    }

-- ---- the tables are well made

abbrev end_texts : List (List ℕ)
end_texts = P.line 1 (codes "MPI_Finalize();") ∷ P.line 1 (codes "return 0;") ∷ P.line 0 (codes "}") ∷ []

pub has_head : (frame : List (List ℕ)) (r : Read) → Framed frame r → HasHead (headed r)
has_head frame r f =
    let A : List ℕ → Type 0 = λ l. is_line l ≡ true in
    let none : All A [] = λ k d less. absurd (omega (arith, less)) in
    let rows : All (λ l. is_line l ≡ true) end_texts =
    All-cons A (P.line 1 (codes "MPI_Finalize();")) (P.line 1 (codes "return 0;") ∷ P.line 0 (codes "}") ∷ []) refl (All-cons A (P.line 1 (codes "return 0;")) (P.line 0 (codes "}") ∷ []) refl (All-cons A (P.line 0 (codes "}")) [] refl none)) in
    let t = is_text frame end_texts r nothing f rows (refl, refl, (refl, refl, (refl, refl, tt))) refl in
    record { roles = t.made.roles; labels = t.made.labels; kernels = t.made.kernels }
