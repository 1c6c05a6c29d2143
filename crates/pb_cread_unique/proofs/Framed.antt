-- A spelling's lines before its statements, and what they settle.
use Rattle.std.proofs.Common.{◌≡◌, ℕ, ◌+◌, ◌≤◌, Bool, true, false, List, [], ◌∷◌, ◌++◌, map, length, take, drop, refl, ap, subst, ◌∙◌, arith, append-nil, length-append}
use Rattle.std.proofs.lemmas.List.{take-append-drop, length-take-le, drop_all}
use Rattle.pb_local.specs.Tree.{Program}
use Rattle.pb_local.specs.WellMade.{outermost}
use Rattle.pb_ctree.specs.Frame.{end_lines, text_lines}
use Rattle.pb_cread_frame.specs.Ahead.{Shown, ahead, Whole, whole, spelled_body, words_bodies, in_functions}
use Rattle.pb_cread_frame.specs.Frames.{frame_lines, behind_frame, rest_of, shown_of}
use Rattle.pb_cread_frame.specs.Laws as K
use Rattle.pb_cread_frame.specs.Reading.{Read, State, start, start_with, is_done}
use Rattle.pb_cread_frame.proofs.Folds.{reads_fronts, starts_texts}
use Rattle.pb_cread_frame.proofs.Framed.{text_is}
use Rattle.pb_cread_statements.specs.Fronts.{main_lines}
use Rattle.pb_cread.specs.Faults.{Spell}
use Rattle.pb_cread.specs.Reached.{headed, Framed}
use Rattle.pb_cread.proofs.Ahead.{HasLine, some_ahead, whole_done}
use Rattle.pb_cread.proofs.Heads.{Only, starts_begins, frame_many}
use Rattle.pb_cread.proofs.Parted.{parted}
use Rattle.pb_cread.proofs.Tables.{spelled_same}
use Rattle.pb_cread_frame.specs.Ahead as A
use Rattle.pb_cread_unique.proofs.Rows.{AreRows, rows_front}

-- ---- they are read

begins_first : (xs ys : List (List ℕ)) (us vs : List Shown) → length xs ≡ length us → K.Begins (xs ++ ys) (us ++ vs) → K.Begins xs us
begins_first [] ys us vs e b = tt
begins_first (x ∷ xs) ys [] vs e b = absurd cc
begins_first (x ∷ xs) ys (u ∷ us) vs e b = (b.0, b.1, begins_first xs ys us vs (omega (arith, e)) b.2)

-- where nothing is ahead, the statements come next
done_where_none : (s : State) (q : A.Rest) → ahead s q ≡ [] → is_done s ≡ true
done_where_none s q none = at (is_done s) refl where
  at : (b : Bool) → is_done s ≡ b → b ≡ true
  at true e = refl
  at false e = absurd (subst HasLine none (some_ahead s q e))

pub record Headed (frame : List (List ℕ)) : Type 0 where
  pub read : Read
  pub framed : Framed frame read

pub headed_by : (p : Program) (prelude : List ℕ) (bodies : List (List ℕ)) (frame more : List (List ℕ)) → AreRows (frame ++ more) → Spell (frame ++ more) p prelude bodies → length frame ≡ length (frame_lines p prelude bodies) → Headed frame
headed_by p prelude bodies frame more all spell many =
    let q = rest_of p prelude bodies in
    let tail = map (shown_of p) (behind_frame p) in
    let P : List Shown → Type 0 = λ xs. K.Begins (frame ++ more) xs in
    let b = subst P (starts_texts p prelude bodies) (starts_begins p (frame ++ more) (text_lines p prelude bodies) all spell) in
    let long : length frame ≡ length (ahead start q) = many ∙ frame_many p prelude bodies in
    let r = reads_fronts frame start q (begins_first frame more (ahead start q) tail long b) in
    let none : ahead r.next r.arrives.rest ≡ [] = r.arrives.lines ∙ drop_all (length frame) (ahead start q) (omega (arith, long)) in
    record { read = r.next.read; framed = record { each = rows_front frame more all; name = []; state = r.next; reads = r.reads; done = done_where_none r.next r.arrives.rest none; read = refl } }

-- ---- what they settle

pub record Bodied (p : Program) (prelude : List ℕ) (bodies : List (List ℕ)) (r : Read) : Type 0 where
  pub prelude_is : spelled_body prelude ≡ r.prelude
  pub bodies_are : words_bodies p.labels p.kernels bodies ≡ r.bodies

-- a spelling that begins with the lines has these bodies
pub only_bodies : (frame more : List (List ℕ)) (r : Read) (p : Program) (prelude : List ℕ) (bodies : List (List ℕ)) → Framed frame r → AreRows (frame ++ more) → Spell (frame ++ more) p prelude bodies → Bodied p prelude bodies r
only_bodies frame more r p prelude bodies f all spell =
    let q = rest_of p prelude bodies in
    let tail = map (shown_of p) (behind_frame p) in
    let P : List Shown → Type 0 = λ xs. K.Begins (frame ++ more) xs in
    let b = subst P (starts_texts p prelude bodies) (starts_begins p (frame ++ more) (text_lines p prelude bodies) all spell) in
    let w = parted frame more (start_with f.name) f.state q tail f.reads f.done b in
    let same : whole (start_with f.name) q ≡ in_functions r [] r.prelude [] = w.same ∙ whole_done f.state w.rest f.done ∙ ap (λ (x : Read). in_functions x [] x.prelude []) f.read in
    record { prelude_is = ap (λ (x : Whole). x.prelude) same; bodies_are = ap (λ (x : Whole). x.bodies) same ∙ append-nil r.bodies }

-- ---- how many lines stand behind them

text_length : (p : Program) (prelude : List ℕ) (bodies : List (List ℕ)) → length (text_lines p prelude bodies) ≡ length (frame_lines p prelude bodies) + (length (main_lines p p.body) + 3)
text_length p prelude bodies =
    ap length (text_is p prelude bodies) ∙ length-append (frame_lines p prelude bodies) (behind_frame p) ∙ ap (λ n. length (frame_lines p prelude bodies) + n) (length-append (main_lines p p.body) end_lines)

pub frame_within : (p : Program) (prelude : List ℕ) (bodies : List (List ℕ)) → length (frame_lines p prelude bodies) ≤ length (text_lines p prelude bodies)
frame_within p prelude bodies = omega (arith, text_length p prelude bodies)

left_over : (a b c d e f g : ℕ) → a ≡ b → b ≡ c + (d + 3) → c ≡ e → a ≡ e + f → d ≡ g → g ≤ f
left_over a b c d e f g h i j k l = omega (arith, h, i, j, k, l)

-- all lines of statements stand behind those before them
pub statements_within : (frame more : List (List ℕ)) (r : Read) (p : Program) (prelude : List ℕ) (bodies : List (List ℕ)) → Only p prelude bodies r frame more → length (frame ++ more) ≡ length (text_lines p prelude bodies) → length (main_lines (headed r) p.body) ≤ length more
statements_within frame more r p prelude bodies o many =
    let same : length (main_lines p p.body) ≡ length (main_lines (headed r) p.body) = ap (λ (q : Program). length (main_lines q p.body)) o.is ∙ ap length (spelled_same (headed r) p.body 1 outermost p.body) in
    left_over (length (frame ++ more)) (length (text_lines p prelude bodies)) (length (frame_lines p prelude bodies)) (length (main_lines p p.body)) (length frame) (length more) (length (main_lines (headed r) p.body)) many (text_length p prelude bodies) o.many (length-append frame more) same

-- ---- the lines, cut where the statements begin

pub record Cut (lines : List (List ℕ)) (n : ℕ) : Type 0 where
  pub frame : List (List ℕ)
  pub more : List (List ℕ)
  pub parts : frame ++ more ≡ lines
  pub long : length frame ≡ n

pub cut : (lines : List (List ℕ)) (n : ℕ) → n ≤ length lines → Cut lines n
cut lines n within = record { frame = take n lines; more = drop n lines; parts = take-append-drop n lines; long = length-take-le n lines within }
