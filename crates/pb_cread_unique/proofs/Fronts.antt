-- Of two programs with the same tables whose statements the same bytes begin, the lines that begin so are the same.
use Rattle.std.proofs.Common.{◌≡◌, ℕ, zero, suc, ◌<◌, ◌≤◌, Bool, true, false, List, [], ◌∷◌, ◌++◌, length, take, Some, refl, sym, ap, subst, ◌∙◌, arith}
use Rattle.std.specs.Prelude.{◌^◌}
use Rattle.std.proofs.lemmas.List.{take_all}
use Rattle.std.proofs.lemmas.Option.{same_Some}
use Rattle.pb_local.specs.Tree.{Codes, codes_of, Program}
use Rattle.pb_ctree.specs.Frame.{end_lines}
use Rattle.pb_ctree.specs.Lines.{Item, Line}
use Rattle.pb_ctree.specs.Texts.{Starts}
use Rattle.pb_cread_lines.specs.Head.{HasHead}
use Rattle.pb_cread_statements.specs.Fronts.{Begins, Are, main_lines}
use Rattle.pb_cread_statements.specs.Laws.{place_of}
use Rattle.pb_cread_statements.specs.Marks.{counted, marks_all, begun_in}
use Rattle.pb_cread_statements.specs.Reading.{State, Place, nothing_read, goes_on, read, finished}
use Rattle.pb_cread_statements.proofs.Laws.{reads_fronts, reads_statements}
use Rattle.pb_cread_statements.proofs.Marked.{marks_statements}
use Rattle.pb_cread_statements.proofs.Fitted.{Keeps, goes_keeps, read_keeps, first_read, start}
use Rattle.pb_cread_unique.proofs.Alike.{one_item, no_end}

abbrev pub places : List Line → List Place
places [] = []
places (l ∷ ls) = place_of l.depth l.item ∷ places ls

-- ---- one line

same_line : (l m : Line) → l.depth ≡ m.depth → l.item ≡ m.item → l.kept ≡ true → m.kept ≡ true → l ≡ m
same_line l m d i a b =
    ap (λ (x : ℕ). record l { depth = x }) d ∙ ap (λ (x : Item). record l { depth = m.depth; item = x }) i ∙ ap (λ (x : Bool). record l { depth = m.depth; item = m.item; kept = x }) (a ∙ sym b)

both : {x y : Line} {xs ys : List Line} → x ≡ y → xs ≡ ys → x ∷ xs ≡ y ∷ ys
both {y = y} {xs = xs} e f = ap (λ z. z ∷ xs) e ∙ ap (λ zs. y ∷ zs) f

-- ---- lines in a row

-- where the lines are read, and behind them no number of a loop passes 64 bits
pub same_front : (p : Program) (xs : List (List ℕ)) (la lb : List Line) (s ta tb : State) → HasHead p → Keeps p s → ta.loops < 2 ^ 64
    → read p (places (take (length xs) la)) s ≡ Some ta → read p (places (take (length xs) lb)) s ≡ Some tb → Starts p xs (la ++ end_lines) → Starts p xs (lb ++ end_lines)
    → take (length xs) la ≡ take (length xs) lb
same_front p [] la lb s ta tb head keeps few ra rb sa sb = refl
same_front p (x ∷ xs) [] [] s ta tb head keeps few ra rb sa sb = refl
same_front p (x ∷ xs) [] (m ∷ ms) s ta tb head keeps few ra rb sa sb =
    let r = first_read p (goes_on p s m.depth m.item) (places (take (length xs) ms)) tb rb in
    absurd (no_end p s r.0 m.depth m.item head keeps r.1 (sym sb.0 ∙ sa.0))
same_front p (x ∷ xs) (l ∷ ls) [] s ta tb head keeps few ra rb sa sb =
    let r = first_read p (goes_on p s l.depth l.item) (places (take (length xs) ls)) ta ra in
    absurd (no_end p s r.0 l.depth l.item head keeps r.1 (sym sa.0 ∙ sb.0))
same_front p (x ∷ xs) (l ∷ ls) (m ∷ ms) s ta tb head keeps few ra rb sa sb =
    let a = first_read p (goes_on p s l.depth l.item) (places (take (length xs) ls)) ta ra in
    let b = first_read p (goes_on p s m.depth m.item) (places (take (length xs) ms)) tb rb in
    let more = (read_keeps p (places (take (suc (length xs)) (l ∷ ls))) s ta head keeps ra).more in
    let k = goes_keeps p s a.0 l.depth l.item head keeps a.1 in
    let same = one_item p s a.0 b.0 l.depth m.depth l.item m.item head keeps (omega (arith, more, few)) (sym sa.0 ∙ sb.0) a.1 b.1 in
    let next : b.0 ≡ a.0 = same_Some b.0 a.0 (sym b.1 ∙ ap (λ d. goes_on p s d m.item) (sym same.0) ∙ ap (goes_on p s l.depth) (sym same.1) ∙ a.1) in
    let P : State → Type 0 = λ u. read p (places (take (length xs) ms)) u ≡ Some tb in
    both (same_line l m same.0 same.1 sa.1 sb.1) (same_front p xs ls ms a.0 ta tb head k.next few a.2 (subst P next b.2) sa.2 sb.2)

-- ---- the lines of statements

begins_places : (p : Program) (xs : List (List ℕ)) (ls : List Line) → Starts p xs (ls ++ end_lines) → Begins (places (take (length xs) ls)) ls
begins_places p [] ls st = tt
begins_places p (x ∷ xs) [] st = tt
begins_places p (x ∷ xs) (l ∷ ls) st = (refl, refl, st.1, begins_places p xs ls st.2)

counted_less : (m : Bool) (a b : ℕ) → a ≤ b → counted m a ≤ suc b
counted_less true a b le = omega (arith, le)
counted_less false a b le = omega (arith, le)

-- at most as many statements begin as there are lines, and as there are statements
pub begun_lines : (k : ℕ) (ms : List Bool) → begun_in (take k ms) ≤ k
begun_lines zero ms = omega arith
begun_lines (suc k) [] = omega arith
begun_lines (suc k) (m ∷ ms) = counted_less m (begun_in (take k ms)) k (begun_lines k ms)

counted_more : (m : Bool) (a b : ℕ) → a ≤ b → counted m a ≤ counted m b
counted_more true a b le = omega (arith, le)
counted_more false a b le = le

pub begun_all : (k : ℕ) (ms : List Bool) → begun_in (take k ms) ≤ begun_in ms
begun_all zero ms = omega arith
begun_all (suc k) [] = omega arith
begun_all (suc k) (m ∷ ms) = counted_more m (begun_in (take k ms)) (begun_in ms) (begun_all k ms)

-- as many marks as lines
take_marks : (k : ℕ) (ls : List Line) (ms : List Bool) → length ms ≡ length ls → take k ms ≡ take (length (places (take k ls))) ms
take_marks zero ls ms e = refl
take_marks (suc k) [] [] e = refl
take_marks (suc k) [] (m ∷ ms) e = absurd cc
take_marks (suc k) (l ∷ ls) [] e = absurd cc
take_marks (suc k) (l ∷ ls) (m ∷ ms) e = ap (λ zs. m ∷ zs) (take_marks k ls ms (omega (arith, e)))

-- the lines of statements that begin with these bytes are read
pub record IsReadTo (p : Program) (c : Codes) (k : ℕ) : Type 0 where
  pub state : State
  pub reads : read p (places (take k (main_lines p c))) nothing_read ≡ Some state
  pub begun : state.begun ≡ begun_in (take k (marks_all p c))

pub is_read_to : (p : Program) (c : Codes) (xs : List (List ℕ)) → Starts p xs (main_lines p c ++ end_lines) → IsReadTo p c (length xs)
is_read_to p c xs st =
    let ls = main_lines p c in
    let r = reads_fronts p c (places (take (length xs) ls)) (begins_places p xs ls st) in
    record { state = r.0; reads = r.1; begun = r.2 ∙ ap begun_in (sym (take_marks (length xs) ls (marks_all p c) (marks_statements p c).0)) }

-- two programs that the same bytes begin
pub record IsSameTo (p : Program) (a b : Codes) (k : ℕ) : Type 0 where
  pub lines : take k (main_lines p a) ≡ take k (main_lines p b)
  pub begun : begun_in (take k (marks_all p a)) ≡ begun_in (take k (marks_all p b))

pub same_to : (p : Program) (a b : Codes) (xs : List (List ℕ)) → HasHead p → begun_in (take (length xs) (marks_all p a)) < 2 ^ 64 → Starts p xs (main_lines p a ++ end_lines) → Starts p xs (main_lines p b ++ end_lines) → IsSameTo p a b (length xs)
same_to p a b xs head few sa sb =
    let ra = is_read_to p a xs sa in
    let rb = is_read_to p b xs sb in
    let keeps = (read_keeps p (places (take (length xs) (main_lines p a))) nothing_read ra.state head (start p) ra.reads).keeps in
    let lines = same_front p xs (main_lines p a) (main_lines p b) nothing_read ra.state rb.state head (start p) (omega (arith, keeps.loops, ra.begun, few)) ra.reads rb.reads sa sb in
    let one : ra.state ≡ rb.state = same_Some ra.state rb.state (sym ra.reads ∙ ap (λ ls. read p (places ls) nothing_read) lines ∙ rb.reads) in
    record { lines = lines; begun = sym ra.begun ∙ ap (λ (s : State). s.begun) one ∙ rb.begun }

-- ---- all lines of statements

all_are : (p : Program) (xs : List (List ℕ)) (ls : List Line) → length ls ≤ length xs → Starts p xs (ls ++ end_lines) → Are (places ls) ls
all_are p [] [] le st = tt
all_are p [] (l ∷ ls) le st = absurd (omega (arith, le))
all_are p (x ∷ xs) [] le st = tt
all_are p (x ∷ xs) (l ∷ ls) le st = (refl, refl, st.1, all_are p xs ls (omega (arith, le)) st.2)

-- where the bytes are all lines of both, the statements are the same
pub same_statements : (p : Program) (a b : Codes) (xs : List (List ℕ)) → HasHead p → length xs < 2 ^ 64 → length (main_lines p a) ≤ length xs → length (main_lines p b) ≤ length xs
    → Starts p xs (main_lines p a ++ end_lines) → Starts p xs (main_lines p b ++ end_lines) → a ≡ b
same_statements p a b xs head few la lb sa sb =
    let s = same_to p a b xs head (omega (arith, begun_lines (length xs) (marks_all p a), few)) sa sb in
    let lines : main_lines p a ≡ main_lines p b = sym (take_all (length xs) (main_lines p a) la) ∙ s.lines ∙ take_all (length xs) (main_lines p b) lb in
    let P : List Line → Type 0 = λ ls. Are (places ls) (main_lines p b) in
    let ra = reads_statements p a (places (main_lines p a)) (all_are p xs (main_lines p a) la sa) in
    let rb = reads_statements p b (places (main_lines p a)) (subst P (sym lines) (all_are p xs (main_lines p b) lb sb)) in
    let one : ra.0 ≡ rb.0 = same_Some ra.0 rb.0 (sym ra.1 ∙ rb.1) in
    let done : ra.2 ≡ rb.2 = same_Some ra.2 rb.2 (sym ra.3 ∙ ap finished one ∙ rb.3) in
    sym ra.4 ∙ ap codes_of done ∙ rb.4
