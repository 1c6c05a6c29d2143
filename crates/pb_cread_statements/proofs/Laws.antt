-- Lines that are read, and the statements that they spell.
use Rattle.std.proofs.Common.{◌≡◌, ℕ, ◌+◌, Bool, true, false, cond, List, [], ◌∷◌, ◌++◌, length, take, Option, Some, None, refl, sym, ap, subst, ◌∙◌, append_assoc, append-nil, arith, eqb-true}
use Rattle.std.specs.Prelude.{nat_eq, ◌&&◌}
use Rattle.pb_local.specs.Tree.{Code, codes_of, Program, size_all}
use Rattle.pb_local.specs.WellMade.{loops_in}
use Rattle.pb_ctree.specs.Lines.{Item, Line, line}
use Rattle.pb_cread_statements.specs.Marks.{marks_all, begun_in, counted, opens, closes}
use Rattle.pb_cread_statements.specs.Reading.{Wanted, statement, Frame, State, state, Place, nothing_read, place, rule, step, goes_on, then_read, read, finished, open_braces}
use Rattle.pb_cread_statements.specs.Fronts.{Begins, Are, main_lines, opened_in, closed_in}
use Rattle.pb_cread_statements.specs.Laws.{place_of, ReadsStatements, ReadsFronts, IsFrontThatIsRead, AreLinesThatAreRead, RefusesNoFront, UnfinishedIsNoWhole, CountsBraces}
use Rattle.pb_cread_statements.proofs.Small.{left, right, eq_self}
use Rattle.pb_cread_statements.proofs.Small as Small
use Rattle.pb_cread_statements.proofs.Follow.{Follows}
use Rattle.pb_cread_statements.proofs.Along.{list_of, codes_again, all}
use Rattle.pb_cread_statements.proofs.Written.{written, IsGood, Adds}
use Rattle.pb_cread_statements.proofs.Steps.{grows}
use Rattle.pb_cread_statements.proofs.Closed.{closed, every_at}
use Rattle.pb_cread_statements.proofs.Balanced.{number, Balanced, balanced}

-- ---- lines of statements are read

goes_along : (p : Program) (s n : State) (i : Place) (l : Line) → i.depth ≡ l.depth → i.item ≡ l.item → goes_on p s l.depth l.item ≡ Some n → goes_on p s i.depth i.item ≡ Some n
goes_along p s n i l d is goes = ap (λ x. goes_on p s x i.item) d ∙ ap (goes_on p s l.depth) is ∙ goes

are_read : (p : Program) (is : List Place) (ls : List Line) (ms : List Bool) (s t : State) → Are is ls → Follows p s ls ms t → read p is s ≡ Some t
are_read p [] [] [] s t a f = ap (λ x. Some x) f
are_read p [] [] (m ∷ ms) s t a f = absurd f
are_read p [] (l ∷ ls) ms s t a f = absurd a
are_read p (i ∷ is) [] ms s t a f = absurd a
are_read p (i ∷ is) (l ∷ ls) [] s t a f = absurd f
are_read p (i ∷ is) (l ∷ ls) (m ∷ ms) s t a f =
    let r = f a.2 in
    ap (λ o. then_read o (read p is)) (goes_along p s r.0 i l a.0 a.1 r.1) ∙ are_read p is ls ms r.0 t a.3 r.3

count_on : (m : Bool) (a b x : ℕ) → b ≡ counted m a → b + x ≡ a + counted m x
count_on true a b x e = omega (arith, e)
count_on false a b x e = omega (arith, e)

begin_read : (p : Program) (is : List Place) (ls : List Line) (ms : List Bool) (s t : State) → Begins is ls → Follows p s ls ms t → (u : State) × (read p is s ≡ Some u) × (u.begun ≡ s.begun + begun_in (take (length is) ms))
begin_read p [] ls ms s t a f = (s, refl, omega arith)
begin_read p (i ∷ is) [] ms s t a f = absurd a
begin_read p (i ∷ is) (l ∷ ls) [] s t a f = absurd f
begin_read p (i ∷ is) (l ∷ ls) (m ∷ ms) s t a f =
    let n = f a.2 in
    let r = begin_read p is ls ms n.0 t a.3 n.3 in
    (r.0, ap (λ o. then_read o (read p is)) (goes_along p s n.0 i l a.0 a.1 n.1) ∙ r.1, r.2 ∙ count_on m s.begun n.0.begun (begun_in (take (length is) ms)) n.2)

pub reads_statements : ReadsStatements
reads_statements p c items are =
    let t = state statement (list_of c) [] (0 + loops_in c) (0 + size_all c) in
    (t, are_read p items (main_lines p c) (marks_all p c) nothing_read t are (all p c [] [] 0 0), list_of c, refl, codes_again c, omega arith)

pub reads_fronts : ReadsFronts
reads_fronts p c items begins =
    let r = begin_read p items (main_lines p c) (marks_all p c) nothing_read _ begins (all p c [] [] 0 0) in
    (r.0, r.1, r.2 ∙ omega arith)

-- ---- what was read is a front

when_both : (b : Bool) (o : Option State) (t : State) → cond b o None ≡ Some t → (b ≡ true) × (o ≡ Some t)
when_both true o t e = (refl, e)
when_both false o t e = absurd cc

goes_sound : (p : Program) (s t : State) (depth : ℕ) (i : Item) → IsGood p s → goes_on p s depth i ≡ Some t → Adds p s t (line depth i true)
goes_sound p s t depth i h e =
    let r = when_both (nat_eq depth (place s i) && rule p s i) (step p s i) t e in
    let at_place = Small.left (nat_eq depth (place s i)) (rule p s i) r.0 in
    let keeps = Small.right (nat_eq depth (place s i)) (rule p s i) r.0 in
    let adds = every_at (λ t. Adds p s t (line (place s i) i (rule p s i))) (step p s i) t r.1 (grows p s.wanted s.done s.stack s.loops s.begun i h) in
    subst (λ b. Adds p s t (line depth i b)) keeps (subst (λ x. Adds p s t (line x i (rule p s i))) (sym (eqb-true depth (place s i) at_place)) adds)

abbrev pub kept_lines : List Place → List Line
kept_lines [] = []
kept_lines (i ∷ is) = line i.depth i.item true ∷ kept_lines is

-- a line that was read first
first_read : (p : Program) (o : Option State) (is : List Place) (t : State) → then_read o (read p is) ≡ Some t → (n : State) × (o ≡ Some n) × (read p is n ≡ Some t)
first_read p None is t e = absurd cc
first_read p (Some n) is t e = (n, refl, e)

read_sound : (p : Program) (is : List Place) (s t : State) → IsGood p s → read p is s ≡ Some t → (written p t ≡ written p s ++ kept_lines is) × IsGood p t
read_sound p [] s t h e =
    let same = some_is s t e in
    (ap (written p) (sym same) ∙ sym (append-nil (written p s)), subst (IsGood p) same h) where
      some_is : (s t : State) → ◌≡◌ {A = Option State} (Some s) (Some t) → s ≡ t
      some_is s t e = cc
read_sound p (i ∷ is) s t h e =
    let r = first_read p (goes_on p s i.depth i.item) is t e in
    let adds = goes_sound p s r.0 i.depth i.item h r.1 in
    let rest = read_sound p is r.0 t adds.is_good r.2 in
    (rest.0 ∙ ap (λ x. x ++ kept_lines is) adds.line ∙ append_assoc (written p s) (line i.depth i.item true ∷ []) (kept_lines is), rest.1)

good_start : (p : Program) → IsGood p nothing_read
good_start p = record { loops = refl; fits = tt }

begins_kept : (is : List Place) (tail : List Line) → Begins is (kept_lines is ++ tail)
begins_kept [] tail = tt
begins_kept (i ∷ is) tail = (refl, refl, refl, begins_kept is tail)

are_kept : (is : List Place) → Are is (kept_lines is)
are_kept [] = tt
are_kept (i ∷ is) = (refl, refl, refl, are_kept is)

pub is_front : IsFrontThatIsRead
is_front p items s e =
    let r = read_sound p items nothing_read s (good_start p) e in
    let c = closed p s.wanted s.done s.stack s.loops s.begun r.1 in
    (c.0, subst (Begins items) (ap (λ x. x ++ c.1) (sym r.0) ∙ sym c.2) (begins_kept items c.1))

-- nothing is open
finished_lines : (p : Program) (w : Wanted) (done : List Code) (stack : List Frame) (n k : ℕ) (now : List Code) → finished (state w done stack n k) ≡ Some now → written p (state w done stack n k) ≡ main_lines p (codes_of now)
finished_lines p statement done [] n k now e = append-nil _ ∙ ap (λ x. main_lines p (codes_of x)) (some_is done now e) where
  some_is : (a b : List Code) → ◌≡◌ {A = Option (List Code)} (Some a) (Some b) → a ≡ b
  some_is a b e = cc
finished_lines p other done stack n k now e = absurd cc

pub are_lines : AreLinesThatAreRead
are_lines p items s done e f =
    let r = read_sound p items nothing_read s (good_start p) e in
    subst (Are items) (sym r.0 ∙ finished_lines p s.wanted s.done s.stack s.loops s.begun done f) (are_kept items)

-- ---- what isn't read is none

read_append : (p : Program) (a b : List Place) (s t : State) → read p a s ≡ Some t → read p (a ++ b) s ≡ read p b t
read_append p [] b s t e = ap (read p b) (some_is s t e) where
  some_is : (s t : State) → ◌≡◌ {A = Option State} (Some s) (Some t) → s ≡ t
  some_is s t e = cc
read_append p (i ∷ a) b s t e =
    let r = first_read p (goes_on p s i.depth i.item) a t e in
    ap (λ o. then_read o (read p (a ++ b))) r.1 ∙ read_append p a b r.0 t r.2

not_both : {A : Type 0} (o : Option A) (t : A) → o ≡ Some t → o ≡ None → ⊥
not_both o t e f = none_some t (sym f ∙ e) where
  none_some : {A : Type 0} (t : A) → ◌≡◌ {A = Option A} None (Some t) → ⊥
  none_some t e = cc

pub refuses : RefusesNoFront
refuses p items s depth item e none front =
    let r = reads_fronts p front.0 (items ++ place_of depth item ∷ []) front.1 in
    not_both (read p (items ++ place_of depth item ∷ []) nothing_read) r.0 r.1 (read_append p items (place_of depth item ∷ []) nothing_read s e ∙ ap (λ o. then_read o (read p [])) none)

pub no_whole : UnfinishedIsNoWhole
no_whole p items s c e none are =
    let r = reads_statements p c items are in
    not_both (finished r.0) r.2 r.3 (ap finished (some_is r.0 s (sym r.1 ∙ e)) ∙ none) where
      some_is : (s t : State) → ◌≡◌ {A = Option State} (Some s) (Some t) → s ≡ t
      some_is s t e = cc

-- ---- braces

goes_balanced : (p : Program) (s t : State) (depth : ℕ) (i : Item) → goes_on p s depth i ≡ Some t → Balanced s i t
goes_balanced p s t depth i e =
    let r = when_both (nat_eq depth (place s i) && rule p s i) (step p s i) t e in
    every_at (Balanced s i) (step p s i) t r.1 (balanced p s.wanted s.done s.stack s.loops s.begun i)

add_number : (b : Bool) (n : ℕ) → counted b n ≡ number b + n
add_number true n = omega arith
add_number false n = omega arith

balanced_all : (p : Program) (is : List Place) (s t : State) → read p is s ≡ Some t → open_braces t + closed_in is ≡ open_braces s + opened_in is
balanced_all p [] s t e = ap (λ x. open_braces x + 0) (sym (some_is s t e)) where
  some_is : (s t : State) → ◌≡◌ {A = Option State} (Some s) (Some t) → s ≡ t
  some_is s t e = cc
balanced_all p (i ∷ is) s t e =
    let r = first_read p (goes_on p s i.depth i.item) is t e in
    omega (arith, goes_balanced p s r.0 i.depth i.item r.1, balanced_all p is r.0 t r.2, add_number (closes i.item) (closed_in is), add_number (opens i.item) (opened_in is))

pub counts_braces : CountsBraces
counts_braces p items s e = balanced_all p items nothing_read s e
