-- Which line is at fault where reading stops.
use Rattle.std.proofs.Common.{◌≡◌, ℕ, suc, true, false, List, [], ◌∷◌, ◌++◌, map, length, Option, Some, None, refl, sym, ap, subst, ◌∙◌, arith, append_assoc, append-nil}
use Rattle.std.specs.Prelude.{All}
use Rattle.std.proofs.lemmas.List.Elements.{All-push}
use Rattle.std.proofs.lemmas.Option.{same_Some}
use Rattle.pb_text.specs.declared.place.Place.{Place}
use Rattle.pb_text.specs.Places.{one_more}
use Rattle.pb_local.specs.Tree.{Codes, Program}
use Rattle.pb_ctree.specs.Frame.{end_lines}
use Rattle.pb_ctree.specs.Texts.{Starts, IsFront}
use Rattle.pb_cread_lines.specs.Head.{HasHead}
use Rattle.pb_cread_frame.specs.Reading.{Read, State, step, is_done, start_with, same_line}
use Rattle.pb_cread_frame.specs.Laws as K
use Rattle.pb_cread_frame.specs.Rows.{is_line, bare}
use Rattle.pb_cread_frame.proofs.Fronts.{are_no_fronts}
use Rattle.pb_cread_statements.specs.Fronts.{main_lines}
use Rattle.pb_cread_statements.specs.Reading as M
use Rattle.pb_cread_statements.proofs.Laws.{no_whole}
use Rattle.pb_cread.specs.declared.statements.Step.TheVariants.{On, Deepens, Exceeds}
use Rattle.pb_cread.specs.Faults.{Spell, IsUnexpected, IsTooDeep, IsTooMany, Comes}
use Rattle.pb_cread.specs.Reached.{headed, Taken, InFrame, finalize, InMain, GoesBy, NoneGoes, Does}
use Rattle.pb_cread.specs.Rows.{IsFirst}
use Rattle.pb_cread.proofs.Good.{good_frame, good_main, further, is_next, not_nothing, place_is}
use Rattle.pb_cread.proofs.Heads.{only_head, has_head, length_map}
use Rattle.pb_cread.proofs.Stated.{starts_front, going, one_stated, none_stated, at_end, inner_lines, begins_are, shows_many}
use Rattle.pb_cread.proofs.Taken.{none_taken, one_taken, bares_push}

-- ---- before the statements

pub frame_starts : (text name : List ℕ) → InFrame text text 1 (start_with name)
frame_starts text name = record { lines = []; taken = none_taken text; name = name; reads = refl }

pub frame_goes : (text rest : List ℕ) (n : ℕ) (s t : State) (l m : List ℕ) → InFrame text rest n s → IsFirst rest l m → step s l ≡ Some t → InFrame text m (one_more n) t
frame_goes text rest n s t l m f first goes = record {
  lines = f.lines ++ l ∷ [];
  taken = one_taken text rest n f.lines l m f.taken first;
  name = f.name;
  reads = read_on f.lines l (start_with f.name) s t f.reads goes;
} where
  read_on : (lines : List (List ℕ)) (l : List ℕ) (r s t : State) → K.read lines r ≡ Some s → step s l ≡ Some t → K.read (lines ++ l ∷ []) r ≡ Some t
  read_on [] l r s t e goes = ap (λ (u : State). K.then_read (step u l) (K.read [])) (same_Some r s e) ∙ ap (λ o. K.then_read o (K.read [])) goes
  read_on (x ∷ xs) l r s t e goes = on (step r x) e (λ n f. read_on xs l n s t f goes) where
    on : (o : Option State) → K.then_read o (K.read xs) ≡ Some s → ((n : State) → K.read xs n ≡ Some s → K.read (xs ++ l ∷ []) n ≡ Some t) → K.then_read o (K.read (xs ++ l ∷ [])) ≡ Some t
    on None e others = absurd cc
    on (Some n) e others = others n e

pub frame_stops : (text rest : List ℕ) (n : ℕ) (s : State) (l m : List ℕ) (place : Place) → InFrame text rest n s → IsFirst rest l m → step s l ≡ None → is_done s ≡ false → place.line ≡ n → place.col ≡ 1 → Comes text place IsUnexpected
frame_stops text rest n s l m place f first none some_left a b = record {
  lines = f.lines;
  rest = rest;
  begins = f.taken.begins;
  good = good_frame f.lines f.name s f.taken.begins.each f.reads;
  place_is = place_is place n (length f.lines) a b f.taken.number;
  is = record {
    no_line = λ line more e one front.
        let same : line ≡ l = is_next rest l m line more first e one in
        let A : List ℕ → Type 0 = λ x. IsFront (map bare (f.lines ++ x ∷ [])) in
        are_no_fronts f.name f.lines l s (All-push (λ x. is_line x ≡ true) f.lines l f.taken.begins.each first.is) f.reads some_left none (subst A same front);
    no_end = λ e tree bodies body each spells. not_nothing rest l m first e;
  };
}

-- ---- statements

pub main_starts : (text rest : List ℕ) (n : ℕ) (s : State) (p : Program) → InFrame text rest n s → is_done s ≡ true → headed s.read ≡ p → InMain text rest n s.read p M.nothing_read
main_starts text rest n s p f done is =
    let A : List (List ℕ) → Type 0 = λ xs. Taken text xs rest n in
    record {
      is = is;
      frame = f.lines;
      framed = record { each = f.taken.begins.each; name = f.name; state = s; reads = f.reads; done = done; read = refl };
      lines = [];
      taken = subst A (sym (append-nil f.lines)) f.taken;
      stated = none_stated p;
    }

pub head_of : (text rest : List ℕ) (n : ℕ) (r : Read) (p : Program) (s : M.State) → InMain text rest n r p s → HasHead p
head_of text rest n r p s m = subst HasHead m.is (has_head m.frame r m.framed)

pub main_goes : (text rest : List ℕ) (n : ℕ) (r : Read) (p : Program) (s u : M.State) (l m : List ℕ) → InMain text rest n r p s → IsFirst rest l m → same_line finalize l ≡ false → Does On p s (bare l) u → InMain text m (one_more n) r p u
main_goes text rest n r p s u l m i first inner does =
    let A : List (List ℕ) → Type 0 = λ xs. Taken text xs m (one_more n) in
    record {
      is = i.is;
      frame = i.frame;
      framed = i.framed;
      lines = i.lines ++ l ∷ [];
      taken = subst A (append_assoc i.frame i.lines (l ∷ [])) (one_taken text rest n (i.frame ++ i.lines) l m i.taken first);
      stated = one_stated p i.lines s l u (head_of text rest n r p s i) i.stated does.0 inner does.1 does.2;
    }

-- the lines of statements, each with its line feed
pub rows_behind : (frame lines : List (List ℕ)) → All (λ l. is_line l ≡ true) (frame ++ lines) → All (λ l. is_line l ≡ true) lines
rows_behind [] lines all = all
rows_behind (x ∷ xs) lines all = rows_behind xs lines (λ k d less. all (suc k) d (omega (arith, less)))

-- where a spelling goes on with a line, so do its statements
record Onward (p : Program) (lines : List (List ℕ)) (l : List ℕ) : Type 0 where
  body : Codes
  behind : Starts p (map bare (lines ++ l ∷ [])) (main_lines p body ++ end_lines)
  before : Starts p (map bare lines) (main_lines p body)

onward : (text rest : List ℕ) (n : ℕ) (r : Read) (s : M.State) (i : InMain text rest n r (headed r) s) (l : List ℕ) → is_line l ≡ true → IsFront (map bare ((i.frame ++ i.lines) ++ l ∷ [])) → Onward (headed r) i.lines l
onward text rest n r s i l one front =
    let h = headed r in
    let A : List (List ℕ) → Type 0 = λ xs. Spell xs front.0 front.1 front.2 in
    let rows = rows_behind i.frame i.lines i.taken.begins.each in
    let o = only_head i.frame (i.lines ++ l ∷ []) r front.0 front.1 front.2 i.framed (All-push (λ x. is_line x ≡ true) i.lines l rows one) (subst A (append_assoc i.frame i.lines (l ∷ [])) front.3) in
    let c = front.0.body in
    let B : List (List ℕ) → Type 0 = λ xs. Starts h xs (main_lines h c ++ end_lines) in
    let before = inner_lines h i.lines (main_lines h c) rows i.stated.inner (starts_front h (map bare i.lines) (bare l ∷ []) (main_lines h c ++ end_lines) (subst B (bares_push i.lines l) o.behind)) in
    record { body = c; behind = o.behind; before = before }

pub main_stops : (text rest : List ℕ) (n : ℕ) (r : Read) (p : Program) (s : M.State) (l m : List ℕ) (place : Place) → InMain text rest n r p s → IsFirst rest l m → same_line finalize l ≡ false → NoneGoes p s (bare l) → place.line ≡ n → place.col ≡ 1 → Comes text place IsUnexpected
main_stops text rest n r p s l m place i first inner none a b =
    let C : Program → Type 0 = λ q. InMain text rest n r q s in
    let D : Program → Type 0 = λ q. NoneGoes q s (bare l) in
    stops r s (subst C (sym i.is) i) (subst D (sym i.is) none) where
      stops : (r : Read) (s : M.State) → InMain text rest n r (headed r) s → NoneGoes (headed r) s (bare l) → Comes text place IsUnexpected
      stops r s i none = record {
        lines = i.frame ++ i.lines;
        rest = rest;
        begins = i.taken.begins;
        good = good_main i.frame i.lines r s i.framed i.stated;
        place_is = place_is place n (length (i.frame ++ i.lines)) a b i.taken.number;
        is = record {
          no_line = λ line more e one front.
              let same : line ≡ l = is_next rest l m line more first e one in
              let A : List ℕ → Type 0 = λ x. IsFront (map bare ((i.frame ++ i.lines) ++ x ∷ [])) in
              let o = onward text rest n r s i l first.is (subst A same front) in
              let h = headed r in
              let rows = All-push (λ x. is_line x ≡ true) i.lines l (rows_behind i.frame i.lines i.taken.begins.each) first.is in
              let own = inner_lines h (i.lines ++ l ∷ []) (main_lines h o.body) rows (All-push (λ x. same_line finalize x ≡ false) i.lines l i.stated.inner inner) o.behind in
              let g = going h i.lines s l o.body (head_of text rest n r h s i) i.stated own in
              none g.depth g.item g.next g.number g.fit g.is g.goes;
          no_end = λ e tree bodies body each spells. not_nothing rest l m first e;
        };
      }

-- the line behind the statements, where something is open
pub main_unfinished : (text rest : List ℕ) (n : ℕ) (r : Read) (p : Program) (s : M.State) (l m : List ℕ) (place : Place) → InMain text rest n r p s → IsFirst rest l m → same_line finalize l ≡ true → M.finished s ≡ None → place.line ≡ n → place.col ≡ 1 → Comes text place IsUnexpected
main_unfinished text rest n r p s l m place i first is open_yet a b =
    let C : Program → Type 0 = λ q. InMain text rest n r q s in
    stops r (subst C (sym i.is) i) where
      stops : (r : Read) → InMain text rest n r (headed r) s → Comes text place IsUnexpected
      stops r i = record {
        lines = i.frame ++ i.lines;
        rest = rest;
        begins = i.taken.begins;
        good = good_main i.frame i.lines r s i.framed i.stated;
        place_is = place_is place n (length (i.frame ++ i.lines)) a b i.taken.number;
        is = record {
          no_line = λ line more e one front.
              let same : line ≡ l = is_next rest l m line more first e one in
              let A : List ℕ → Type 0 = λ x. IsFront (map bare ((i.frame ++ i.lines) ++ x ∷ [])) in
              let o = onward text rest n r s i l first.is (subst A same front) in
              let h = headed r in
              let t = i.stated in
              let many = at_end h i.lines s l o.body (head_of text rest n r h s i) t first.is is o.before o.behind in
              let begins = t.only o.body o.before in
              let long : length t.items ≡ length (main_lines h o.body) = sym (length_map bare i.lines ∙ shows_many h i.lines t.items t.shows) ∙ many in
              no_whole h t.items s o.body t.reads open_yet (begins_are t.items (main_lines h o.body) begins long);
          no_end = λ e tree bodies body each spells. not_nothing rest l m first e;
        };
      }

pub main_deepens : (text rest : List ℕ) (n : ℕ) (r : Read) (p : Program) (s u : M.State) (l m : List ℕ) (place : Place) → InMain text rest n r p s → IsFirst rest l m → Does Deepens p s (bare l) u → place.line ≡ n → place.col ≡ 1 → Comes text place IsTooDeep
main_deepens text rest n r p s u l m place i first does a b =
    let C : Program → Type 0 = λ q. InMain text rest n r q s in
    let D : Program → Type 0 = λ q. GoesBy q s (bare l) u in
    deepens r (subst C (sym i.is) i) (subst D (sym i.is) does.0) where
      deepens : (r : Read) → InMain text rest n r (headed r) s → GoesBy (headed r) s (bare l) u → Comes text place IsTooDeep
      deepens r i g =
          let x = further i.frame i.lines l r s u i.framed i.stated g in
          record {
            lines = i.frame ++ i.lines;
            rest = rest;
            begins = i.taken.begins;
            good = good_main i.frame i.lines r s i.framed i.stated;
            place_is = place_is place n (length (i.frame ++ i.lines)) a b i.taken.number;
            is = record { line = l; more = m; next = first.whole; is = first.is; program = x.program; prelude = r.prelude; bodies = r.bodies; spell = x.spell; deep = (let e = x.braces in omega (arith, e, does.1)) };
          }

pub main_exceeds : (text rest : List ℕ) (n : ℕ) (r : Read) (p : Program) (s u : M.State) (l m : List ℕ) (place : Place) → InMain text rest n r p s → IsFirst rest l m → Does Exceeds p s (bare l) u → place.line ≡ n → place.col ≡ 1 → Comes text place IsTooMany
main_exceeds text rest n r p s u l m place i first does a b =
    let C : Program → Type 0 = λ q. InMain text rest n r q s in
    let D : Program → Type 0 = λ q. GoesBy q s (bare l) u in
    exceeds r (subst C (sym i.is) i) (subst D (sym i.is) does.0) where
      exceeds : (r : Read) → InMain text rest n r (headed r) s → GoesBy (headed r) s (bare l) u → Comes text place IsTooMany
      exceeds r i g =
          let x = further i.frame i.lines l r s u i.framed i.stated g in
          record {
            lines = i.frame ++ i.lines;
            rest = rest;
            begins = i.taken.begins;
            good = good_main i.frame i.lines r s i.framed i.stated;
            place_is = place_is place n (length (i.frame ++ i.lines)) a b i.taken.number;
            is = record {
              line = l;
              more = m;
              next = first.whole;
              is = first.is;
              program = x.program;
              prelude = r.prelude;
              bodies = r.bodies;
              spell = x.spell;
              deep = (let e = x.braces in omega (arith, e, does.1));
              many = (let e = x.begun in omega (arith, e, does.2));
            };
          }
