-- Lines of statements, one after the other.
use Rattle.std.proofs.Common.{◌≡◌, ℕ, zero, suc, ◌+◌, ◌≤◌, Bool, true, false, List, [], ◌∷◌, ◌++◌, map, length, Option, Some, None, refl, sym, ap, subst, ◌∙◌, arith, ◌⊎◌, inl, inr, length-append, nat_eq, not}
use Rattle.std.specs.Prelude.{All, codes, ◌&&◌}
use Rattle.std.specs.List.{starts_with}
use Rattle.std.proofs.lemmas.List.Elements.{All-push}
use Rattle.std.proofs.lemmas.Option.{same_Some}
use Rattle.pb_local.specs.Pieces as P
use Rattle.pb_local.specs.Tree.{Codes, Program}
use Rattle.pb_ctree.specs.Frame.{end_lines}
use Rattle.pb_ctree.specs.Lines.{Item, raw, close, else_open, if_open, else_if_open, for_open, own_is, loop_open, goto, makes, root_makes, takes, root_takes, mpi_send, mpi_recv, mpi_barrier, mpi_bcast, mpi_reduce, mpi_allreduce, calls, chooses, probe, test_open, else_test_open, picks, aborts, pick_open, else_pick_open, item_text, Line, line}
use Rattle.pb_ctree.specs.Texts.{line_bytes, Starts}
use Rattle.pb_cread_lines.specs.Fits.{FitsNumber, Fits}
use Rattle.pb_cread_lines.specs.Head.{HasHead}
use Rattle.pb_cread_lines.specs.Reading.{IsLine}
use Rattle.pb_cread_frame.specs.Reading.{same_line}
use Rattle.pb_cread_frame.specs.Rows.{is_line, bare}
use Rattle.pb_cread_frame.proofs.Shapes.{line_is}
use Rattle.pb_cread_frame.proofs.Turns.{same_refl, same_is}
use Rattle.pb_cread_statements.specs.Fronts.{Begins, Are, main_lines}
use Rattle.pb_cread_statements.specs.Laws.{place_of}
use Rattle.pb_cread_statements.specs.Reading.{State, Place, nothing_read, goes_on, then_read, read, open_braces}
use Rattle.pb_cread_statements.proofs.Fitted.{fits}
use Rattle.pb_cread_statements.proofs.Laws.{reads_fronts}
use Rattle.pb_cread.specs.Limits.{open_behind, begun_behind, IsWithin}
use Rattle.pb_cread.specs.Reached.{with_body, finalize, Shows, Stated, GoesBy}
use Rattle.pb_cread.proofs.Counts.{counts, none_within, within_one}
use Rattle.pb_cread.proofs.Taken.{bares_push}

-- ---- lists of lines

pub starts_front : (p : Program) (xs ys : List (List ℕ)) (ls : List Line) → Starts p (xs ++ ys) ls → Starts p xs ls
starts_front p [] ys ls st = tt
starts_front p (x ∷ xs) ys [] st = absurd st
starts_front p (x ∷ xs) ys (l ∷ ls) st = (st.0, st.1, starts_front p xs ys ls st.2)

pub starts_more : (p : Program) (xs : List (List ℕ)) (ls ms : List Line) → Starts p xs ls → Starts p xs (ls ++ ms)
starts_more p [] ls ms st = tt
starts_more p (x ∷ xs) [] ms st = absurd st
starts_more p (x ∷ xs) (l ∷ ls) ms st = (st.0, st.1, starts_more p xs ls ms st.2)

pub starts_both : (p : Program) (xs ys : List (List ℕ)) (ls ms : List Line) → Starts p xs ls → length xs ≡ length ls → Starts p ys ms → Starts p (xs ++ ys) (ls ++ ms)
starts_both p [] ys [] ms st e su = su
starts_both p [] ys (l ∷ ls) ms st e su = absurd cc
starts_both p (x ∷ xs) ys [] ms st e su = absurd st
starts_both p (x ∷ xs) ys (l ∷ ls) ms st e su = (st.0, st.1, starts_both p xs ys ls ms st.2 (omega (arith, e)) su)

pub starts_behind : (p : Program) (xs ys : List (List ℕ)) (ls ms : List Line) → Starts p (xs ++ ys) (ls ++ ms) → length xs ≡ length ls → Starts p ys ms
starts_behind p [] ys [] ms st e = st
starts_behind p [] ys (l ∷ ls) ms st e = absurd cc
starts_behind p (x ∷ xs) ys [] ms st e = absurd cc
starts_behind p (x ∷ xs) ys (l ∷ ls) ms st e = starts_behind p xs ys ls ms st.2 (omega (arith, e))

pub starts_within : (p : Program) (xs : List (List ℕ)) (ls : List Line) → Starts p xs ls → length xs ≤ length ls
starts_within p [] ls st = omega arith
starts_within p (x ∷ xs) [] st = absurd st
starts_within p (x ∷ xs) (l ∷ ls) st = let r = starts_within p xs ls st.2 in omega (arith, r)

-- the next line is within the first list, or the first of the second
pub seam : (p : Program) (xs : List (List ℕ)) (b : List ℕ) (ls ms : List Line) → Starts p xs ls → Starts p (xs ++ b ∷ []) (ls ++ ms) → Starts p (xs ++ b ∷ []) ls ⊎ (length xs ≡ length ls)
seam p [] b [] ms st su = inr refl
seam p [] b (l ∷ ls) ms st su = inl (su.0, su.1, tt)
seam p (x ∷ xs) b [] ms st su = absurd st
seam p (x ∷ xs) b (l ∷ ls) ms st su = on (seam p xs b ls ms st.2 su.2) where
  on : Starts p (xs ++ b ∷ []) ls ⊎ (length xs ≡ length ls) → Starts p ((x ∷ xs) ++ b ∷ []) (l ∷ ls) ⊎ (length (x ∷ xs) ≡ length (l ∷ ls))
  on (inl r) = inl (st.0, st.1, r)
  on (inr e) = inr (ap (λ n. suc n) e)

pub begins_front : (items more : List Place) (ls : List Line) → Begins (items ++ more) ls → Begins items ls
begins_front [] more ls b = tt
begins_front (i ∷ is) more [] b = absurd b
begins_front (i ∷ is) more (l ∷ ls) b = (b.0, b.1, b.2, begins_front is more ls b.3)

pub begins_are : (items : List Place) (ls : List Line) → Begins items ls → length items ≡ length ls → Are items ls
begins_are [] [] b e = tt
begins_are [] (l ∷ ls) b e = absurd cc
begins_are (i ∷ is) [] b e = absurd b
begins_are (i ∷ is) (l ∷ ls) b e = (b.0, b.1, b.2, begins_are is ls b.3 (omega (arith, e)))

pub shows_many : (p : Program) (lines : List (List ℕ)) (items : List Place) → Shows p lines items → length lines ≡ length items
shows_many p [] [] s = refl
shows_many p [] (i ∷ is) s = absurd s
shows_many p (l ∷ ls) [] s = absurd s
shows_many p (l ∷ ls) (i ∷ is) s = ap (λ n. suc n) (shows_many p ls is s.1)

pub shows_push : (p : Program) (lines : List (List ℕ)) (items : List Place) (l : List ℕ) (i : Place) → Shows p lines items → bare l ≡ line_bytes p (line i.depth i.item true) → Shows p (lines ++ l ∷ []) (items ++ i ∷ [])
shows_push p [] [] l i s e = (e, tt)
shows_push p [] (j ∷ js) l i s e = absurd s
shows_push p (k ∷ ks) [] l i s e = absurd s
shows_push p (k ∷ ks) (j ∷ js) l i s e = (s.0, shows_push p ks js l i s.1 e)

pub shows_starts : (p : Program) (lines : List (List ℕ)) (items : List Place) (ls : List Line) → Shows p lines items → Begins items ls → Starts p (map bare lines) ls
shows_starts p [] [] ls s b = tt
shows_starts p [] (i ∷ is) ls s b = absurd s
shows_starts p (l ∷ ls) [] ms s b = absurd s
shows_starts p (l ∷ ls) (i ∷ is) [] s b = absurd b
shows_starts p (l ∷ ls) (i ∷ is) (m ∷ ms) s b = (s.0 ∙ ap (λ d. P.indent d ++ item_text p i.item) b.0 ∙ ap (λ x. P.indent m.depth ++ item_text p x) b.1, b.2, shows_starts p ls is ms s.1 b.3)

-- ---- the next line of some statements

record Next (p : Program) (b : List ℕ) (items : List Place) (ls : List Line) : Type 0 where
  line : Line
  is : b ≡ line_bytes p line
  begins : Begins (items ++ place_of line.depth line.item ∷ []) ls

next_of : (p : Program) (xs : List (List ℕ)) (b : List ℕ) (items : List Place) (ls : List Line) → length xs ≡ length items → Starts p (xs ++ b ∷ []) ls → Begins items ls → Next p b items ls
next_of p [] b [] [] e st bs = absurd st
next_of p [] b [] (l ∷ ls) e st bs = record { line = l; is = st.0; begins = (refl, refl, st.1, tt) }
next_of p [] b (i ∷ is) ls e st bs = absurd cc
next_of p (x ∷ xs) b [] ls e st bs = absurd cc
next_of p (x ∷ xs) b (i ∷ is) [] e st bs = absurd st
next_of p (x ∷ xs) b (i ∷ is) (l ∷ ls) e st bs =
    let r = next_of p xs b is ls (omega (arith, e)) st.2 bs.3 in
    record { line = r.line; is = r.is; begins = (bs.0, bs.1, bs.2, r.begins) }

first_read : (p : Program) (o : Option State) (is : List Place) (t : State) → then_read o (read p is) ≡ Some t → (n : State) × (o ≡ Some n) × (read p is n ≡ Some t)
first_read p None is t e = absurd cc
first_read p (Some n) is t e = (n, refl, e)

pub read_append : (p : Program) (a b : List Place) (s t : State) → read p a s ≡ Some t → read p (a ++ b) s ≡ read p b t
read_append p [] b s t e = ap (read p b) (same_Some s t e)
read_append p (i ∷ a) b s t e =
    let r = first_read p (goes_on p s i.depth i.item) a t e in
    ap (λ o. then_read o (read p (a ++ b))) r.1 ∙ read_append p a b r.0 t r.2

pub read_push : (p : Program) (items : List Place) (s t : State) (depth : ℕ) (item : Item) → read p items nothing_read ≡ Some s → goes_on p s depth item ≡ Some t → read p (items ++ place_of depth item ∷ []) nothing_read ≡ Some t
read_push p items s t depth item e goes = read_append p items (place_of depth item ∷ []) nothing_read s e ∙ ap (λ o. then_read o (read p [])) goes

-- a line of statements, with what it is
pub record Going (p : Program) (s : State) (b : List ℕ) (items : List Place) (ls : List Line) : Type 0 where
  pub depth : ℕ
  pub item : Item
  pub is : IsLine p b depth item
  pub next : State
  pub goes : goes_on p s depth item ≡ Some next
  pub number : FitsNumber depth
  pub fit : Fits p item
  pub begins : Begins (items ++ place_of depth item ∷ []) ls

pub going : (p : Program) (lines : List (List ℕ)) (s : State) (l : List ℕ) (c : Codes) → HasHead p → (t : Stated p lines s) → Starts p (map bare (lines ++ l ∷ [])) (main_lines p c) → Going p s (bare l) t.items (main_lines p c)
going p lines s l c head t st =
    let P : List (List ℕ) → Type 0 = λ xs. Starts p xs (main_lines p c) in
    let su : Starts p (map bare lines ++ bare l ∷ []) (main_lines p c) = subst P (bares_push lines l) st in
    let before = t.only c (starts_front p (map bare lines) (bare l ∷ []) (main_lines p c) su) in
    let n = next_of p (map bare lines) (bare l) t.items (main_lines p c) (bare_many lines ∙ shows_many p lines t.items t.shows) su before in
    let r = reads_fronts p c (t.items ++ place_of n.line.depth n.line.item ∷ []) n.begins in
    let again = sym (read_append p t.items (place_of n.line.depth n.line.item ∷ []) nothing_read s t.reads) ∙ r.1 in
    let g = first_read p (goes_on p s n.line.depth n.line.item) [] r.0 again in
    let f = fits p t.items s g.0 n.line.depth n.line.item head t.reads t.many t.deep g.1 in
    record { depth = n.line.depth; item = n.line.item; is = n.is; next = g.0; goes = g.1; number = f.0; fit = f.1; begins = n.begins } where
      bare_many : (xs : List (List ℕ)) → length (map bare xs) ≡ length xs
      bare_many [] = refl
      bare_many (x ∷ xs) = ap (λ n. suc n) (bare_many xs)

-- ---- one line more

pub none_stated : (p : Program) → Stated p [] nothing_read
none_stated p = record {
  items = [];
  shows = tt;
  reads = refl;
  only = λ c st. tt;
  inner = λ k d less. absurd (omega (arith, less));
  deep = (let e : 1 ≤ 256 = omega arith in e);
  many = (let e : 0 ≤ 50000 = omega arith in e);
  within = λ c b. none_within (with_body p c);
}

pub one_stated : (p : Program) (lines : List (List ℕ)) (s : State) (l : List ℕ) (u : State) → HasHead p → Stated p lines s → GoesBy p s (bare l) u → same_line finalize l ≡ false → open_braces u ≤ 256 → u.begun ≤ 50000 → Stated p (lines ++ l ∷ []) u
one_stated p lines s l u head t g inner deep many =
    let items = t.items ++ place_of g.depth g.item ∷ [] in
    let reads = read_push p t.items s u g.depth g.item t.reads g.goes in
    record {
      items = items;
      shows = shows_push p lines t.items l (place_of g.depth g.item) t.shows g.is;
      reads = reads;
      only = λ c st.
          let n = going p lines s l c head t st in
          let same = g.only n.depth n.item n.next n.number n.fit n.is n.goes in
          let A : ℕ → Type 0 = λ d. Begins (t.items ++ place_of d n.item ∷ []) (main_lines p c) in
          let B : Item → Type 0 = λ i. Begins (t.items ++ place_of g.depth i ∷ []) (main_lines p c) in
          subst B same.1 (subst A same.0 n.begins);
      inner = All-push (λ x. same_line finalize x ≡ false) lines l t.inner inner;
      deep = deep;
      many = many;
      within = λ c b.
          let k = counts p c items u reads b in
          let one : length items ≡ length t.items + 1 = length-append t.items (place_of g.depth g.item ∷ []) in
          let A : ℕ → Type 0 = λ n. open_behind (with_body p c) n ≤ 256 in
          let B : ℕ → Type 0 = λ n. begun_behind (with_body p c) n ≤ 50000 in
          let C : ℕ → Type 0 = λ n. IsWithin (with_body p c) n in
          let fits_open : open_behind (with_body p c) (length items) ≤ 256 = (let e = k.braces in omega (arith, e, deep)) in
          let fits_begun : begun_behind (with_body p c) (length items) ≤ 50000 = (let e = k.begun in omega (arith, e, many)) in
          subst C (sym one) (within_one (with_body p c) (length t.items) (t.within c (begins_front t.items _ (main_lines p c) b)) (subst A one fits_open) (subst B one fits_begun));
    }

-- ---- the line behind the statements is none of theirs

abbrev is_statement_text : List ℕ → Bool
is_statement_text [] = false
is_statement_text (c ∷ cs) = not (nat_eq c 32) && not (starts_with nat_eq (c ∷ cs) (codes "MPI_F"))

statement_text : (p : Program) (i : Item) → Fits p i → is_statement_text (item_text p i) ≡ true
statement_text p (raw text) f = absurd f
statement_text p close f = refl
statement_text p else_open f = refl
statement_text p (if_open guards) f = refl
statement_text p (else_if_open guards) f = refl
statement_text p (for_open low high) f = refl
statement_text p (own_is off) f = refl
statement_text p (loop_open id) f = refl
statement_text p (goto id) f = refl
statement_text p (makes label) f = refl
statement_text p (root_makes root label) f = refl
statement_text p (takes label side) f = refl
statement_text p (root_takes root label) f = refl
statement_text p (mpi_send label to) f = refl
statement_text p (mpi_recv label from) f = refl
statement_text p mpi_barrier f = refl
statement_text p (mpi_bcast label root) f = refl
statement_text p (mpi_reduce label op root) f = refl
statement_text p (mpi_allreduce label op) f = refl
statement_text p (calls kernel) f = refl
statement_text p (chooses kernel) f = refl
statement_text p (probe from) f = refl
statement_text p (test_open label guards) f = refl
statement_text p (else_test_open label guards) f = refl
statement_text p (picks branch) f = refl
statement_text p aborts f = refl
statement_text p (pick_open branch) f = refl
statement_text p (else_pick_open branch) f = refl

false_true : false ≡ true → ⊥
false_true f = cc

-- the third byte, and what stands behind two
abbrev third : List ℕ → ℕ
third [] = 0
third (a ∷ []) = 0
third (a ∷ b ∷ []) = 0
third (a ∷ b ∷ c ∷ cs) = c

abbrev behind_two : List ℕ → List ℕ
behind_two [] = []
behind_two (a ∷ []) = []
behind_two (a ∷ b ∷ cs) = cs

no_finalize : (d : ℕ) (text : List ℕ) → is_statement_text text ≡ true → P.indent d ++ text ≡ 32 ∷ 32 ∷ codes "MPI_Finalize();" → ⊥
no_finalize zero text is e = false_true (sym (ap is_statement_text e) ∙ is)
no_finalize (suc zero) text is e = false_true (sym (ap (λ x. is_statement_text (behind_two x)) e) ∙ is)
no_finalize (suc (suc d)) text is e = let f : 32 ≡ 77 = ap third e in absurd (omega (arith, f))

bare_finalize : (l : List ℕ) → is_line l ≡ true → same_line finalize l ≡ true → bare l ≡ 32 ∷ 32 ∷ codes "MPI_Finalize();"
bare_finalize l one e = sym (ap bare (same_is finalize l e))

-- a spelling goes on with this line where its statements end
pub at_end : (p : Program) (lines : List (List ℕ)) (s : State) (l : List ℕ) (c : Codes) → HasHead p → Stated p lines s → is_line l ≡ true → same_line finalize l ≡ true → Starts p (map bare lines) (main_lines p c) → Starts p (map bare (lines ++ l ∷ [])) (main_lines p c ++ end_lines) → length (map bare lines) ≡ length (main_lines p c)
at_end p lines s l c head t one is st su =
    let P : List (List ℕ) → Type 0 = λ xs. Starts p xs (main_lines p c ++ end_lines) in
    on (seam p (map bare lines) (bare l) (main_lines p c) end_lines st (subst P (bares_push lines l) su)) where
      on : Starts p (map bare lines ++ bare l ∷ []) (main_lines p c) ⊎ (length (map bare lines) ≡ length (main_lines p c)) → length (map bare lines) ≡ length (main_lines p c)
      on (inr e) = e
      on (inl sv) =
          let Q : List (List ℕ) → Type 0 = λ xs. Starts p xs (main_lines p c) in
          let g = going p lines s l c head t (subst Q (sym (bares_push lines l)) sv) in
          absurd (no_finalize g.depth (item_text p g.item) (statement_text p g.item g.fit) (sym g.is ∙ bare_finalize l one is))

-- the lines of a spelling before that one are its statements'
pub inner_lines : (p : Program) (lines : List (List ℕ)) (ls : List Line) → All (λ l. is_line l ≡ true) lines → All (λ l. same_line finalize l ≡ false) lines → Starts p (map bare lines) (ls ++ end_lines) → Starts p (map bare lines) ls
inner_lines p [] ls all inner st = tt
inner_lines p (x ∷ xs) [] all inner st =
    let one : is_line x ≡ true = all 0 x (omega arith) in
    let not_it : same_line finalize x ≡ false = inner 0 x (omega arith) in
    let is : finalize ≡ x = sym (ap (λ w. w ++ 10 ∷ []) st.0) ∙ line_is x one in
    let yes : same_line finalize x ≡ true = sym (ap (same_line finalize) is) ∙ same_refl finalize in
    absurd (both yes not_it) where
      both : same_line finalize x ≡ true → same_line finalize x ≡ false → ⊥
      both a b = cc
inner_lines p (x ∷ xs) (l ∷ ls) all inner st = (st.0, st.1, inner_lines p xs ls (λ k d less. all (suc k) d (omega (arith, less))) (λ k d less. inner (suc k) d (omega (arith, less))) st.2)
