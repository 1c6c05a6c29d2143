-- Of two lines of statements with the same bytes that both go on, one is the other, whatever their numbers.
use Rattle.std.proofs.Common.{◌≡◌, ℕ, zero, suc, ◌<◌, Bool, true, false, List, [], ◌∷◌, ◌++◌, drop, Option, Some, None, refl, sym, ap, ◌∙◌, arith, nat_eq, not}
use Rattle.std.specs.Prelude.{◌^◌, codes, decimal, ◌&&◌}
use Rattle.std.specs.List.{starts_with}
use Rattle.std.proofs.lemmas.Fmt.{decimal_injective}
use Rattle.std.proofs.lemmas.List.{append_cancel_right}
use Rattle.pb_local.specs.Pieces as P
use Rattle.pb_local.specs.Tree.{Program}
use Rattle.pb_ctree.specs.Lines.{Item, raw, close, else_open, if_open, else_if_open, for_open, own_is, loop_open, goto, makes, root_makes, takes, root_takes, mpi_send, mpi_recv, mpi_barrier, mpi_bcast, mpi_reduce, mpi_allreduce, calls, chooses, probe, test_open, else_test_open, picks, aborts, pick_open, else_pick_open, item_text}
use Rattle.pb_cread_lines.specs.declared.read.ReadLine.{ReadLine}
use Rattle.pb_cread_lines.specs.Fits.{FitsNumber, Fits}
use Rattle.pb_cread_lines.specs.Head.{HasHead}
use Rattle.pb_cread_lines.specs.Items.{item_of}
use Rattle.pb_cread_lines.specs.Reading.{line_at}
use Rattle.pb_cread_lines.proofs.Whole.{only_line, no_line}
use Rattle.pb_cread_statements.specs.Reading.{State, goes_on}
use Rattle.pb_cread_statements.proofs.Relabelled.{only_one}
use Rattle.pb_cread_unique.proofs.Held.{tables_of, are_tables}
use Rattle.pb_cread_statements.proofs.Fitted.{FitsAt, Keeps, goes_keeps}

-- ---- the depth

abbrev begins_space : List ℕ → Bool
begins_space [] = false
begins_space (c ∷ cs) = nat_eq c 32

true_false : true ≡ false → ⊥
true_false e = cc

-- where neither text begins with a space, the depths are one
pub same_indent : (d e : ℕ) (x y : List ℕ) → begins_space x ≡ false → begins_space y ≡ false → P.indent d ++ x ≡ P.indent e ++ y → (d ≡ e) × (x ≡ y)
same_indent zero zero x y a b f = (refl, f)
same_indent zero (suc e) x y a b f = absurd (true_false (sym (ap begins_space f) ∙ a))
same_indent (suc d) zero x y a b f = absurd (true_false (ap begins_space f ∙ b))
same_indent (suc d) (suc e) x y a b f =
    let r = same_indent d e x y a b (ap (drop 2) f) in
    (ap (λ n. suc n) r.0, r.1)

-- ---- the text

-- how the text of a line begins
abbrev pub is_statement_text : List ℕ → Bool
is_statement_text [] = false
is_statement_text (c ∷ cs) = not (nat_eq c 32) && not (starts_with nat_eq (c ∷ cs) (codes "MPI_F"))

pub statement_text : (p : Program) (n : ℕ) (i : Item) → FitsAt p n i → is_statement_text (item_text p i) ≡ true
statement_text p n (raw text) f = absurd f
statement_text p n close f = refl
statement_text p n else_open f = refl
statement_text p n (if_open guards) f = refl
statement_text p n (else_if_open guards) f = refl
statement_text p n (for_open low high) f = refl
statement_text p n (own_is off) f = refl
statement_text p n (loop_open id) f = refl
statement_text p n (goto id) f = refl
statement_text p n (makes label) f = refl
statement_text p n (root_makes root label) f = refl
statement_text p n (takes label side) f = refl
statement_text p n (root_takes root label) f = refl
statement_text p n (mpi_send label to) f = refl
statement_text p n (mpi_recv label from) f = refl
statement_text p n mpi_barrier f = refl
statement_text p n (mpi_bcast label root) f = refl
statement_text p n (mpi_reduce label op root) f = refl
statement_text p n (mpi_allreduce label op) f = refl
statement_text p n (calls kernel) f = refl
statement_text p n (chooses kernel) f = refl
statement_text p n (probe from) f = refl
statement_text p n (test_open label guards) f = refl
statement_text p n (else_test_open label guards) f = refl
statement_text p n (picks branch) f = refl
statement_text p n aborts f = refl
statement_text p n (pick_open branch) f = refl
statement_text p n (else_pick_open branch) f = refl

pub dark : (text : List ℕ) → is_statement_text text ≡ true → begins_space text ≡ false
dark [] e = absurd cc
dark (c ∷ cs) e = at (nat_eq c 32) _ e where
  at : (b t : Bool) → (not b && t) ≡ true → b ≡ false
  at true t e = absurd cc
  at false t e = refl

-- ---- the kinds of lines

-- L and g: the lines of loops alone begin so
abbrev first_of : List ℕ → ℕ
first_of [] = 0
first_of (c ∷ cs) = c

abbrev is_loop_text : List ℕ → Bool
is_loop_text text = nat_eq (first_of text) 76

abbrev is_goto_text : List ℕ → Bool
is_goto_text text = nat_eq (first_of text) 103

data Sort (p : Program) (loops : ℕ) (i : Item) : Type 0 where
  begins_loop : (id : ℕ) → i ≡ loop_open id → id ≡ loops → Sort p loops i
  jumps : (id : ℕ) → i ≡ goto id → id < loops → Sort p loops i
  other : Fits p i → is_loop_text (item_text p i) ≡ false → is_goto_text (item_text p i) ≡ false → Sort p loops i

sort_of : (p : Program) (n : ℕ) (i : Item) → FitsAt p n i → Sort p n i
sort_of p n (raw text) f = absurd f
sort_of p n close f = other f refl refl
sort_of p n else_open f = other f refl refl
sort_of p n (if_open guards) f = other f refl refl
sort_of p n (else_if_open guards) f = other f refl refl
sort_of p n (for_open low high) f = other f refl refl
sort_of p n (own_is off) f = other f refl refl
sort_of p n (loop_open id) f = begins_loop id refl f
sort_of p n (goto id) f = jumps id refl f
sort_of p n (makes label) f = other f refl refl
sort_of p n (root_makes root label) f = other f refl refl
sort_of p n (takes label side) f = other f refl refl
sort_of p n (root_takes root label) f = other f refl refl
sort_of p n (mpi_send label to) f = other f refl refl
sort_of p n (mpi_recv label from) f = other f refl refl
sort_of p n mpi_barrier f = other f refl refl
sort_of p n (mpi_bcast label root) f = other f refl refl
sort_of p n (mpi_reduce label op root) f = other f refl refl
sort_of p n (mpi_allreduce label op) f = other f refl refl
sort_of p n (calls kernel) f = other f refl refl
sort_of p n (chooses kernel) f = other f refl refl
sort_of p n (probe from) f = other f refl refl
sort_of p n (test_open label guards) f = other f refl refl
sort_of p n (else_test_open label guards) f = other f refl refl
sort_of p n (picks branch) f = other f refl refl
sort_of p n aborts f = other f refl refl
sort_of p n (pick_open branch) f = other f refl refl
sort_of p n (else_pick_open branch) f = other f refl refl

-- ---- lines with the same text

-- of two lines that fit, one is the other
fitting_same : (p : Program) (s u v : State) (d e : ℕ) (a b : Item) → HasHead p → Fits p a → Fits p b → item_text p a ≡ item_text p b → goes_on p s d a ≡ Some u → goes_on p s e b ≡ Some v → a ≡ b
fitting_same p s u v d e a b head fa fb same ga gb = on (line_at (tables_of p) (item_text p a)) refl where
  small : FitsNumber 0
  small = omega arith

  on : (o : Option ReadLine) → line_at (tables_of p) (item_text p a) ≡ o → a ≡ b
  on None none = absurd (no_line (tables_of p) p (item_text p a) (are_tables p) none head 0 a small fa refl)
  on (Some r) is =
      let x = only_line (tables_of p) p (item_text p a) r (are_tables p) is head 0 a small fa refl in
      let y = only_line (tables_of p) p (item_text p a) r (are_tables p) is head 0 b small fb same in
      sym (only_one p s u d a (item_of r.item) x.1 ga) ∙ only_one p s v e b (item_of r.item) y.1 gb

jump_text : (p : Program) (id : ℕ) → drop 6 (item_text p (goto id)) ≡ decimal id ++ 59 ∷ []
jump_text p id = refl

jumps_same : (p : Program) (i j : ℕ) → i < 2 ^ 64 → j < 2 ^ 64 → item_text p (goto i) ≡ item_text p (goto j) → i ≡ j
jumps_same p i j a b e = decimal_injective i j a b (append_cancel_right (decimal i) (decimal j) (59 ∷ []) (sym (jump_text p i) ∙ ap (drop 6) e ∙ jump_text p j))

same_sort : (p : Program) (s u v : State) (d e : ℕ) (a b : Item) → HasHead p → s.loops < 2 ^ 64 → Sort p s.loops a → Sort p s.loops b → item_text p a ≡ item_text p b → goes_on p s d a ≡ Some u → goes_on p s e b ≡ Some v → a ≡ b
same_sort p s u v d e a b head few (begins_loop i x f) (begins_loop j y g) same ga gb = x ∙ ap (λ n. loop_open n) (f ∙ sym g) ∙ sym y
same_sort p s u v d e a b head few (begins_loop i x f) (jumps j y g) same ga gb = absurd (true_false (sym (ap (λ z. is_loop_text (item_text p z)) x) ∙ ap is_loop_text same ∙ ap (λ z. is_loop_text (item_text p z)) y))
same_sort p s u v d e a b head few (begins_loop i x f) (other g y z) same ga gb = absurd (true_false (sym (ap (λ z. is_loop_text (item_text p z)) x) ∙ ap is_loop_text same ∙ y))
same_sort p s u v d e a b head few (jumps i x f) (begins_loop j y g) same ga gb = absurd (true_false (sym (ap (λ z. is_goto_text (item_text p z)) x) ∙ ap is_goto_text same ∙ ap (λ z. is_goto_text (item_text p z)) y))
same_sort p s u v d e a b head few (jumps i x f) (jumps j y g) same ga gb =
    let texts : item_text p (goto i) ≡ item_text p (goto j) = sym (ap (item_text p) x) ∙ same ∙ ap (item_text p) y in
    x ∙ ap (λ n. goto n) (jumps_same p i j (omega (arith, f, few)) (omega (arith, g, few)) texts) ∙ sym y
same_sort p s u v d e a b head few (jumps i x f) (other g y z) same ga gb = absurd (true_false (sym (ap (λ z. is_goto_text (item_text p z)) x) ∙ ap is_goto_text same ∙ z))
same_sort p s u v d e a b head few (other f x z) (begins_loop j y g) same ga gb = absurd (true_false (sym (ap (λ z. is_loop_text (item_text p z)) y) ∙ sym (ap is_loop_text same) ∙ x))
same_sort p s u v d e a b head few (other f x z) (jumps j y g) same ga gb = absurd (true_false (sym (ap (λ z. is_goto_text (item_text p z)) y) ∙ sym (ap is_goto_text same) ∙ z))
same_sort p s u v d e a b head few (other f x z) (other g y w) same ga gb = fitting_same p s u v d e a b head f g same ga gb

-- of two lines with the same bytes that both go on, one is the other
pub one_item : (p : Program) (s u v : State) (d e : ℕ) (a b : Item) → HasHead p → Keeps p s → s.loops < 2 ^ 64 → P.indent d ++ item_text p a ≡ P.indent e ++ item_text p b → goes_on p s d a ≡ Some u → goes_on p s e b ≡ Some v → (d ≡ e) × (a ≡ b)
one_item p s u v d e a b head keeps few same ga gb =
    let x = goes_keeps p s u d a head keeps ga in
    let y = goes_keeps p s v e b head keeps gb in
    let r = same_indent d e (item_text p a) (item_text p b) (dark (item_text p a) (statement_text p s.loops a x.fits)) (dark (item_text p b) (statement_text p s.loops b y.fits)) same in
    (r.0, same_sort p s u v d e a b head few (sort_of p s.loops a x.fits) (sort_of p s.loops b y.fits) r.1 ga gb)

-- ---- the line behind the statements

-- it is no line that goes on
pub no_end : (p : Program) (s u : State) (d : ℕ) (a : Item) → HasHead p → Keeps p s → goes_on p s d a ≡ Some u → P.indent d ++ item_text p a ≡ P.indent 1 ++ codes "MPI_Finalize();" → ⊥
no_end p s u d a head keeps goes same =
    let x = goes_keeps p s u d a head keeps goes in
    let text = statement_text p s.loops a x.fits in
    let r = same_indent d 1 (item_text p a) (codes "MPI_Finalize();") (dark (item_text p a) text) refl same in
    true_false (sym text ∙ ap is_statement_text r.1)
