-- The lines of a text, and what the text of a tree begins with.
use Rattle.std.proofs.Common.{◌≡◌, ℕ, suc, ◌+◌, Bool, true, false, not, ◌&&◌, cond, if◌then◌else◌, List, [], ◌∷◌, ◌++◌, map, length, Option, Some, None, refl, sym, ap, subst, ◌∙◌, arith, nat_eq, append-nil}
use Rattle.std.specs.Prelude.{All, codes, decimal}
use Rattle.std.specs.Fmt.{signed_decimal}
use Rattle.std.proofs.lemmas.List.{append_cancel_left}
use Rattle.pb_affine.specs.declared.range.NRange.{NRange}
use Rattle.pb_syntax.specs.declared.tree.Payload.{Payload}
use Rattle.pb_syntax.specs.declared.tree.Payload.TheVariants.{Unit as NoWords, Int32, Uint32}
use Rattle.pb_syntax.specs.declared.core_label.CoreLabel.{CoreLabel}
use Rattle.pb_syntax.specs.declared.core_label.CoreKernel.{CoreKernel}
use Rattle.pb_syntax.specs.declared.core_label.KernelKind.{KernelKind}
use Rattle.pb_syntax.specs.declared.core_label.KernelKind.TheVariants.{Compute as Computes, Choice as Chooses}
use Rattle.pb_local.specs.declared.tables.Role.{Role}
use Rattle.pb_local.specs.Names.{is_name}
use Rattle.pb_local.specs.Pieces as P
use Rattle.pb_local.specs.Ranks.{Sum, ranks_of, bases_of, places_of}
use Rattle.pb_local.specs.Tree.{Program, program_of}
use Rattle.pb_local.specs.WellMade.{IsWellMade}
use Rattle.pb_ctree.specs.declared.body.Bodies.{Bodies}
use Rattle.pb_ctree.specs.declared.tree.CTree.{CTree}
use Rattle.pb_ctree.specs.Bodies.{is_marker, is_body, lines_of, before_lines}
use Rattle.pb_ctree.specs.Frame.{range_text, high_text, payload_text, role_lines, label_lines, buffer_lines, with_rule, head_lines, body_lines, prelude_lines, number_lines, function_lines, element_text, make_head, take_head, kernel_letter, kernel_type, kernel_head, first_body, other_bodies, kernel_lines, words_lines, kernels_after, start_lines, n_text, above_text, size_lines, seat_lines, end_lines, text_lines}
use Rattle.pb_ctree.specs.Functions.{has_words}
use Rattle.pb_ctree.specs.Lines.{Item, raw, close, else_open, if_open, else_if_open, for_open, own_is, loop_open, goto, makes, root_makes, takes, root_takes, mpi_send, mpi_recv, mpi_barrier, mpi_bcast, mpi_reduce, mpi_allreduce, calls, chooses, probe, test_open, else_test_open, picks, aborts, pick_open, else_pick_open, Line, line}
use Rattle.pb_ctree.specs.Small.{lin_text, sum_text}
use Rattle.pb_ctree.specs.Rules.{has_size, is_single, is_kernel_row}
use Rattle.pb_ctree.specs.Texts.{line_bytes, line_text, text_of, Spells, Starts, all_kept}
use Rattle.pb_cread_lines.specs.Head.{HasHead}
use Rattle.pb_ctree_laws.proofs.Texts.{well_made_kept}
use Rattle.pb_cread_frame.specs.Frames.{main_start, frame_lines, behind_frame}
use Rattle.pb_cread_frame.specs.Rows.{is_nothing, is_line, bare}
use Rattle.pb_cread_frame.proofs.Framed.{text_is}
use Rattle.pb_cread_statements.specs.Fronts.{Are, main_lines}
use Rattle.pb_cread_statements.specs.Laws.{place_of}
use Rattle.pb_cread_statements.specs.Reading as M
use Rattle.pb_cread_statements.proofs.Laws.{reads_statements}
use Rattle.pb_cread_rows.proofs.Again.{and_left, and_right}
use Rattle.pb_cread.specs.Rows as W
use Rattle.pb_cread.proofs.Clean.{clean, both, number, signed, lin, sum, name, Named, named, IsStated, item, indented}
use Rattle.pb_cread.proofs.Good.{same_first_line}

-- all lines are without a line feed
abbrev AreClean : Program → List Line → Type 0
AreClean p [] = Unit {0}
AreClean p (l ∷ ls) = (clean (line_bytes p l) ≡ true) × AreClean p ls

joined : (p : Program) (A B : List Line) → AreClean p A → AreClean p B → AreClean p (A ++ B)
joined p [] B a b = b
joined p (l ∷ ls) B a b = (a.0, joined p ls B a.1 b)

-- ---- the head

high : (h : Option ℕ) → clean (high_text h) ≡ true
high None = refl
high (Some n) = number n

range : (r : NRange) → clean (range_text r) ≡ true
range r = both (decimal r.low) _ (number r.low) (both (high_text r.high) _ (high r.high) refl)

roles : (p : Program) (r : NRange) (names : List (List ℕ)) (rs : List Role) → All (λ (x : Role). is_name x.name ≡ true) rs → AreClean p (role_lines r names rs)
roles p r names [] all = tt
roles p r names (x ∷ xs) all =
    let n : clean x.name ≡ true = name x.name (all 0 x (omega arith)) in
    (both x.name _ n (both (lin_text x.low) _ (lin x.low) (both (lin_text x.high) _ (lin x.high) refl)), roles p r (names ++ x.name ∷ []) xs (λ k d less. all (suc k) d (omega (arith, less))))

payload : (x : Payload) → clean (payload_text x) ≡ true
payload NoWords = refl
payload (Int32 n) = both (decimal n) _ (number n) refl
payload (Uint32 n) = both (decimal n) _ (number n) refl

labels : (p : Program) (names : List (List ℕ)) (ls : List CoreLabel) → All (λ (x : CoreLabel). is_name x.name ≡ true) ls → AreClean p (label_lines names ls)
labels p names [] all = tt
labels p names (x ∷ xs) all =
    (both x.name _ (name x.name (all 0 x (omega arith))) (both (payload_text x.payload) _ (payload x.payload) refl), labels p (names ++ x.name ∷ []) xs (λ k d less. all (suc k) d (omega (arith, less))))

ruled : (p : Program) (rule : Bool) (ls : List Line) → AreClean p ls → AreClean p (with_rule rule ls)
ruled p rule [] c = tt
ruled p rule (l ∷ ls) c = c

-- ---- bodies

bodies_before : (p : Program) (c : ℕ) (ls : List (List ℕ)) → nat_eq c 10 ≡ false → AreClean p (map (λ l. line 0 (raw l) (not (is_marker l))) ls) → AreClean p (map (λ l. line 0 (raw l) (not (is_marker l))) (before_lines c ls))
bodies_before p c [] e all = (ap (λ b. not b && true) e, tt)
bodies_before p c (l ∷ ls) e all = (ap (λ b. not b && clean l) e ∙ all.0, all.1)

body : (p : Program) (bytes : List ℕ) → AreClean p (body_lines bytes)
body p [] = tt
body p (c ∷ cs) = at (nat_eq c 10) refl (body p cs) where
  at : (b : Bool) → nat_eq c 10 ≡ b → AreClean p (map (λ l. line 0 (raw l) (not (is_marker l))) (lines_of cs)) → AreClean p (map (λ l. line 0 (raw l) (not (is_marker l))) (if b then [] ∷ lines_of cs else before_lines c (lines_of cs)))
  at true e all = (refl, all)
  at false e all = bodies_before p c (lines_of cs) e all

function : (p : Program) (head : List ℕ) (kept : Bool) (name bytes : List ℕ) → clean head ≡ true → clean name ≡ true → AreClean p (function_lines head kept name bytes)
function p head kept name bytes h n = (h, (refl, (both name _ n refl, joined p (body_lines bytes) _ (body p bytes) (refl, (refl, tt)))))

numbers : (p : Program) (rs : List Role) (fs : List Sum) → All (λ (x : Role). is_name x.name ≡ true) rs → AreClean p (number_lines rs fs)
numbers p [] fs all = tt
numbers p (r ∷ rs) [] all = tt
numbers p (r ∷ rs) (f ∷ fs) all =
    (both r.name _ (name r.name (all 0 r (omega arith))) refl, (refl, (both (sum_text f) _ (sum f) refl, (refl, numbers p rs fs (λ k d less. all (suc k) d (omega (arith, less)))))))

element : (x : Payload) → clean (element_text x) ≡ true
element NoWords = refl
element (Int32 n) = refl
element (Uint32 n) = refl

letter : (k : KernelKind) (w : List ℕ) → clean w ≡ true → clean (kernel_letter k ++ w) ≡ true
letter Computes w e = e
letter Chooses w e = e

kernel : (k : CoreKernel) → clean k.name ≡ true → clean (kernel_head k) ≡ true
kernel k e = at k.kind where
  at : (kind : KernelKind) → clean (kernel_type kind ++ (kernel_letter kind ++ (k.name ++ (codes "(int32_t N, int32_t role, int32_t index)" ++ [])))) ≡ true
  at Computes = both k.name _ e refl
  at Chooses = both k.name _ e refl

kernels : (p : Program) (names : List (List ℕ)) (ks : List CoreKernel) (bodies : List (List ℕ)) → All (λ (x : CoreKernel). is_name x.name ≡ true) ks → AreClean p (kernel_lines names ks bodies)
kernels p names [] bodies all = tt
kernels p names (k ∷ ks) bodies all =
    let n : clean k.name ≡ true = name k.name (all 0 k (omega arith)) in
    joined p (function_lines (kernel_head k) (is_kernel_row names k) (kernel_letter k.kind ++ k.name) (first_body bodies)) (kernel_lines (names ++ k.name ∷ []) ks (other_bodies bodies))
    (function p (kernel_head k) (is_kernel_row names k) (kernel_letter k.kind ++ k.name) (first_body bodies) (kernel k n) (letter k.kind k.name n))
    (kernels p (names ++ k.name ∷ []) ks (other_bodies bodies) (λ j d less. all (suc j) d (omega (arith, less))))

functions : (p : Program) (ls : List CoreLabel) (ks : List CoreKernel) (bodies : List (List ℕ)) → All (λ (x : CoreLabel). is_name x.name ≡ true) ls → All (λ (x : CoreKernel). is_name x.name ≡ true) ks → AreClean p (kernels_after ls ks bodies)
functions p [] ks bodies all each = kernels p [] ks bodies each
functions p (l ∷ ls) ks bodies all each = at (has_words l.payload) (λ bs. functions p ls ks bs (λ k d less. all (suc k) d (omega (arith, less))) each) where
  n : clean l.name ≡ true
  n = name l.name (all 0 l (omega arith))

  at : (b : Bool) → ((bs : List (List ℕ)) → AreClean p (kernels_after ls ks bs)) → AreClean p (if b then words_lines l bodies ++ kernels_after ls ks (other_bodies (other_bodies bodies)) else kernels_after ls ks bodies)
  at true f = joined p (words_lines l bodies) (kernels_after ls ks (other_bodies (other_bodies bodies)))
      (joined p (function_lines (make_head l) true (codes "make_" ++ l.name) (first_body bodies)) (function_lines (take_head l) true (codes "take_" ++ l.name) (first_body (other_bodies bodies)))
      (function p (make_head l) true (codes "make_" ++ l.name) (first_body bodies) (both l.name _ n (both (element_text l.payload) _ (element l.payload) refl)) n)
      (function p (take_head l) true (codes "take_" ++ l.name) (first_body (other_bodies bodies)) (both l.name _ n (both (element_text l.payload) _ (element l.payload) refl)) n))
      (f (other_bodies (other_bodies bodies)))
  at false f = f bodies

-- ---- main

n_clean : (r : NRange) (f : Sum) → clean (n_text r f) ≡ true
n_clean r f = at (is_single r) where
  at : (b : Bool) → clean (if b then P.joined (codes "N = " ∷ decimal r.low ∷ codes ";" ∷ []) else P.joined (codes "N = (size - " ∷ signed_decimal f.b ∷ codes ") / " ∷ signed_decimal f.a ∷ codes ";" ∷ [])) ≡ true
  at true = both (decimal r.low) _ (number r.low) refl
  at false = both (signed_decimal f.b) _ (signed f.b) (both (signed_decimal f.a) _ (signed f.a) refl)

above : (h : Option ℕ) → clean (above_text h) ≡ true
above None = refl
above (Some n) = both (decimal n) _ (number n) refl

size : (p : Program) (r : NRange) (f : Sum) → AreClean p (size_lines r f)
size p r f = (n_clean r f, (refl, (refl, (refl, (refl, (both (decimal r.low) _ (number r.low) (both (above_text r.high) _ (above r.high) (both (sum_text f) _ (sum f) refl)), (refl, (refl, tt))))))))

seats : (p : Program) (k : ℕ) (bs fs : List Sum) → AreClean p (seat_lines k bs fs)
seats p k [] fs = tt
seats p k (b ∷ bs) [] = tt
seats p k (b ∷ bs) (f ∷ fs) = (both (sum_text b) _ (sum b) refl, (both (decimal k) _ (number k) refl, (both (sum_text f) _ (sum f) refl, (refl, seats p (k + 1) bs fs))))

-- ---- statements

step_none : (p : Program) (s : M.State) (w : M.Wanted) (text : List ℕ) → M.step_at p s w (raw text) ≡ None
step_none p s M.statement text = refl
step_none p s (M.made label) text = refl
step_none p s (M.rooted label root) text = refl
step_none p s (M.cast label root) text = refl
step_none p s (M.reduced label op root) text = refl
step_none p s (M.allreduced label op) text = refl
step_none p s (M.received label from) text = refl
step_none p s (M.chosen who kernel) text = refl
step_none p s (M.asked who kernel) text = refl
step_none p s (M.relaying who kernel relays guards) text = refl
step_none p s (M.relayed who kernel relays) text = refl
step_none p s (M.sourced who kernel relays) text = refl
step_none p s (M.probed who kernel relays from) text = refl
step_none p s (M.untested who kernel relays from) text = refl
step_none p s (M.testing t label guards) text = refl
step_none p s (M.tested t) text = refl
step_none p s (M.aborting t) text = refl
step_none p s (M.aborted t) text = refl
step_none p s (M.all_tested t) text = refl
step_none p s (M.answered t) text = refl

stated : (p : Program) (s t : M.State) (d : ℕ) (i : Item) → M.goes_on p s d i ≡ Some t → IsStated i
stated p s t d (raw text) e = at (nat_eq d (M.place s (raw text)) && M.rule p s (raw text)) e where
  none_some : None ≡ Some t → ⊥
  none_some e = cc

  at : (b : Bool) → cond b (M.step_at p s s.wanted (raw text)) None ≡ Some t → ⊥
  at true e = none_some (sym (step_none p s s.wanted text) ∙ e)
  at false e = none_some e
stated p s t d close e = tt
stated p s t d else_open e = tt
stated p s t d (if_open guards) e = tt
stated p s t d (else_if_open guards) e = tt
stated p s t d (for_open low high) e = tt
stated p s t d (own_is off) e = tt
stated p s t d (loop_open id) e = tt
stated p s t d (goto id) e = tt
stated p s t d (makes label) e = tt
stated p s t d (root_makes root label) e = tt
stated p s t d (takes label side) e = tt
stated p s t d (root_takes root label) e = tt
stated p s t d (mpi_send label to) e = tt
stated p s t d (mpi_recv label from) e = tt
stated p s t d mpi_barrier e = tt
stated p s t d (mpi_bcast label root) e = tt
stated p s t d (mpi_reduce label op root) e = tt
stated p s t d (mpi_allreduce label op) e = tt
stated p s t d (calls kernel) e = tt
stated p s t d (chooses kernel) e = tt
stated p s t d (probe from) e = tt
stated p s t d (test_open label guards) e = tt
stated p s t d (else_test_open label guards) e = tt
stated p s t d (picks branch) e = tt
stated p s t d aborts e = tt
stated p s t d (pick_open branch) e = tt
stated p s t d (else_pick_open branch) e = tt

abbrev places_of_lines : List Line → List M.Place
places_of_lines [] = []
places_of_lines (l ∷ ls) = place_of l.depth l.item ∷ places_of_lines ls

lines_are : (ls : List Line) → all_kept ls ≡ true → Are (places_of_lines ls) ls
lines_are [] e = tt
lines_are (l ∷ ls) e = (refl, refl, and_left l.kept (all_kept ls) e, lines_are ls (and_right l.kept (all_kept ls) e))

read_clean : (p : Program) → Named p → (ls : List Line) (s t : M.State) → M.read p (places_of_lines ls) s ≡ Some t → AreClean p ls
read_clean p n [] s t e = tt
read_clean p n (l ∷ ls) s t e = on (M.goes_on p s l.depth l.item) refl e (λ u f. read_clean p n ls u t f) where
  on : (o : Option M.State) → M.goes_on p s l.depth l.item ≡ o → M.then_read o (M.read p (places_of_lines ls)) ≡ Some t → ((u : M.State) → M.read p (places_of_lines ls) u ≡ Some t → AreClean p ls) → AreClean p (l ∷ ls)
  on None g f others = absurd (none f) where
    none : None ≡ Some t → ⊥
    none e = cc
  on (Some u) g f others = (indented l.depth _ (item p n l.item (stated p s u l.depth l.item g)), others u f)

-- ---- whole texts

kept_end : (a b : List Line) → all_kept (a ++ b) ≡ true → all_kept b ≡ true
kept_end [] b e = e
kept_end (l ∷ ls) b e = kept_end ls b (and_right l.kept (all_kept (ls ++ b)) e)

kept_front : (a b : List Line) → all_kept (a ++ b) ≡ true → all_kept a ≡ true
kept_front [] b e = refl
kept_front (l ∷ ls) b e = ap (λ x. x && all_kept ls) (and_left l.kept (all_kept (ls ++ b)) e) ∙ kept_front ls b (and_right l.kept (all_kept (ls ++ b)) e)

text_clean : (p : Program) (prelude : List ℕ) (bodies : List (List ℕ)) → IsWellMade p → all_kept (text_lines p prelude bodies) ≡ true → AreClean p (text_lines p prelude bodies)
text_clean p prelude bodies made kept =
    let own : all_kept (frame_lines p prelude bodies ++ behind_frame p) ≡ true = sym (ap all_kept (text_is p prelude bodies)) ∙ kept in
    let main : all_kept (main_lines p p.body) ≡ true = kept_front (main_lines p p.body) end_lines (kept_end (frame_lines p prelude bodies) (behind_frame p) own) in
    let head : HasHead p = record { roles = made.roles; labels = made.labels; kernels = made.kernels } in
    let r = reads_statements p p.body (places_of_lines (main_lines p p.body)) (lines_are (main_lines p p.body) main) in
    let statements : AreClean p (main_lines p p.body) = read_clean p (named p head) (main_lines p p.body) M.nothing_read r.0 r.1 in
    let role_names : All (λ (x : Role). is_name x.name ≡ true) p.roles = λ k d less. (made.roles.each k d less).name in
    let label_names : All (λ (x : CoreLabel). is_name x.name ≡ true) p.labels = λ k d less. (made.labels.each k d less).name in
    let heads : AreClean p (head_lines p) = (refl, (both p.protocol _ (name p.protocol made.protocol) refl, (range p.range, joined p (role_lines p.range [] p.roles) _ (roles p p.range [] p.roles role_names) (ruled p (has_size p) (label_lines [] p.labels ++ buffer_lines) (joined p (label_lines [] p.labels) buffer_lines (labels p [] p.labels label_names) (refl, (refl, (refl, (refl, tt))))))))) in
    let preludes : AreClean p (prelude_lines prelude) = (refl, joined p (body_lines prelude) _ (body p prelude) (refl, tt)) in
    let starts : AreClean p (main_start p) =
    joined p (start_lines ++ size_lines p.range (ranks_of p.roles)) (seat_lines 0 (bases_of p.roles) (places_of p.roles)) (joined p start_lines (size_lines p.range (ranks_of p.roles)) (refl, (refl, (refl, (refl, (refl, (refl, (refl, (refl, tt)))))))) (size p p.range (ranks_of p.roles))) (seats p 0 (bases_of p.roles) (places_of p.roles)) in
    let one = joined p (head_lines p) (prelude_lines prelude) heads preludes in
    let two = joined p (head_lines p ++ prelude_lines prelude) (number_lines p.roles (places_of p.roles)) one (numbers p p.roles (places_of p.roles) role_names) in
    let three = joined p (head_lines p ++ prelude_lines prelude ++ number_lines p.roles (places_of p.roles)) (kernels_after p.labels p.kernels bodies) two (functions p p.labels p.kernels bodies label_names made.kernels.each) in
    let frame : AreClean p (frame_lines p prelude bodies) = joined p (head_lines p ++ prelude_lines prelude ++ number_lines p.roles (places_of p.roles) ++ kernels_after p.labels p.kernels bodies) (main_start p) three starts in
    let behind : AreClean p (behind_frame p) = joined p (main_lines p p.body) end_lines statements (refl, (refl, (refl, tt))) in
    subst (AreClean p) (sym (text_is p prelude bodies)) (joined p (frame_lines p prelude bodies) (behind_frame p) frame behind)

-- ---- the lines of a text are its only lines

clean_line : (l : List ℕ) → clean l ≡ true → is_line (l ++ 10 ∷ []) ≡ true
clean_line [] e = refl
clean_line (c ∷ cs) e = at (nat_eq c 10) e (clean_line cs) where
  at : (b : Bool) → (not b && clean cs) ≡ true → (clean cs ≡ true → is_line (cs ++ 10 ∷ []) ≡ true) → (if b then is_nothing (cs ++ 10 ∷ []) else is_line (cs ++ 10 ∷ [])) ≡ true
  at true e f = absurd cc
  at false e f = f e

clean_bare : (l : List ℕ) → clean l ≡ true → bare (l ++ 10 ∷ []) ≡ l
clean_bare [] e = refl
clean_bare (c ∷ cs) e = at (nat_eq c 10) e (clean_bare cs) where
  at : (b : Bool) → (not b && clean cs) ≡ true → (clean cs ≡ true → bare (cs ++ 10 ∷ []) ≡ cs) → (if b then [] else c ∷ bare (cs ++ 10 ∷ [])) ≡ c ∷ cs
  at true e f = absurd cc
  at false e f = ap (λ x. c ∷ x) (f e)

pub record AllLines (p : Program) (lines : List (List ℕ)) (ls : List Line) : Type 0 where
  pub starts : Starts p (map bare lines) ls
  pub many : length lines ≡ length ls

text_first : (p : Program) (l : Line) → line_text p l ≡ line_bytes p l ++ 10 ∷ []
text_first p l = refl

lines_same : (p : Program) (lines : List (List ℕ)) (ls : List Line) → All (λ l. is_line l ≡ true) lines → AreClean p ls → all_kept ls ≡ true → P.joined lines ≡ text_of p ls → AllLines p lines ls
lines_same p [] [] all c k e = record { starts = tt; many = refl }
lines_same p [] (l ∷ ls) all c k e = absurd (no (line_bytes p l) (e ∙ ap (λ x. x ++ text_of p ls) (text_first p l))) where
  no : (x : List ℕ) → [] ≡ (x ++ 10 ∷ []) ++ text_of p ls → ⊥
  no [] e = cc
  no (c ∷ cs) e = cc
lines_same p (x ∷ xs) [] all c k e = absurd (no x (all 0 x (omega arith)) e) where
  no : (x : List ℕ) → is_line x ≡ true → x ++ P.joined xs ≡ [] → ⊥
  no [] a e = cc
  no (c ∷ cs) a e = cc
lines_same p (x ∷ xs) (l ∷ ls) all c k e =
    let own : is_line (line_bytes p l ++ 10 ∷ []) ≡ true = clean_line (line_bytes p l) c.0 in
    let f : x ++ P.joined xs ≡ (line_bytes p l ++ 10 ∷ []) ++ text_of p ls = e ∙ ap (λ y. y ++ text_of p ls) (text_first p l) in
    let same : x ≡ line_bytes p l ++ 10 ∷ [] = same_first_line x (line_bytes p l ++ 10 ∷ []) (P.joined xs) (text_of p ls) (all 0 x (omega arith)) own f in
    let rest : P.joined xs ≡ text_of p ls = append_cancel_left x (P.joined xs) (text_of p ls) (f ∙ ap (λ y. y ++ text_of p ls) (sym same)) in
    let r = lines_same p xs ls (λ j d less. all (suc j) d (omega (arith, less))) c.1 (and_right l.kept (all_kept ls) k) rest in
    record { starts = (ap bare same ∙ clean_bare (line_bytes p l) c.0, and_left l.kept (all_kept ls) k, r.starts); many = ap (λ n. suc n) r.many }

-- a spelling has just these lines
pub all_lines : (tree : CTree) (bodies : Bodies) (text : List ℕ) (lines : List (List ℕ)) → is_body bodies.prelude ≡ true → All (λ b. is_body b ≡ true) bodies.list.items → Spells tree bodies text → W.Begins text lines [] → AllLines (program_of tree.local) lines (text_lines (program_of tree.local) bodies.prelude bodies.list.items)
all_lines tree bodies text lines body each s b =
    let p = program_of tree.local in
    let kept = well_made_kept p bodies.prelude bodies.list.items body each s.made.made in
    lines_same p lines (text_lines p bodies.prelude bodies.list.items) b.each (text_clean p bodies.prelude bodies.list.items s.made.made kept) kept (sym (append-nil (P.joined lines)) ∙ sym b.whole ∙ s.text)
