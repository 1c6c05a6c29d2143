-- Each line that goes on is the next of the lines that were read.
use Rattle.std.proofs.Common.{◌≡◌, ℕ, suc, ◌+◌, true, List, [], ◌∷◌, ◌++◌, length, Some, None, refl, sym, ap, ◌∙◌, append_assoc, append-nil, arith, eqb-true}
use Rattle.std.specs.Prelude.{nat_eq, nat_lt, ◌&&◌}
use Rattle.std.proofs.Math.Bool.{and-true}
use Rattle.pb_affine.specs.declared.guard.Guard.{Guard}
use Rattle.pb_local.specs.Tree.{Code, when, for_each, loop, nothing, no_part, part, codes_of, Program}
use Rattle.pb_local.specs.WellMade.{Scope, behind, loops_at}
use Rattle.pb_ctree.specs.Lines.{close, else_open, if_open, chooses, else_pick_open, Line, line}
use Rattle.pb_ctree.specs.Rules.{is_guard, are_guards, is_chooser, can_choose}
use Rattle.pb_ctree.specs.Spelling.{branch_open, spelled}
use Rattle.pb_cread_statements.specs.Reading.{Told, chosen_of, Kind, in_first, in_other, in_for, in_loop_of, in_branch, in_last, Frame, frame, Wanted, statement, chosen, state, depth_of, around, close_in, else_in, branch_in, choose_in, rule}
use Rattle.pb_cread_statements.proofs.Small.{longer}
use Rattle.pb_cread_statements.proofs.Along.{at}
use Rattle.pb_cread_statements.proofs.Written.{loops_of, loops_parts, lines_of, head, partial, branches_read, opening, inner, loops_before, before, Fits, IsGood, Adds, Every, by_test, loops_append, lines_append}
use Rattle.pb_cread_statements.proofs.Branched.{branches_append, branches_last, loops_parts_append}

-- ---- lists of lines

deeper : (b l p q : List Line) → b ++ (l ++ (p ++ q)) ≡ (b ++ (l ++ p)) ++ q
deeper b l p q = simp append_assoc refl

finish : (b l p q : List Line) → b ++ ((l ++ (p ++ q)) ++ []) ≡ (b ++ (l ++ p)) ++ q
finish b l p q = simp (append_assoc, append-nil) refl

enter : (b l p q : List Line) → (b ++ (l ++ (p ++ q))) ++ [] ≡ (b ++ (l ++ p)) ++ q
enter b l p q = simp (append_assoc, append-nil) refl

leave : (b l o m q : List Line) → b ++ ((l ++ ((o ++ m) ++ q)) ++ []) ≡ ((b ++ (l ++ o)) ++ (m ++ [])) ++ q
leave b l o m q = simp (append_assoc, append-nil) refl

turn : (b l o m q : List Line) → (b ++ (l ++ ((o ++ m) ++ q))) ++ [] ≡ ((b ++ (l ++ o)) ++ (m ++ [])) ++ q
turn b l o m q = simp (append_assoc, append-nil) refl

choose : (b l o q : List Line) → b ++ (l ++ (o ++ q)) ≡ ((b ++ (l ++ o)) ++ []) ++ q
choose b l o q = simp (append_assoc, append-nil) refl

-- ---- the kinds of steps

abbrev pub here : Program → List Frame → List Code → List Line
here p stack done = lines_of p (depth_of stack) (at stack (loops_before stack)) done

-- a further line of a statement
pub advance : (p : Program) (w v : Wanted) (done : List Code) (stack : List Frame) (n k j : ℕ) (l : Line) → IsGood p (state w done stack n k) → partial p (depth_of stack) v ≡ partial p (depth_of stack) w ++ l ∷ [] → Fits p v
    → Adds p (state w done stack n k) (state v done stack n j) l
advance p w v done stack n k j l h is fits = record {
  line = ap (λ x. before p stack ++ (here p stack done ++ x)) is ∙ deeper (before p stack) (here p stack done) (partial p (depth_of stack) w) (l ∷ []);
  is_good = record { loops = h.loops; fits = fits };
}

-- the last line of a statement without others in it
pub finishes : (p : Program) (w : Wanted) (done : List Code) (stack : List Frame) (n k j : ℕ) (c : Code) (l : Line) → IsGood p (state w done stack n k) → loops_at c ≡ 0 → spelled p (depth_of stack) (at stack n) c ≡ partial p (depth_of stack) w ++ l ∷ []
    → Adds p (state w done stack n k) (state statement (done ++ c ∷ []) stack n j) l
finishes p w done stack n k j c l h none spells =
    let d = depth_of stack in
    let at_end : spelled p d (behind (at stack (loops_before stack)) (loops_of done)) c ≡ partial p d w ++ l ∷ [] = ap (λ k. spelled p d (at stack k) c) (sym h.loops) ∙ spells in
    record {
      line = ap (λ x. before p stack ++ (x ++ [])) (lines_append p d done c (at stack (loops_before stack)) ∙ ap (λ x. here p stack done ++ x) at_end) ∙ finish (before p stack) (here p stack done) (partial p d w) (l ∷ []);
      is_good = record { loops = omega (arith, h.loops, none, loops_append done c); fits = tt };
    }

-- a brace more
pub enters : (p : Program) (w : Wanted) (done : List Code) (stack : List Frame) (n m k j : ℕ) (kind : Kind) (l : Line) → m ≡ inner kind (loops_before stack + loops_of done)
    → opening p (depth_of stack) (at stack (loops_before stack + loops_of done)) kind ≡ partial p (depth_of stack) w ++ l ∷ []
    → Adds p (state w done stack n k) (state statement [] (frame kind done ∷ stack) m j) l
enters p w done stack n m k j kind l counts opens = record {
  line = ap (λ x. (before p stack ++ (here p stack done ++ x)) ++ []) opens ∙ enter (before p stack) (here p stack done) (partial p (depth_of stack) w) (l ∷ []);
  is_good = record { loops = omega (arith, counts); fits = tt };
}

-- the brace that ends a statement
pub leaves : (p : Program) (done : List Code) (kind : Kind) (outer : List Code) (fs : List Frame) (n k : ℕ) (c : Code) (l : Line) → n ≡ (loops_before fs + loops_of outer) + loops_at c
    → spelled p (depth_of fs) (at fs (loops_before fs + loops_of outer)) c ≡ (opening p (depth_of fs) (at fs (loops_before fs + loops_of outer)) kind ++ here p (frame kind outer ∷ fs) done) ++ l ∷ []
    → Adds p (state statement done (frame kind outer ∷ fs) n k) (state statement (outer ++ c ∷ []) fs n k) l
leaves p done kind outer fs n k c l counts spells = record {
  line = ap (λ x. before p fs ++ (x ++ [])) (lines_append p (depth_of fs) outer c (at fs (loops_before fs)) ∙ ap (λ x. here p fs outer ++ x) spells)
      ∙ leave (before p fs) (here p fs outer) (opening p (depth_of fs) (at fs (loops_before fs + loops_of outer)) kind) (here p (frame kind outer ∷ fs) done) (l ∷ []);
  is_good = record { loops = omega (arith, counts, loops_append outer c); fits = tt };
}

-- a brace between two parts
pub turns : (p : Program) (done : List Code) (kind next : Kind) (outer : List Code) (fs : List Frame) (n k : ℕ) (l : Line) → n ≡ inner next (loops_before fs + loops_of outer)
    → opening p (depth_of fs) (at fs (loops_before fs + loops_of outer)) next ≡ (opening p (depth_of fs) (at fs (loops_before fs + loops_of outer)) kind ++ here p (frame kind outer ∷ fs) done) ++ l ∷ []
    → Adds p (state statement done (frame kind outer ∷ fs) n k) (state statement [] (frame next outer ∷ fs) n k) l
turns p done kind next outer fs n k l counts opens = record {
  line = ap (λ x. (before p fs ++ (here p fs outer ++ x)) ++ []) opens
      ∙ turn (before p fs) (here p fs outer) (opening p (depth_of fs) (at fs (loops_before fs + loops_of outer)) kind) (here p (frame kind outer ∷ fs) done) (l ∷ []);
  is_good = record { loops = omega (arith, counts); fits = tt };
}

-- ---- braces that close

abbrev deep : List Frame → List Code → Scope
deep fs outer = at fs (loops_before fs + loops_of outer)

more_than_one : (n : ℕ) → nat_lt 1 (suc n + 1) ≡ true
more_than_one n = grind arith

-- all branches of a choice
choice_lines : (p : Program) (t : Told) (parts : List (List Code)) (previous done outer : List Code) (fs : List Frame)
    → spelled p (depth_of fs) (deep fs outer) (chosen_of t ((parts ++ previous ∷ []) ++ done ∷ [])) ≡ (opening p (depth_of fs) (deep fs outer) (in_last t parts previous) ++ here p (frame (in_last t parts previous) outer ∷ fs) done) ++ line (depth_of fs) close true ∷ []
choice_lines p t parts previous done outer fs =
    let d = depth_of fs in
    let n = loops_before fs + loops_of outer in
    let bs = parts ++ previous ∷ [] in
    let all = branches_read p d (at fs n) 0 bs in
    let last = branch_open d (suc (length parts)) no_part t.tests in
    let inside = lines_of p (d + 1) (at fs (n + loops_parts bs)) done in
    let ends = line d close true ∷ [] in
    let number : suc (length parts) ≡ 0 + length bs = omega (arith, longer parts previous) in
    ap (λ x. head p d t ++ x) (branches_last p d t.tests bs done 0 (suc (length parts)) n (n + loops_parts bs) (around fs) number refl ∙ ap (λ b. all ++ (last ∷ (inside ++ line d close b ∷ []))) (more_than_one (length parts)))
    ∙ regroup (head p d t) all (last ∷ []) inside ends where
      regroup : (h a l i e : List Line) → h ++ (a ++ (l ++ (i ++ e))) ≡ ((h ++ (a ++ l)) ++ i) ++ e
      regroup h a l i e = simp append_assoc refl

choice_loops : (t : Told) (parts : List (List Code)) (previous done : List Code) → loops_at (chosen_of t ((parts ++ previous ∷ []) ++ done ∷ [])) ≡ loops_parts (parts ++ previous ∷ []) + loops_of done
choice_loops t parts previous done = loops_parts_append (parts ++ previous ∷ []) done

pub closes : (p : Program) (done : List Code) (kind : Kind) (outer : List Code) (fs : List Frame) (n k : ℕ) → IsGood p (state statement done (frame kind outer ∷ fs) n k)
    → Every (λ t. Adds p (state statement done (frame kind outer ∷ fs) n k) t (line (depth_of fs) close true)) (close_in (state statement done (frame kind outer ∷ fs) n k) kind outer fs)
closes p done (in_first guards) outer fs n k h = leaves p done (in_first guards) outer fs n k (when guards (codes_of done) nothing) _ (omega (arith, h.loops)) refl
closes p [] (in_other guards first) outer fs n k h = tt
closes p (c ∷ cs) (in_other guards first) outer fs n k h =
    let d = depth_of fs in
    let a = lines_of p (d + 1) (deep fs outer) first in
    let b = lines_of p (d + 1) (behind (deep fs outer) (loops_of first)) (c ∷ cs) in
    leaves p (c ∷ cs) (in_other guards first) outer fs n k (when guards (codes_of first) (codes_of (c ∷ cs))) (line d close true) (omega (arith, h.loops))
    (ap (λ w. line d (if_open guards) (are_guards p guards) ∷ w) (regroup a (line d else_open true ∷ []) b (line d close true ∷ []))) where
      regroup : (a e b c : List Line) → a ++ (e ++ (b ++ c)) ≡ ((a ++ e) ++ b) ++ c
      regroup a e b c = simp append_assoc refl
closes p done (in_for low high) outer fs n k h = leaves p done (in_for low high) outer fs n k (for_each low high (codes_of done)) _ (omega (arith, h.loops)) refl
closes p done (in_loop_of id) outer fs n k h = leaves p done (in_loop_of id) outer fs n k (loop id (codes_of done)) _ (omega (arith, h.loops)) refl
closes p done (in_branch t parts) outer fs n k h = tt
closes p done (in_last t parts previous) outer fs n k h =
    leaves p done (in_last t parts previous) outer fs n k (chosen_of t ((parts ++ previous ∷ []) ++ done ∷ [])) (line (depth_of fs) close true) (omega (arith, h.loops, choice_loops t parts previous done)) (choice_lines p t parts previous done outer fs)

-- ---- braces between parts

-- the opening of a branch behind one more
branch_lines : (p : Program) (t : Told) (parts : List (List Code)) (done outer : List Code) (fs : List Frame) (l : Line)
    → head p (depth_of fs) t ++ (branches_read p (depth_of fs) (deep fs outer) 0 (parts ++ done ∷ []) ++ l ∷ []) ≡ (opening p (depth_of fs) (deep fs outer) (in_branch t parts) ++ here p (frame (in_branch t parts) outer ∷ fs) done) ++ l ∷ []
branch_lines p t parts done outer fs l =
    let d = depth_of fs in
    let n = loops_before fs + loops_of outer in
    let this = branch_open d (length parts) (part nothing no_part) [] in
    ap (λ x. head p d t ++ (x ++ l ∷ [])) (branches_append p d parts done 0 (length parts) n (n + loops_parts parts) (around fs) (omega arith) refl)
    ∙ regroup (head p d t) (branches_read p d (at fs n) 0 parts) (this ∷ []) (lines_of p (d + 1) (at fs (n + loops_parts parts)) done) (l ∷ []) where
      regroup : (h a l i e : List Line) → h ++ ((a ++ (l ++ i)) ++ e) ≡ ((h ++ (a ++ l)) ++ i) ++ e
      regroup h a l i e = simp append_assoc refl

pub elses : (p : Program) (done : List Code) (kind : Kind) (outer : List Code) (fs : List Frame) (n k : ℕ) → IsGood p (state statement done (frame kind outer ∷ fs) n k)
    → Every (λ t. Adds p (state statement done (frame kind outer ∷ fs) n k) t (line (depth_of fs) else_open (rule p (state statement done (frame kind outer ∷ fs) n k) else_open))) (else_in (state statement done (frame kind outer ∷ fs) n k) kind outer fs)
elses p done (in_first guards) outer fs n k h = turns p done (in_first guards) (in_other guards done) outer fs n k _ (omega (arith, h.loops)) refl
elses p done (in_other guards first) outer fs n k h = tt
elses p done (in_for low high) outer fs n k h = tt
elses p done (in_loop_of id) outer fs n k h = tt
elses p done (in_branch t parts) outer fs n k h =
    turns p done (in_branch t parts) (in_last t parts done) outer fs n k _ (omega (arith, h.loops, loops_parts_append parts done)) (branch_lines p t parts done outer fs (branch_open (depth_of fs) (suc (length parts)) no_part t.tests))
elses p done (in_last t parts previous) outer fs n k h = tt

next_branch : (p : Program) (done : List Code) (t : Told) (parts : List (List Code)) (outer : List Code) (fs : List Frame) (n k branch : ℕ) → IsGood p (state statement done (frame (in_branch t parts) outer ∷ fs) n k) → branch ≡ suc (length parts)
    → Adds p (state statement done (frame (in_branch t parts) outer ∷ fs) n k) (state statement [] (frame (in_branch t (parts ++ done ∷ [])) outer ∷ fs) n k) (line (depth_of fs) (else_pick_open branch) (nat_lt branch 64))
next_branch p done t parts outer fs n k branch h is =
    let d = depth_of fs in
    let number : length (parts ++ done ∷ []) ≡ suc (length parts) = omega (arith, longer parts done) in
    let all = branches_read p d (deep fs outer) 0 (parts ++ done ∷ []) in
    turns p done (in_branch t parts) (in_branch t (parts ++ done ∷ [])) outer fs n k _ (omega (arith, h.loops, loops_parts_append parts done))
    (ap (λ x. head p d t ++ (all ++ branch_open d x (part nothing no_part) [] ∷ [])) number ∙ ap (λ x. head p d t ++ (all ++ line d (else_pick_open x) (nat_lt x 64) ∷ [])) (sym is) ∙ branch_lines p t parts done outer fs (line d (else_pick_open branch) (nat_lt branch 64)))

pub picks_on : (p : Program) (done : List Code) (kind : Kind) (outer : List Code) (fs : List Frame) (n k branch : ℕ) → IsGood p (state statement done (frame kind outer ∷ fs) n k)
    → Every (λ t. Adds p (state statement done (frame kind outer ∷ fs) n k) t (line (depth_of fs) (else_pick_open branch) (nat_lt branch 64))) (branch_in (state statement done (frame kind outer ∷ fs) n k) branch kind outer fs)
picks_on p done (in_first guards) outer fs n k branch h = tt
picks_on p done (in_other guards first) outer fs n k branch h = tt
picks_on p done (in_for low high) outer fs n k branch h = tt
picks_on p done (in_loop_of id) outer fs n k branch h = tt
picks_on p done (in_branch t parts) outer fs n k branch h =
    by_test _ (nat_eq branch (suc (length parts))) (Some (state statement [] (frame (in_branch t (parts ++ done ∷ [])) outer ∷ fs) n k)) None (λ e. next_branch p done t parts outer fs n k branch h (eqb-true branch (suc (length parts)) e)) (λ e. tt)
picks_on p done (in_last t parts previous) outer fs n k branch h = tt

-- ---- an if that becomes a choice

choosing : (p : Program) (who : Guard) (kernel : ℕ) (outer : List Code) (fs : List Frame) (n k : ℕ) → IsGood p (state statement [] (frame (in_first (who ∷ [])) outer ∷ fs) n k)
    → Adds p (state statement [] (frame (in_first (who ∷ [])) outer ∷ fs) n k) (state (chosen who kernel) outer fs n k) (line (depth_of fs + 1) (chooses kernel) (is_chooser who && can_choose p kernel))
choosing p who kernel outer fs n k h =
    let d = depth_of fs in
    let l = line (d + 1) (chooses kernel) (is_chooser who && can_choose p kernel) ∷ [] in
    record {
      line = ap (λ b. before p fs ++ (here p fs outer ++ (line d (if_open (who ∷ [])) b ∷ l))) (sym (and-true (is_guard p who))) ∙ choose (before p fs) (here p fs outer) (line d (if_open (who ∷ [])) (are_guards p (who ∷ [])) ∷ []) l;
      is_good = record { loops = omega (arith, h.loops); fits = tt };
    }

pub chooses_on : (p : Program) (done : List Code) (kind : Kind) (outer : List Code) (fs : List Frame) (n k kernel : ℕ) → IsGood p (state statement done (frame kind outer ∷ fs) n k)
    → Every (λ t. Adds p (state statement done (frame kind outer ∷ fs) n k) t (line (depth_of fs + 1) (chooses kernel) (rule p (state statement done (frame kind outer ∷ fs) n k) (chooses kernel)))) (choose_in (state statement done (frame kind outer ∷ fs) n k) kernel kind done outer fs)
chooses_on p done (in_first []) outer fs n k kernel h = tt
chooses_on p [] (in_first (who ∷ [])) outer fs n k kernel h = choosing p who kernel outer fs n k h
chooses_on p (c ∷ cs) (in_first (who ∷ [])) outer fs n k kernel h = tt
chooses_on p done (in_first (who ∷ g ∷ gs)) outer fs n k kernel h = tt
chooses_on p done (in_other guards first) outer fs n k kernel h = tt
chooses_on p done (in_for low high) outer fs n k kernel h = tt
chooses_on p done (in_loop_of id) outer fs n k kernel h = tt
chooses_on p done (in_branch t parts) outer fs n k kernel h = tt
chooses_on p done (in_last t parts previous) outer fs n k kernel h = tt
