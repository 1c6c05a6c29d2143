-- Lines one after the other.
use Rattle.std.proofs.Common.{◌≡◌, ℕ, suc, ◌+◌, List, [], ◌∷◌, ◌++◌, map, Option, Some, None, refl, sym, ap, subst, ◌∙◌, arith, Bool, true, false}
use Rattle.std.specs.Prelude.{if◌then◌else◌, not, codes}
use Rattle.std.proofs.lemmas.Option.{same_Some, none-some}
use Rattle.pb_local.specs.Names.{is_name}
use Rattle.pb_local.specs.Pieces as P
use Rattle.pb_ctree.specs.Rules.{is_range, has_size, is_kernel_row}
use Rattle.pb_syntax.specs.declared.core_label.CoreLabel.{CoreLabel}
use Rattle.pb_syntax.specs.declared.core_label.CoreKernel.{CoreKernel}
use Rattle.pb_affine.specs.declared.range.NRange.{NRange}
use Rattle.pb_local.specs.declared.tables.Role.{Role}
use Rattle.pb_local.specs.Ranks.{Sum, ranks_of, bases_of, places_of}
use Rattle.pb_local.specs.Tree.{Program}
use Rattle.pb_ctree.specs.Bodies.{is_marker, lines_of}
use Rattle.pb_ctree.specs.Frame.{words, range_text, role_lines, label_lines, buffer_lines, with_rule, head_lines, prelude_lines, number_lines, kernel_lines, words_lines, kernels_after, function_lines, make_head, take_head, kernel_head, kernel_letter, first_body, other_bodies, start_lines, size_lines, seat_lines, body_lines}
use Rattle.pb_ctree.specs.Functions.{has_words}
use Rattle.pb_ctree.specs.Lines.{Line, line, raw}
use Rattle.pb_cread_frame.specs.Ahead.{Shown, sure, show, ahead, Whole, whole}
use Rattle.pb_cread_frame.specs.Frames.{main_start, frame_lines, behind_frame, shown_of}
use Rattle.pb_cread_frame.specs.Laws.{then_read, read, Begins, IsRead, ReadsFronts, IsFrontOf, AreFrontsThatAreRead, RefusesNoFront, StartsTexts}
use Rattle.pb_cread_frame.specs.Reading.{State, step}
use Rattle.pb_cread_frame.specs.Rows.{is_line}
use Rattle.pb_cread_frame.specs.Steps.{Arrives, Follows, GoesAlong}
use Rattle.pb_cread_frame.proofs.Follow.{follows_all}
use Rattle.pb_cread_frame.proofs.Sound.{is_sound}
use Rattle.pb_cread_frame.proofs.Framed.{text_is, frame_ahead}
use Rattle.pb_cread_frame.proofs.Shapes.{map_both, same_first}

reads_along : (lines : List (List ℕ)) (s : State) (w : Whole) (xs : List Shown) → Arrives s w xs → Begins lines xs → IsRead lines s w xs
reads_along [] s w xs a b = record { next = s; reads = refl; arrives = a }
reads_along (l ∷ ls) s w [] a b = absurd b
reads_along (l ∷ ls) s w (x ∷ xs) a b =
    let P : Whole → Type 0 = λ v. GoesAlong (step s) v (x ∷ xs) in
    let Q : List Shown → Type 0 = λ ys. GoesAlong (step s) (whole s a.rest) ys in
    let g : GoesAlong (step s) w (x ∷ xs) = subst P a.same (subst Q a.lines (follows_all s a.rest)) in
    let f : Follows (step s) w x.text xs = g b.1 in
    let r = reads_along ls f.next w xs f.arrives b.2 in
    let here : step s l ≡ Some f.next = ap (step s) b.0 ∙ f.goes in
    record { next = r.next; reads = ap (λ o. then_read o (read ls)) here ∙ r.reads; arrives = r.arrives }

pub reads_fronts : ReadsFronts
reads_fronts lines s q b = reads_along lines s (whole s q) (ahead s q) (record { rest = q; lines = refl; same = refl }) b

pub fronts_read : AreFrontsThatAreRead
fronts_read [] s t q all e =
    let P : State → Type 0 = λ u. IsFrontOf [] s u q in
    subst P (same_Some s t e) (record { rest = q; ahead_is = refl; same = refl })
fronts_read (l ∷ ls) s t q all e = on (step s l) refl e (λ n f. fronts_read ls n t q (λ k d less. all (suc k) d (omega (arith, less))) f) where
  on : (o : Option State) → step s l ≡ o → then_read o (read ls) ≡ Some t → ((n : State) → read ls n ≡ Some t → IsFrontOf ls n t q) → IsFrontOf (l ∷ ls) s t q
  on None f e others = absurd (none-some t e)
  on (Some n) f e others =
      let one : is_line l ≡ true = all 0 l (omega arith) in
      let r = others n e in
      let c = is_sound s n l r.rest one f in
      record { rest = c.rest; ahead_is = c.first ∙ ap (λ w. sure l ∷ w) r.ahead_is; same = c.same ∙ r.same }

read_more : (lines : List (List ℕ)) (line : List ℕ) (s t : State) → read lines s ≡ Some t → read (lines ++ line ∷ []) s ≡ then_read (step t line) (read [])
read_more [] line s t e = ap (λ (u : State). then_read (step u line) (read [])) (same_Some s t e)
read_more (l ∷ ls) line s t e = on (step s l) e (λ n f. read_more ls line n t f) where
  on : (o : Option State) → then_read o (read ls) ≡ Some t → ((n : State) → read ls n ≡ Some t → read (ls ++ line ∷ []) n ≡ then_read (step t line) (read []))
      → then_read o (read (ls ++ line ∷ [])) ≡ then_read (step t line) (read [])
  on None e others = absurd (none-some t e)
  on (Some n) e others = others n e

pub refuses : RefusesNoFront
refuses lines line s t q e none b =
    let r = reads_fronts (lines ++ line ∷ []) s q b in
    none-some r.next (sym (read_more lines line s t e ∙ ap (λ o. then_read o (read [])) none) ∙ r.reads)

-- ---- texts

abbrev AreRaw : List Line → Type 0
AreRaw ls = (p : Program) → map (shown_of p) ls ≡ map show ls

raw_both : (A B : List Line) → AreRaw A → AreRaw B → AreRaw (A ++ B)
raw_both A B a b = λ p. map_both (shown_of p) A B ∙ ap (λ w. w ++ map (shown_of p) B) (a p) ∙ ap (λ w. map show A ++ w) (b p) ∙ sym (map_both show A B)

roles_raw : (range : NRange) (names : List (List ℕ)) (rs : List Role) → AreRaw (role_lines range names rs)
roles_raw range names [] = λ p. refl
roles_raw range names (r ∷ rs) = λ p. same_first (roles_raw range (names ++ r.name ∷ []) rs p)

labels_raw : (names : List (List ℕ)) (ls : List CoreLabel) → AreRaw (label_lines names ls)
labels_raw names [] = λ p. refl
labels_raw names (l ∷ ls) = λ p. same_first (labels_raw (names ++ l.name ∷ []) ls p)

ruled_raw : (rule : Bool) (names : List (List ℕ)) (ls : List CoreLabel) → AreRaw (with_rule rule (label_lines names ls ++ buffer_lines))
ruled_raw rule names [] = λ p. refl
ruled_raw rule names (l ∷ ls) = λ p. same_first (raw_both (label_lines (names ++ l.name ∷ []) ls) buffer_lines (labels_raw (names ++ l.name ∷ []) ls) (λ p. refl) p)

body_raw : (ls : List (List ℕ)) → AreRaw (map (λ l. line 0 (raw l) (not (is_marker l))) ls)
body_raw [] = λ p. refl
body_raw (l ∷ ls) = λ p. same_first (body_raw ls p)

prelude_raw : (body : List ℕ) → AreRaw (prelude_lines body)
prelude_raw body = raw_both (words 0 (codes "/*@ prelude */") ∷ body_lines body) (words 0 (codes "/*@ end */") ∷ []) (λ p. same_first (body_raw (lines_of body) p)) (λ p. refl)

numbers_raw : (rs : List Role) (fs : List Sum) → AreRaw (number_lines rs fs)
numbers_raw [] fs = λ p. refl
numbers_raw (r ∷ rs) [] = λ p. refl
numbers_raw (r ∷ rs) (f ∷ fs) = λ p. same_first (same_first (same_first (same_first (numbers_raw rs fs p))))

function_raw : (head : List ℕ) (kept : Bool) (name body : List ℕ) → AreRaw (function_lines head kept name body)
function_raw head kept name body = raw_both (line 0 (raw head) kept ∷ words 0 (codes "{") ∷ words 0 (P.joined (codes "/*@ kernel " ∷ name ∷ codes " */" ∷ [])) ∷ body_lines body) (words 0 (codes "/*@ end */") ∷ words 0 (codes "}") ∷ []) (λ p. same_first (same_first (same_first (body_raw (lines_of body) p)))) (λ p. refl)

kernels_raw : (names : List (List ℕ)) (ks : List CoreKernel) (bodies : List (List ℕ)) → AreRaw (kernel_lines names ks bodies)
kernels_raw names [] bodies = λ p. refl
kernels_raw names (k ∷ ks) bodies = raw_both (function_lines (kernel_head k) (is_kernel_row names k) (kernel_letter k.kind ++ k.name) (first_body bodies)) (kernel_lines (names ++ k.name ∷ []) ks (other_bodies bodies))
    (function_raw (kernel_head k) (is_kernel_row names k) (kernel_letter k.kind ++ k.name) (first_body bodies)) (kernels_raw (names ++ k.name ∷ []) ks (other_bodies bodies))

words_raw : (l : CoreLabel) (bodies : List (List ℕ)) → AreRaw (words_lines l bodies)
words_raw l bodies = raw_both (function_lines (make_head l) true (codes "make_" ++ l.name) (first_body bodies)) (function_lines (take_head l) true (codes "take_" ++ l.name) (first_body (other_bodies bodies)))
    (function_raw (make_head l) true (codes "make_" ++ l.name) (first_body bodies)) (function_raw (take_head l) true (codes "take_" ++ l.name) (first_body (other_bodies bodies)))

functions_raw : (ls : List CoreLabel) (ks : List CoreKernel) (bodies : List (List ℕ)) → AreRaw (kernels_after ls ks bodies)
functions_raw [] ks bodies = kernels_raw [] ks bodies
functions_raw (l ∷ ls) ks bodies = by_test (has_words l.payload) (λ b. functions_raw ls ks b) where
  by_test : (b : Bool) → ((bodies : List (List ℕ)) → AreRaw (kernels_after ls ks bodies))
      → AreRaw (if b then words_lines l bodies ++ kernels_after ls ks (other_bodies (other_bodies bodies)) else kernels_after ls ks bodies)
  by_test true f = raw_both (words_lines l bodies) (kernels_after ls ks (other_bodies (other_bodies bodies))) (words_raw l bodies) (f (other_bodies (other_bodies bodies)))
  by_test false f = f bodies

seats_raw : (k : ℕ) (bs fs : List Sum) → AreRaw (seat_lines k bs fs)
seats_raw k [] fs = λ p. refl
seats_raw k (b ∷ bs) [] = λ p. refl
seats_raw k (b ∷ bs) (f ∷ fs) = λ p. same_first (same_first (same_first (same_first (seats_raw (k + 1) bs fs p))))

main_raw : (q : Program) → AreRaw (main_start q)
main_raw q = raw_both (start_lines ++ size_lines q.range (ranks_of q.roles)) (seat_lines 0 (bases_of q.roles) (places_of q.roles)) (λ p. refl) (seats_raw 0 (bases_of q.roles) (places_of q.roles))

head_raw : (q : Program) → AreRaw (head_lines q)
head_raw q = raw_both (words 0 (codes "/* pabble 1 */") ∷ line 0 (raw (P.joined (codes "/* protocol " ∷ q.protocol ∷ codes " */" ∷ []))) (is_name q.protocol) ∷ line 0 (raw (range_text q.range)) (is_range q.range) ∷ role_lines q.range [] q.roles) (with_rule (has_size q) (label_lines [] q.labels ++ buffer_lines)) (λ p. same_first (same_first (same_first (roles_raw q.range [] q.roles p)))) (ruled_raw (has_size q) [] q.labels)

frame_raw : (q : Program) (prelude : List ℕ) (bodies : List (List ℕ)) → AreRaw (frame_lines q prelude bodies)
frame_raw q prelude bodies =
    let numbers = number_lines q.roles (places_of q.roles) in
    let functions = kernels_after q.labels q.kernels bodies in
    raw_both (head_lines q ++ prelude_lines prelude ++ numbers ++ functions) (main_start q)
    (raw_both (head_lines q ++ prelude_lines prelude ++ numbers) functions
    (raw_both (head_lines q ++ prelude_lines prelude) numbers
    (raw_both (head_lines q) (prelude_lines prelude) (head_raw q) (prelude_raw prelude)) (numbers_raw q.roles (places_of q.roles))) (functions_raw q.labels q.kernels bodies)) (main_raw q)

pub starts_texts : StartsTexts
starts_texts p prelude bodies =
    ap (map (shown_of p)) (text_is p prelude bodies) ∙ map_both (shown_of p) (frame_lines p prelude bodies) (behind_frame p)
    ∙ ap (λ w. w ++ map (shown_of p) (behind_frame p)) (frame_raw p prelude bodies p ∙ frame_ahead p prelude bodies)
