-- The text of the lines around the statements is what the printer writes.
use Rattle.std.proofs.Common.{◌≡◌, ℕ, ◌+◌, Bool, true, false, List, [], ◌∷◌, ◌++◌, refl, sym, ap, ◌∙◌, append_assoc, append-nil, map}
use Rattle.std.specs.Prelude.{if◌then◌else◌, codes, decimal, not}
use Rattle.std.specs.Fmt.{signed_decimal}
use Rattle.pb_affine.specs.declared.range.NRange.{NRange}
use Rattle.pb_syntax.specs.declared.core_label.CoreLabel.{CoreLabel}
use Rattle.pb_syntax.specs.declared.core_label.CoreKernel.{CoreKernel}
use Rattle.pb_local.specs.declared.tables.Role.{Role}
use Rattle.pb_local.specs.Pieces as P
use Rattle.pb_local.specs.Ranks.{Sum, ranks_of, bases_of, places_of}
use Rattle.pb_local.specs.Tree.{Program}
use Rattle.pb_local.specs.WellMade.{outermost}
use Rattle.pb_ctree.specs.Bodies.{is_marker, lines_of}
use Rattle.pb_ctree.specs.Frame.{role_lines, label_lines, buffer_lines, with_rule, head_lines, body_lines, prelude_lines, number_lines, function_lines, kernel_lines, words_lines, kernels_after, start_lines, size_lines, seat_lines, end_lines, main_lines, text_lines, words, range_text, n_text, size_text, make_head, take_head, kernel_head, kernel_letter, first_body, other_bodies}
use Rattle.pb_ctree.specs.Functions.{has_words}
use Rattle.pb_ctree.specs.Lines.{raw, Line, line}
use Rattle.pb_ctree.specs.Rules.{is_role, is_label_row, is_kernel_row, has_size, is_single}
use Rattle.pb_ctree.specs.Spelling.{spelled_all}
use Rattle.pb_ctree.specs.Texts.{text_of, text}
use Rattle.pb_cprint.specs.Framed.{title, protocol_line, range_line, role_line, label_line, roles_written, labels_written, buffers_written, head_written, end_marker, prelude_marker, lines_text, body_written, prelude_written, brace, end_brace, place_head, place_line, number_written, numbers_written, make_line, take_line, kernel_line, make_marker, take_marker, kernel_marker, function_end, make_written, take_written, kernel_written, label_written, behind_label, words_written, bodies_behind, kernels_written, start_written, zeros_written, abort_size, n_single, n_divided, n_written, test_size, size_written, rank_line, role_is, index_is, seat_end, seat_written, seats_written, end_written, before_main, functions_written, main_written, text_written}
use Rattle.pb_cprint.specs.Written.{written_all}
use Rattle.pb_cprint.proofs.Texts.{text_append, right2, both, all_same}

-- texts one after another
pub three_and : (a b c d e : List ℕ) → d ≡ e → a ++ (b ++ (c ++ d)) ≡ ((a ++ b) ++ c) ++ e
three_and a b c d e same = sym (append_assoc a b (c ++ d)) ∙ sym (append_assoc (a ++ b) c d) ∙ ap (λ w. ((a ++ b) ++ c) ++ w) same

pub four_and : (a b c d e f : List ℕ) → e ≡ f → a ++ (b ++ (c ++ (d ++ e))) ≡ (((a ++ b) ++ c) ++ d) ++ f
four_and a b c d e f same = three_and a b c (d ++ e) (d ++ e) refl ∙ sym (append_assoc ((a ++ b) ++ c) d e) ∙ ap (λ w. (((a ++ b) ++ c) ++ d) ++ w) same

four : (a b c d : List ℕ) → a ++ (b ++ (c ++ (d ++ []))) ≡ ((a ++ b) ++ c) ++ d
four a b c d = four_and a b c d [] [] refl ∙ append-nil (((a ++ b) ++ c) ++ d)

-- ---- the head

pub roles_same : (p : Program) (range : NRange) (before : List (List ℕ)) (rs : List Role) → text_of p (role_lines range before rs) ≡ roles_written rs
unfolding role_line
roles_same p range before [] = refl
roles_same p range before (r ∷ rs) = ap (λ w. role_line r ++ w) (roles_same p range (before ++ r.name ∷ []) rs)

pub labels_same : (p : Program) (before : List (List ℕ)) (ls : List CoreLabel) → text_of p (label_lines before ls) ≡ labels_written ls
unfolding label_line
labels_same p before [] = refl
labels_same p before (l ∷ ls) = ap (λ w. label_line l ++ w) (labels_same p (before ++ l.name ∷ []) ls)

rule_same : (p : Program) (rule : Bool) (ls : List Line) → text_of p (with_rule rule ls) ≡ text_of p ls
rule_same p rule [] = refl
rule_same p rule (l ∷ ls) = refl

pub buffers_same : (p : Program) → text_of p buffer_lines ≡ buffers_written
unfolding buffers_written
buffers_same p = refl

head_same : (p : Program) → text_of p (head_lines p) ≡ head_written p
unfolding head_written title protocol_line range_line
head_same p =
    let first = words 0 (codes "/* pabble 1 */") ∷ line 0 (raw (P.joined (codes "/* protocol " ∷ p.protocol ∷ codes " */" ∷ []))) true ∷ line 0 (raw (range_text p.range)) true ∷ role_lines p.range [] p.roles in
    let others = label_lines [] p.labels ++ buffer_lines in
    let front : text_of p first ≡ title ++ protocol_line p.protocol ++ range_line p.range ++ roles_written p.roles =
    three_and title (protocol_line p.protocol) (range_line p.range) (text_of p (role_lines p.range [] p.roles)) (roles_written p.roles) (roles_same p p.range [] p.roles) in
    let behind : text_of p (with_rule (has_size p) others) ≡ labels_written p.labels ++ buffers_written =
    rule_same p (has_size p) others ∙ text_append p (label_lines [] p.labels) buffer_lines ∙ both (text_of p (label_lines [] p.labels)) (text_of p buffer_lines) (labels_written p.labels) buffers_written (labels_same p [] p.labels) (buffers_same p) in
    text_append p first (with_rule (has_size p) others)
    ∙ both (text_of p first) (text_of p (with_rule (has_size p) others)) (title ++ protocol_line p.protocol ++ range_line p.range ++ roles_written p.roles) (labels_written p.labels ++ buffers_written) front behind
    ∙ sym (append_assoc (title ++ protocol_line p.protocol ++ range_line p.range ++ roles_written p.roles) (labels_written p.labels) buffers_written)

-- ---- bodies

pub lines_same : (p : Program) (ls : List (List ℕ)) → text_of p (map (λ l. line 0 (raw l) (not (is_marker l))) ls) ≡ lines_text ls
lines_same p [] = refl
lines_same p (l ∷ ls) = ap (λ w. (l ++ 10 ∷ []) ++ w) (lines_same p ls)

pub body_lines_same : (p : Program) (body : List ℕ) → text_of p (body_lines body) ≡ body_written body
unfolding body_written
body_lines_same p body = lines_same p (lines_of body)

pub prelude_same : (p : Program) (prelude : List ℕ) → text_of p (prelude_lines prelude) ≡ prelude_written prelude
unfolding prelude_written prelude_marker end_marker
prelude_same p prelude =
    let first = words 0 (codes "/*@ prelude */") ∷ body_lines prelude in
    let last = words 0 (codes "/*@ end */") ∷ [] in
    text_append p first last
    ∙ both (text_of p first) (text_of p last) (prelude_marker ++ body_written prelude) end_marker (ap (λ w. prelude_marker ++ w) (body_lines_same p prelude)) (append-nil _)

-- ---- the numbers of ranks

pub numbers_same : (p : Program) (rs : List Role) (fs : List Sum) → text_of p (number_lines rs fs) ≡ numbers_written rs fs
unfolding number_written place_head brace place_line end_brace
numbers_same p [] fs = refl
numbers_same p (r ∷ rs) [] = refl
numbers_same p (r ∷ rs) (f ∷ fs) =
    four_and (place_head r) brace (place_line f) end_brace (text_of p (number_lines rs fs)) (numbers_written rs fs) (numbers_same p rs fs)

-- ---- kernel functions

abbrev marked : List ℕ → List ℕ
marked name = P.line 0 (P.joined (codes "/*@ kernel " ∷ name ∷ codes " */" ∷ []))

pub function_same : (p : Program) (head name body : List ℕ) (kept : Bool) → text_of p (function_lines head kept name body) ≡ P.line 0 head ++ brace ++ marked name ++ body_written body ++ function_end
unfolding brace function_end end_marker end_brace
function_same p head name body kept =
    let first = line 0 (raw head) kept ∷ words 0 (codes "{") ∷ words 0 (P.joined (codes "/*@ kernel " ∷ name ∷ codes " */" ∷ [])) ∷ body_lines body in
    let last = words 0 (codes "/*@ end */") ∷ words 0 (codes "}") ∷ [] in
    text_append p first last
    ∙ both (text_of p first) (text_of p last) (P.line 0 head ++ brace ++ marked name ++ body_written body) function_end
    (three_and (P.line 0 head) brace (marked name) (text_of p (body_lines body)) (body_written body) (body_lines_same p body))
    (right2 end_marker end_brace)

make_same : (p : Program) (l : CoreLabel) (body : List ℕ) → text_of p (function_lines (make_head l) true (codes "make_" ++ l.name) body) ≡ make_written l body
unfolding make_written make_line make_marker
make_same p l body = function_same p (make_head l) (codes "make_" ++ l.name) body true

take_same : (p : Program) (l : CoreLabel) (body : List ℕ) → text_of p (function_lines (take_head l) true (codes "take_" ++ l.name) body) ≡ take_written l body
unfolding take_written take_line take_marker
take_same p l body = function_same p (take_head l) (codes "take_" ++ l.name) body true

marker_same : (k : CoreKernel) → marked (kernel_letter k.kind ++ k.name) ≡ kernel_marker k
unfolding kernel_marker
marker_same k = ap (λ w. P.line 0 (codes "/*@ kernel " ++ w)) (append_assoc (kernel_letter k.kind) k.name (codes " */" ++ []))

pub kernel_same : (p : Program) (k : CoreKernel) (kept : Bool) (body : List ℕ) → text_of p (function_lines (kernel_head k) kept (kernel_letter k.kind ++ k.name) body) ≡ kernel_written k body
unfolding kernel_written kernel_line
kernel_same p k kept body =
    function_same p (kernel_head k) (kernel_letter k.kind ++ k.name) body kept
    ∙ ap (λ w. kernel_line k ++ brace ++ w ++ body_written body ++ function_end) (marker_same k)

pub kernels_same : (p : Program) (before : List (List ℕ)) (ks : List CoreKernel) (bodies : List (List ℕ)) → text_of p (kernel_lines before ks bodies) ≡ kernels_written ks bodies
kernels_same p before [] bodies = refl
kernels_same p before (k ∷ ks) bodies =
    let xs = function_lines (kernel_head k) (is_kernel_row before k) (kernel_letter k.kind ++ k.name) (first_body bodies) in
    let ys = kernel_lines (before ++ k.name ∷ []) ks (other_bodies bodies) in
    text_append p xs ys
    ∙ both (text_of p xs) (text_of p ys) (kernel_written k (first_body bodies)) (kernels_written ks (other_bodies bodies)) (kernel_same p k (is_kernel_row before k) (first_body bodies)) (kernels_same p (before ++ k.name ∷ []) ks (other_bodies bodies))

words_same : (p : Program) (l : CoreLabel) (bodies : List (List ℕ)) → text_of p (words_lines l bodies) ≡ make_written l (first_body bodies) ++ take_written l (first_body (other_bodies bodies))
words_same p l bodies =
    let xs = function_lines (make_head l) true (codes "make_" ++ l.name) (first_body bodies) in
    let ys = function_lines (take_head l) true (codes "take_" ++ l.name) (first_body (other_bodies bodies)) in
    text_append p xs ys
    ∙ both (text_of p xs) (text_of p ys) (make_written l (first_body bodies)) (take_written l (first_body (other_bodies bodies))) (make_same p l (first_body bodies)) (take_same p l (first_body (other_bodies bodies)))

abbrev rest_written : List CoreLabel → List CoreKernel → List (List ℕ) → List ℕ
rest_written ls ks bodies = words_written ls bodies ++ kernels_written ks (bodies_behind ls bodies)

after_same : (p : Program) (ls : List CoreLabel) (ks : List CoreKernel) (bodies : List (List ℕ)) → text_of p (kernels_after ls ks bodies) ≡ rest_written ls ks bodies
unfolding label_written behind_label
after_same p [] ks bodies = kernels_same p [] ks bodies
after_same p (l ∷ ls) ks bodies =
    by_words (has_words l.payload) (after_same p ls ks (other_bodies (other_bodies bodies))) (after_same p ls ks bodies) where
      by_words : (b : Bool) → text_of p (kernels_after ls ks (other_bodies (other_bodies bodies))) ≡ rest_written ls ks (other_bodies (other_bodies bodies)) → text_of p (kernels_after ls ks bodies) ≡ rest_written ls ks bodies
          → text_of p (if b then words_lines l bodies ++ kernels_after ls ks (other_bodies (other_bodies bodies)) else kernels_after ls ks bodies)
          ≡ (if b then make_written l (first_body bodies) ++ take_written l (first_body (other_bodies bodies)) else [])
          ++ words_written ls (if b then other_bodies (other_bodies bodies) else bodies) ++ kernels_written ks (bodies_behind ls (if b then other_bodies (other_bodies bodies) else bodies))
      by_words true behind here =
          let two = make_written l (first_body bodies) ++ take_written l (first_body (other_bodies bodies)) in
          let rest = other_bodies (other_bodies bodies) in
          text_append p (words_lines l bodies) (kernels_after ls ks rest)
          ∙ both (text_of p (words_lines l bodies)) (text_of p (kernels_after ls ks rest)) two (rest_written ls ks rest) (words_same p l bodies) behind
          ∙ sym (append_assoc two (words_written ls rest) (kernels_written ks (bodies_behind ls rest)))
      by_words false behind here = here

-- ---- main

pub start_same : (p : Program) → text_of p start_lines ≡ start_written
unfolding start_written
start_same p = refl

n_same : (range : NRange) (size : Sum) → P.line 1 (n_text range size) ≡ n_written range size
unfolding n_single n_divided
n_same range size = by_range (is_single range) where
  by_range : (b : Bool) → P.line 1 (if b then P.joined (codes "N = " ∷ decimal range.low ∷ codes ";" ∷ []) else P.joined (codes "N = (size - " ∷ signed_decimal size.b ∷ codes ") / " ∷ signed_decimal size.a ∷ codes ";" ∷ []))
      ≡ (if b then n_single range else n_divided size)
  by_range true = refl
  by_range false = refl

pub size_same : (p : Program) (range : NRange) (size : Sum) → text_of p (size_lines range size) ≡ size_written range size
unfolding size_written zeros_written test_size abort_size
size_same p range size =
    four (P.line 1 (n_text range size)) zeros_written (test_size range size) abort_size
    ∙ ap (λ w. w ++ zeros_written ++ test_size range size ++ abort_size) (n_same range size)

pub seats_same : (p : Program) (k : ℕ) (bs fs : List Sum) → text_of p (seat_lines k bs fs) ≡ seats_written k bs fs
unfolding seat_written rank_line role_is index_is seat_end
seats_same p k [] fs = refl
seats_same p k (b ∷ bs) [] = refl
seats_same p k (b ∷ bs) (f ∷ fs) =
    four_and (rank_line b) (role_is k) (index_is f) seat_end (text_of p (seat_lines (k + 1) bs fs)) (seats_written (k + 1) bs fs) (seats_same p (k + 1) bs fs)

pub end_same : (p : Program) → text_of p end_lines ≡ end_written
unfolding end_written
end_same p = refl

-- five lists of lines
five : (p : Program) (a b c d e : List Line) (va vb vc vd ve : List ℕ) → text_of p a ≡ va → text_of p b ≡ vb → text_of p c ≡ vc → text_of p d ≡ vd → text_of p e ≡ ve
    → text_of p (a ++ b ++ c ++ d ++ e) ≡ va ++ vb ++ vc ++ vd ++ ve
five p a b c d e va vb vc vd ve ea eb ec ed ee =
    text_append p (a ++ b ++ c ++ d) e ∙ both (text_of p (a ++ b ++ c ++ d)) (text_of p e) (va ++ vb ++ vc ++ vd) ve
    (text_append p (a ++ b ++ c) d ∙ both (text_of p (a ++ b ++ c)) (text_of p d) (va ++ vb ++ vc) vd
    (text_append p (a ++ b) c ∙ both (text_of p (a ++ b)) (text_of p c) (va ++ vb) vc
    (text_append p a b ∙ both (text_of p a) (text_of p b) va vb ea eb) ec) ed) ee

main_same : (p : Program) → text_of p (main_lines p) ≡ main_written p
unfolding main_written
main_same p =
    five p start_lines (size_lines p.range (ranks_of p.roles)) (seat_lines 0 (bases_of p.roles) (places_of p.roles)) (spelled_all p 1 outermost p.body) end_lines
    start_written (size_written p.range (ranks_of p.roles)) (seats_written 0 (bases_of p.roles) (places_of p.roles)) (written_all p 1 p.body) end_written
    (start_same p) (size_same p p.range (ranks_of p.roles)) (seats_same p 0 (bases_of p.roles) (places_of p.roles)) (all_same p 1 outermost p.body) (end_same p)

-- the text of all lines
pub text_same : (p : Program) (prelude : List ℕ) (bodies : List (List ℕ)) → text p prelude bodies ≡ text_written p prelude bodies
unfolding before_main functions_written
text_same p prelude bodies =
    five p (head_lines p) (prelude_lines prelude) (number_lines p.roles (places_of p.roles)) (kernels_after p.labels p.kernels bodies) (main_lines p)
    (head_written p) (prelude_written prelude) (numbers_written p.roles (places_of p.roles)) (rest_written p.labels p.kernels bodies) (main_written p)
    (head_same p) (prelude_same p prelude) (numbers_same p p.roles (places_of p.roles)) (after_same p p.labels p.kernels bodies) (main_same p)
