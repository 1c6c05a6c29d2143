-- The lines of a text are those of a kernel file with its bodies.
use Rattle.std.proofs.Common.{◌≡◌, ℕ, ◌+◌, Bool, true, false, not, ◌&&◌, if◌then◌else◌, List, [], ◌∷◌, ◌++◌, length, map, codes, refl, sym, ap, subst, ◌∙◌, arith, append_assoc, append-nil, All, nat_eq, zip}
use Rattle.std.proofs.Math.Bool.{and-false}
use Rattle.std.proofs.lemmas.List.{map-append}
use Rattle.std.proofs.lemmas.List.Elements.{All-head, All-tail}
use Rattle.pb_syntax.specs.declared.core_label.CoreLabel.{CoreLabel}
use Rattle.pb_syntax.specs.declared.core_label.CoreKernel.{CoreKernel}
use Rattle.pb_syntax.specs.declared.core_label.KernelKind.{KernelKind}
use Rattle.pb_syntax.specs.declared.core_label.KernelKind.TheVariants as kernel
use Rattle.pb_affine.specs.declared.range.NRange.{NRange}
use Rattle.pb_local.specs.declared.tables.Role.{Role}
use Rattle.pb_local.specs.Names.{is_name}
use Rattle.pb_local.specs.Pieces as P
use Rattle.pb_local.specs.Ranks.{Sum, ranks_of, bases_of, places_of}
use Rattle.pb_local.specs.Tree.{Program}
use Rattle.pb_local.specs.WellMade.{IsWellMade, outermost}
use Rattle.pb_ctree.specs.declared.kernel.Kind.TheVariants.{Make, Take}
use Rattle.pb_ctree.specs.declared.kernel.KName.{KName}
use Rattle.pb_ctree.specs.Bodies.{is_marker, is_body, lines_of}
use Rattle.pb_ctree.specs.Frame.{words, role_lines, label_lines, buffer_lines, with_rule, head_lines, body_lines, prelude_lines, number_lines, function_lines, make_head, take_head, kernel_head, kernel_letter, kernel_type, other_bodies, kernel_lines, words_lines, kernels_after, start_lines, size_lines, seat_lines, end_lines, main_lines, text_lines}
use Rattle.pb_ctree.specs.Functions.{has_words, named, kernel_function, labels_functions, functions_of}
use Rattle.pb_ctree.specs.Lines.{raw, Line, line}
use Rattle.pb_ctree.specs.Rules.{has_size, is_kernel_row}
use Rattle.pb_ctree.specs.Spelling.{spelled_all}
use Rattle.pb_ctree.specs.Texts.{line_text}
use Rattle.pb_ctree_laws.specs.Laws.{whole}
use Rattle.pb_ctree_laws.proofs.Bodies.{bodies_are_lines}
use Rattle.pb_kernels.specs.declared.dialect.Dialect.TheVariants.{Plain}
use Rattle.pb_kernels.specs.declared.file.NamedBody.{NamedBody}
use Rattle.pb_kernels.specs.declared.marker.Marker.TheVariants.{Opening}
use Rattle.pb_kernels.specs.Format.{IsBody, IsFile}
use Rattle.pb_kernels.specs.Format as F
use Rattle.pb_kernels.specs.Marks.{prelude_name, marker_of}
use Rattle.pb_kernels.specs.Names.{named_bodies}
use Rattle.pb_kernels_laws.specs.Laws.{bodies_by_name}
use Rattle.pb_kernels_laws.proofs.Marked.{mark_line, make_marked, take_marked, kernel_marked, prelude_marked, end_marked}
use Rattle.pb_kernels_laws.proofs.Stated.{ArePlain, plain_both, statements_plain}

-- ---- lines that come before those of a file

-- in front of a file's lines these add these bodies to the file
abbrev Adds : Program → List Line → List NamedBody → Type 0
Adds p ls list = (rest : List (List ℕ)) (tail : List NamedBody) → IsFile Plain rest tail → IsFile Plain (map (line_text p) ls ++ rest) (list ++ tail)

seam : (p : Program) (a b : List Line) (rest : List (List ℕ)) → map (line_text p) a ++ (map (line_text p) b ++ rest) ≡ map (line_text p) (a ++ b) ++ rest
seam p a b rest = sym (append_assoc (map (line_text p) a) (map (line_text p) b) rest) ∙ ap (λ x. x ++ rest) (sym (map-append (line_text p) a b))

adds_both : (p : Program) (a b : List Line) (x y : List NamedBody) → Adds p a x → Adds p b y → Adds p (a ++ b) (x ++ y)
adds_both p a b x y f g = λ rest tail file.
    subst (λ (ls : List (List ℕ)). IsFile Plain ls ((x ++ y) ++ tail)) (seam p a b rest)
    (subst (λ (list : List NamedBody). IsFile Plain (map (line_text p) a ++ (map (line_text p) b ++ rest)) list) (sym (append_assoc x y tail))
    (f (map (line_text p) b ++ rest) (y ++ tail) (g rest tail file)))

adds_none : (p : Program) (ls : List Line) → ArePlain p ls → Adds p ls []
adds_none p [] plain = λ rest tail file. file
adds_none p (l ∷ ls) plain = λ rest tail file. F.pass (line_text p l) plain.0 (adds_none p ls plain.1 rest tail file)

-- behind lines that add bodies, lines that add none
adds_behind : (p : Program) (a b : List Line) (x : List NamedBody) → Adds p a x → ArePlain p b → Adds p (a ++ b) x
adds_behind p a b x f plain = λ rest tail file.
    subst (λ (ls : List (List ℕ)). IsFile Plain ls (x ++ tail)) (seam p a b rest) (f (map (line_text p) b ++ rest) tail (adds_none p b plain rest tail file))

-- ---- bodies

abbrev end_text : List ℕ
end_text = P.line 0 (codes "/*@ end */")

-- a line feed behind a line makes it no marker
feed_plain : (l : List ℕ) → is_marker l ≡ false → is_marker (l ++ 10 ∷ []) ≡ false
feed_plain [] e = refl
feed_plain (a ∷ []) e = and-false (nat_eq 47 a)
feed_plain (a ∷ b ∷ []) e = ap (λ t. nat_eq 47 a && t) (and-false (nat_eq 42 b)) ∙ and-false (nat_eq 47 a)
feed_plain (a ∷ b ∷ c ∷ cs) e = e

-- lines without line feeds, as a body's are written
abbrev raw_lines : List (List ℕ) → List Line
raw_lines ls = map (λ l. line 0 (raw l) (not (is_marker l))) ls

abbrev IsPlainText : List ℕ → Type 0
IsPlainText l = is_marker l ≡ false

lines_inside : (p : Program) (ls rest : List (List ℕ)) → All (λ l. is_marker l ≡ false) ls → IsBody Plain rest (map (line_text p) (raw_lines ls) ++ (end_text ∷ rest)) (whole ls)
lines_inside p [] rest plain = F.close end_text refl end_marked
lines_inside p (l ∷ ls) rest plain =
    subst (λ (bytes : List ℕ). IsBody Plain rest ((l ++ 10 ∷ []) ∷ (map (line_text p) (raw_lines ls) ++ (end_text ∷ rest))) bytes) (append_assoc l (10 ∷ []) (whole ls))
    (F.more (l ++ 10 ∷ []) (feed_plain l (All-head IsPlainText l ls plain)) (lines_inside p ls rest (All-tail IsPlainText l ls plain)))

body_inside : (p : Program) (body : List ℕ) (rest : List (List ℕ)) → is_body body ≡ true → IsBody Plain rest (map (line_text p) (body_lines body) ++ (end_text ∷ rest)) body
body_inside p body rest e =
    let is = (bodies_are_lines body).0 e in
    subst (λ (bytes : List ℕ). IsBody Plain rest (map (line_text p) (body_lines body) ++ (end_text ∷ rest)) bytes) is.0 (lines_inside p (lines_of body) rest is.1)

-- the line that opens a body, the body, the line that closes it, and lines that are no markers
body_added : (p : Program) (opens : List ℕ) (name : KName) (body : List ℕ) (after : List Line) → is_marker (P.line 0 opens) ≡ true → marker_of Plain (P.line 0 opens) ≡ Opening name
    → is_body body ≡ true → ArePlain p after → Adds p (words 0 opens ∷ (body_lines body ++ (words 0 (codes "/*@ end */") ∷ after))) (record { name = name; body = body } ∷ [])
body_added p opens name body after marker opening e plain = λ rest tail file.
    let behind = map (line_text p) after ++ rest in
    let lines : map (line_text p) (body_lines body) ++ (end_text ∷ behind) ≡ map (line_text p) (body_lines body ++ (words 0 (codes "/*@ end */") ∷ after)) ++ rest =
    seam p (body_lines body) (words 0 (codes "/*@ end */") ∷ after) rest in
    F.body (P.line 0 opens) name marker opening (subst (λ (ls : List (List ℕ)). IsBody Plain behind ls body) lines (body_inside p body behind e)) (adds_none p after plain rest tail file)

-- ---- functions

function_added : (p : Program) (head : List ℕ) (kept : Bool) (name : List ℕ) (function : KName) (body : List ℕ) → is_marker (P.line 0 head) ≡ false
    → marker_of Plain (mark_line name) ≡ Opening function → is_body body ≡ true → Adds p (function_lines head kept name body) (record { name = function; body = body } ∷ [])
function_added p head kept name function body plain opening e = λ rest tail file.
    F.pass (P.line 0 head) plain
    (F.pass (P.line 0 (codes "{")) refl (body_added p (P.joined (codes "/*@ kernel " ∷ name ∷ codes " */" ∷ [])) function body (words 0 (codes "}") ∷ []) refl opening e (refl, tt) rest tail file))

kernel_plain : (k : CoreKernel) → is_marker (P.line 0 (kernel_head k)) ≡ false
kernel_plain k = at k.kind where
  at : (what : KernelKind) → is_marker (P.line 0 (P.joined (kernel_type what ∷ kernel_letter what ∷ k.name ∷ codes "(int32_t N, int32_t role, int32_t index)" ∷ []))) ≡ false
  at kernel.Compute = refl
  at kernel.Choice = refl

abbrev IsBodyText : List ℕ → Type 0
IsBodyText b = is_body b ≡ true

abbrev HasLabelName : CoreLabel → Type 0
HasLabelName l = is_name l.name ≡ true

abbrev HasKernelName : CoreKernel → Type 0
HasKernelName k = is_name k.name ≡ true

kernels_added : (p : Program) (names : List (List ℕ)) (ks : List CoreKernel) (bodies : List (List ℕ)) → All HasKernelName ks → All IsBodyText bodies → length bodies ≡ length (map kernel_function ks)
    → Adds p (kernel_lines names ks bodies) (named_bodies (zip (map kernel_function ks) bodies))
kernels_added p names [] bodies named each many = λ rest tail file. file
kernels_added p names (k ∷ ks) [] named each many = absurd cc
kernels_added p names (k ∷ ks) (b ∷ bs) named each many =
    adds_both p (function_lines (kernel_head k) (is_kernel_row names k) (kernel_letter k.kind ++ k.name) b) (kernel_lines (names ++ k.name ∷ []) ks bs)
    (record { name = kernel_function k; body = b } ∷ []) (named_bodies (zip (map kernel_function ks) bs))
    (function_added p (kernel_head k) (is_kernel_row names k) (kernel_letter k.kind ++ k.name) (kernel_function k) b (kernel_plain k) (kernel_marked k.kind k.name (All-head HasKernelName k ks named)) (All-head IsBodyText b bs each))
    (kernels_added p (names ++ k.name ∷ []) ks bs (All-tail HasKernelName k ks named) (All-tail IsBodyText b bs each) (omega (arith, many)))

functions_added : (p : Program) (ls : List CoreLabel) (ks : List CoreKernel) (bodies : List (List ℕ)) → All HasLabelName ls → All HasKernelName ks → All IsBodyText bodies
    → length bodies ≡ length (labels_functions ls ++ map kernel_function ks) → Adds p (kernels_after ls ks bodies) (named_bodies (zip (labels_functions ls ++ map kernel_function ks) bodies))
functions_added p [] ks bodies labels kernels each many = kernels_added p [] ks bodies kernels each many
functions_added p (l ∷ ls) ks bodies labels kernels each many =
    at (has_words l.payload) bodies each many (λ others other_each other_many. functions_added p ls ks others (All-tail HasLabelName l ls labels) kernels other_each other_many) where
      named_so : is_name l.name ≡ true
      named_so = All-head HasLabelName l ls labels

      at : (b : Bool) (bodies : List (List ℕ)) → All IsBodyText bodies → length bodies ≡ length ((if b then named Make l.name ∷ named Take l.name ∷ [] else []) ++ labels_functions ls ++ map kernel_function ks)
          → ((others : List (List ℕ)) → All IsBodyText others → length others ≡ length (labels_functions ls ++ map kernel_function ks)
          → Adds p (kernels_after ls ks others) (named_bodies (zip (labels_functions ls ++ map kernel_function ks) others))) → Adds p (if b then words_lines l bodies ++ kernels_after ls ks (other_bodies (other_bodies bodies)) else kernels_after ls ks bodies)
          (named_bodies (zip ((if b then named Make l.name ∷ named Take l.name ∷ [] else []) ++ labels_functions ls ++ map kernel_function ks) bodies))
      at false bodies each many next = next bodies each many
      at true [] each many next = absurd cc
      at true (a ∷ []) each many next = absurd (omega (arith, many))
      at true (a ∷ b ∷ bs) each many next =
          let others = All-tail IsBodyText a (b ∷ bs) each in
          adds_both p (words_lines l (a ∷ b ∷ bs)) (kernels_after ls ks bs) (record { name = named Make l.name; body = a } ∷ record { name = named Take l.name; body = b } ∷ []) (named_bodies (zip (labels_functions ls ++ map kernel_function ks) bs))
          (adds_both p (function_lines (make_head l) true (codes "make_" ++ l.name) a) (function_lines (take_head l) true (codes "take_" ++ l.name) b)
          (record { name = named Make l.name; body = a } ∷ []) (record { name = named Take l.name; body = b } ∷ [])
          (function_added p (make_head l) true (codes "make_" ++ l.name) (named Make l.name) a refl (make_marked l.name named_so) (All-head IsBodyText a (b ∷ bs) each))
          (function_added p (take_head l) true (codes "take_" ++ l.name) (named Take l.name) b refl (take_marked l.name named_so) (All-head IsBodyText b bs others)))
          (next bs (All-tail IsBodyText b bs others) (omega (arith, many)))

-- ---- the other lines

roles_plain : (p : Program) (range : NRange) (names : List (List ℕ)) (rs : List Role) → ArePlain p (role_lines range names rs)
roles_plain p range names [] = tt
roles_plain p range names (r ∷ rs) = (refl, roles_plain p range (names ++ r.name ∷ []) rs)

labels_plain : (p : Program) (names : List (List ℕ)) (ls : List CoreLabel) → ArePlain p (label_lines names ls)
labels_plain p names [] = tt
labels_plain p names (l ∷ ls) = (refl, labels_plain p (names ++ l.name ∷ []) ls)

rule_plain : (p : Program) (rule : Bool) (ls : List Line) → ArePlain p ls → ArePlain p (with_rule rule ls)
rule_plain p rule [] plain = tt
rule_plain p rule (l ∷ ls) plain = plain

head_plain : (p : Program) → ArePlain p (head_lines p)
head_plain p = (
  refl,
  (
    refl,
    (
      refl,
      plain_both p (role_lines p.range [] p.roles) (with_rule (has_size p) (label_lines [] p.labels ++ buffer_lines)) (roles_plain p p.range [] p.roles)
          (rule_plain p (has_size p) (label_lines [] p.labels ++ buffer_lines) (plain_both p (label_lines [] p.labels) buffer_lines (labels_plain p [] p.labels) (refl, (refl, (refl, (refl, tt)))))),
    ),
  ),
)

numbers_plain : (p : Program) (rs : List Role) (fs : List Sum) → ArePlain p (number_lines rs fs)
numbers_plain p [] fs = tt
numbers_plain p (r ∷ rs) [] = tt
numbers_plain p (r ∷ rs) (f ∷ fs) = (refl, (refl, (refl, (refl, numbers_plain p rs fs))))

size_plain : (p : Program) (range : NRange) (size : Sum) → ArePlain p (size_lines range size)
size_plain p range size = (refl, (refl, (refl, (refl, (refl, (refl, (refl, (refl, tt))))))))

seats_plain : (p : Program) (k : ℕ) (bs fs : List Sum) → ArePlain p (seat_lines k bs fs)
seats_plain p k [] fs = tt
seats_plain p k (b ∷ bs) [] = tt
seats_plain p k (b ∷ bs) (f ∷ fs) = (refl, (refl, (refl, (refl, seats_plain p (k + 1) bs fs))))

main_plain : (p : Program) → ArePlain p (main_lines p)
main_plain p =
    let size = size_lines p.range (ranks_of p.roles) in
    let seats = seat_lines 0 (bases_of p.roles) (places_of p.roles) in
    let body = spelled_all p 1 outermost p.body in
    plain_both p (start_lines ++ size ++ seats ++ body) end_lines
    (plain_both p (start_lines ++ size ++ seats) body
    (plain_both p (start_lines ++ size) seats
    (plain_both p start_lines size (refl, (refl, (refl, (refl, (refl, (refl, (refl, (refl, tt)))))))) (size_plain p p.range (ranks_of p.roles)))
    (seats_plain p 0 (bases_of p.roles) (places_of p.roles)))
    (statements_plain p 1 outermost p.body))
    (refl, (refl, (refl, tt)))

-- ---- whole texts

text_added : (p : Program) (prelude : List ℕ) (bodies : List (List ℕ)) → IsWellMade p → length bodies ≡ length (functions_of p) → is_body prelude ≡ true → All IsBodyText bodies
    → Adds p (text_lines p prelude bodies) (bodies_by_name p prelude bodies)
text_added p prelude bodies made many one each =
    let numbers = number_lines p.roles (places_of p.roles) in
    let functions = kernels_after p.labels p.kernels bodies in
    let first : NamedBody = record { name = prelude_name; body = prelude } in
    let others = named_bodies (zip (functions_of p) bodies) in
    let label_names : All HasLabelName p.labels = λ k d less. (made.labels.each k d less).name in
    let preludes : Adds p (prelude_lines prelude) (first ∷ []) = body_added p (codes "/*@ prelude */") prelude_name prelude [] refl prelude_marked one tt in
    let start : Adds p (head_lines p ++ prelude_lines prelude) (first ∷ []) = adds_both p (head_lines p) (prelude_lines prelude) [] (first ∷ []) (adds_none p (head_lines p) (head_plain p)) preludes in
    let numbered : Adds p (head_lines p ++ prelude_lines prelude ++ numbers) (first ∷ []) = adds_behind p (head_lines p ++ prelude_lines prelude) numbers (first ∷ []) start (numbers_plain p p.roles (places_of p.roles)) in
    adds_behind p (head_lines p ++ prelude_lines prelude ++ numbers ++ functions) (main_lines p) (first ∷ others)
    (adds_both p (head_lines p ++ prelude_lines prelude ++ numbers) functions (first ∷ []) others numbered (functions_added p p.labels p.kernels bodies label_names made.kernels.each each many))
    (main_plain p)

pub text_is_file : (p : Program) (prelude : List ℕ) (bodies : List (List ℕ)) → IsWellMade p → length bodies ≡ length (functions_of p) → is_body prelude ≡ true → All (λ b. is_body b ≡ true) bodies
    → IsFile Plain (map (line_text p) (text_lines p prelude bodies)) (bodies_by_name p prelude bodies)
text_is_file p prelude bodies made many one each =
    let ls = map (line_text p) (text_lines p prelude bodies) in
    let list = bodies_by_name p prelude bodies in
    subst (λ (xs : List (List ℕ)). IsFile Plain xs list) (append-nil ls)
    (subst (λ (x : List NamedBody). IsFile Plain (ls ++ []) x) (append-nil list) (text_added p prelude bodies made many one each [] [] F.done))
