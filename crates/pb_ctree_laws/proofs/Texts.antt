-- A program is well made exactly where each line of its text keeps its rule.
use Rattle.std.proofs.Common.{◌≡◌, ℕ, ◌+◌, ◌≤◌, ◌≤ℤ◌, pos, ◌⊎◌, Bool, true, false, ◌&&◌, if◌then◌else◌, IsTrue, List, [], ◌∷◌, ◌++◌, length, get_or, map, refl, sym, ◌∙◌, arith, Decides, All, codes}
use Rattle.std.proofs.lemmas.Bool.{and_from, and_parts}
use Rattle.std.proofs.lemmas.Bool.Decides.{Decides-and, Decides-like}
use Rattle.std.proofs.lemmas.List.Elements.{All-nil, All-cons, All-head, All-tail, All-weaker}
use Rattle.pb_affine.specs.declared.range.NRange.{NRange}
use Rattle.pb_syntax.specs.declared.core_label.CoreLabel.{CoreLabel}
use Rattle.pb_syntax.specs.declared.core_label.CoreKernel.{CoreKernel}
use Rattle.pb_local.specs.declared.tables.Role.{Role}
use Rattle.pb_local.specs.Names.{is_name}
use Rattle.pb_local.specs.Ranks.{Sum, ranks_of, bases_of, places_of}
use Rattle.pb_local.specs.Tree.{Program}
use Rattle.pb_local.specs.WellMade.{IsRange, IsRole, IsLabelRow, IsSingle, AreRoles, AreLabels, AreKernels, outermost, AreMade, IsWellMade}
use Rattle.pb_ctree.specs.declared.kernel.KName.{KName}
use Rattle.pb_ctree.specs.Bodies.{is_marker, is_body}
use Rattle.pb_ctree.specs.declared.kernel.Kind.TheVariants.{Make, Take}
use Rattle.pb_ctree.specs.Frame.{words, role_lines, label_lines, buffer_lines, with_rule, head_lines, body_lines, prelude_lines, number_lines, function_lines, make_head, take_head, kernel_head, kernel_letter, first_body, other_bodies, kernel_lines, words_lines, kernels_after, start_lines, size_lines, seat_lines, end_lines, main_lines, text_lines}
use Rattle.pb_ctree.specs.Functions.{has_words, named, kernel_function, labels_functions, functions_of}
use Rattle.pb_ctree.specs.Lines.{Line}
use Rattle.pb_ctree.specs.Rules.{is_range, is_kernel_row, has_size}
use Rattle.pb_ctree.specs.Spelling.{spelled_all}
use Rattle.pb_ctree.specs.Texts.{all_kept}
use Rattle.pb_ctree_laws.specs.Laws.{HasNoMarker, IsWhole, KeptWhereMade, MadeWhereKept, MadeIsKept, OneSpelling}
use Rattle.pb_ctree_laws.proofs.Tests.{always, itself, and_then, lines_and, lines_before, lines_behind}
use Rattle.pb_ctree_laws.proofs.Tables.{AreRows}
use Rattle.pb_ctree_laws.proofs.Roles.{range_is, roles_are, size_is, labels_are, kernel_rules, kernels_are}
use Rattle.pb_ctree_laws.proofs.Statements.{codes_are}
use Rattle.pb_ctree_laws.proofs.Bodies.{body_lines_are, bodies_are_lines}

-- ---- the head

swap_rule : (a rule b : Bool) → (a && rule && b) ≡ (rule && (a && b))
swap_rule true rule b = refl
swap_rule false true b = refl
swap_rule false false b = refl

-- the first of some lines has a further rule
rule_kept : (rule : Bool) (xs : List Line) (y : Line) (ys : List Line) → all_kept (with_rule rule (xs ++ (y ∷ ys))) ≡ (rule && all_kept (xs ++ (y ∷ ys)))
rule_kept rule [] y ys = swap_rule y.kept rule (all_kept ys)
rule_kept rule (x ∷ xs) y ys = swap_rule x.kept rule (all_kept (xs ++ (y ∷ ys)))

abbrev RoleRows : NRange → List Role → Type 0
RoleRows range rs = AreRows (λ (x : Role). x.name) (IsRole range) 64 [] rs

abbrev LabelRows : List CoreLabel → Type 0
LabelRows ls = AreRows (λ (x : CoreLabel). x.name) IsLabelRow 4000 [] ls

abbrev KernelRows : List CoreKernel → Type 0
KernelRows ks = AreRows (λ (x : CoreKernel). x.name) (λ (x : CoreKernel). IsTrue (is_name x.name)) 4000 [] ks

abbrev HasSize : Program → Type 0
HasSize p = (1 ≤ length p.roles) × ((pos 1 ≤ℤ (ranks_of p.roles).a) ⊎ IsSingle p.range)

tables_are : (p : Program) → Decides (all_kept (with_rule (has_size p) (label_lines [] p.labels ++ buffer_lines))) (HasSize p × LabelRows p.labels)
tables_are p =
    rw (rule_kept (has_size p) (label_lines [] p.labels) _ _)
    (Decides-and (has_size p) (all_kept (label_lines [] p.labels ++ buffer_lines)) (size_is p) (lines_before (label_lines [] p.labels) buffer_lines (labels_are p.labels) refl))

-- what the head says
abbrev IsHead : Program → Type 0
IsHead p = IsTrue (is_name p.protocol) × (IsRange p.range × (RoleRows p.range p.roles × (HasSize p × LabelRows p.labels)))

head_is : (p : Program) → Decides (all_kept (head_lines p)) (IsHead p)
head_is p =
    Decides-and (is_name p.protocol) _ (itself (is_name p.protocol))
    (and_then (is_range p.range) _ (range_is p.range)
    (λ is. lines_and (role_lines p.range [] p.roles) (with_rule (has_size p) (label_lines [] p.labels ++ buffer_lines)) (roles_are p.range is p.roles) (tables_are p)))

-- ---- bodies

prelude_is : (prelude : List ℕ) → Decides (all_kept (prelude_lines prelude)) (HasNoMarker prelude)
prelude_is prelude = lines_before (body_lines prelude) (words 0 (codes "/*@ end */") ∷ []) (body_lines_are prelude) refl

function_is : {P : Type 0} (head : List ℕ) (kept : Bool) (name body : List ℕ) → Decides kept P → Decides (all_kept (function_lines head kept name body)) (P × HasNoMarker body)
function_is head kept name body h =
    Decides-and kept (all_kept (body_lines body ++ (words 0 (codes "/*@ end */") ∷ words 0 (codes "}") ∷ []))) h
    (lines_before (body_lines body) (words 0 (codes "/*@ end */") ∷ words 0 (codes "}") ∷ []) (body_lines_are body) refl)

-- no line of the functions' bodies is a marker
abbrev AreClear : List KName → List (List ℕ) → Type 0
AreClear [] bodies = Unit {0}
AreClear (f ∷ fs) bodies = HasNoMarker (first_body bodies) × AreClear fs (other_bodies bodies)

clear_some : (fs : List KName) (bodies : List (List ℕ)) → All HasNoMarker bodies → AreClear fs bodies
clear_some [] bodies h = tt
clear_some (f ∷ fs) [] h = (All-nil (λ line. is_marker line ≡ false), clear_some fs [] h)
clear_some (f ∷ fs) (b ∷ bs) h = (All-head HasNoMarker b bs h, clear_some fs bs (All-tail HasNoMarker b bs h))

clear_all : (fs : List KName) (bodies : List (List ℕ)) → length bodies ≡ length fs → AreClear fs bodies → All HasNoMarker bodies
clear_all fs [] many h = All-nil HasNoMarker
clear_all [] (b ∷ bs) many h = absurd (omega (arith, many))
clear_all (f ∷ fs) (b ∷ bs) many h = All-cons HasNoMarker b bs h.0 (clear_all fs bs (omega (arith, many)) h.1)

kernel_lines_are : (before : List (List ℕ)) (ks : List CoreKernel) (bodies : List (List ℕ)) →
    Decides (all_kept (kernel_lines before ks bodies)) ((kernel_rules before ks ≡ true) × AreClear (map kernel_function ks) bodies)
kernel_lines_are before [] bodies = (λ e. (refl, tt), λ w. refl)
kernel_lines_are before (k ∷ ks) bodies =
    let rules = kernel_rules (before ++ k.name ∷ []) ks in
    Decides-like _
    (λ w. (and_from (is_kernel_row before k) rules w.0.0 w.1.0, (w.0.1, w.1.1)))
    (λ w. let kept = and_parts (is_kernel_row before k) rules w.0 in ((kept.0, w.1.0), (kept.1, w.1.1)))
    (lines_and (function_lines (kernel_head k) (is_kernel_row before k) (kernel_letter k.kind ++ k.name) (first_body bodies)) (kernel_lines (before ++ k.name ∷ []) ks (other_bodies bodies))
    (function_is (kernel_head k) (is_kernel_row before k) (kernel_letter k.kind ++ k.name) (first_body bodies) (itself (is_kernel_row before k)))
    (kernel_lines_are (before ++ k.name ∷ []) ks (other_bodies bodies)))

abbrev IsKernelled : List CoreLabel → List CoreKernel → List (List ℕ) → Type 0
IsKernelled ls ks bodies = (kernel_rules [] ks ≡ true) × AreClear (labels_functions ls ++ map kernel_function ks) bodies

-- a label with words has two functions
label_then : (l : CoreLabel) (ls : List CoreLabel) (ks : List CoreKernel) (bodies : List (List ℕ)) (wordy : Bool) →
    Decides (all_kept (kernels_after ls ks bodies)) (IsKernelled ls ks bodies) → Decides (all_kept (kernels_after ls ks (other_bodies (other_bodies bodies)))) (IsKernelled ls ks (other_bodies (other_bodies bodies))) →
    Decides (all_kept (if wordy then words_lines l bodies ++ kernels_after ls ks (other_bodies (other_bodies bodies)) else kernels_after ls ks bodies))
    ((kernel_rules [] ks ≡ true) × AreClear ((if wordy then named Make l.name ∷ named Take l.name ∷ [] else []) ++ labels_functions ls ++ map kernel_function ks) bodies)
label_then l ls ks bodies false here later = here
label_then l ls ks bodies true here later =
    let making = function_lines (make_head l) true (codes "make_" ++ l.name) (first_body bodies) in
    let taking = function_lines (take_head l) true (codes "take_" ++ l.name) (first_body (other_bodies bodies)) in
    Decides-like _
    (λ w. (w.1.0, (w.0.0.1, (w.0.1.1, w.1.1))))
    (λ w. (((tt, w.1.0), (tt, w.1.1.0)), (w.0, w.1.1.1)))
    (lines_and (making ++ taking) (kernels_after ls ks (other_bodies (other_bodies bodies)))
    (lines_and making taking
    (function_is (make_head l) true (codes "make_" ++ l.name) (first_body bodies) (always true refl))
    (function_is (take_head l) true (codes "take_" ++ l.name) (first_body (other_bodies bodies)) (always true refl)))
    later)

kernels_after_are : (ls : List CoreLabel) (ks : List CoreKernel) (bodies : List (List ℕ)) → Decides (all_kept (kernels_after ls ks bodies)) (IsKernelled ls ks bodies)
kernels_after_are [] ks bodies = kernel_lines_are [] ks bodies
kernels_after_are (l ∷ ls) ks bodies =
    label_then l ls ks bodies (has_words l.payload) (kernels_after_are ls ks bodies) (kernels_after_are ls ks (other_bodies (other_bodies bodies)))

-- ---- numbers and main

numbers_kept : (rs : List Role) (fs : List Sum) → all_kept (number_lines rs fs) ≡ true
numbers_kept [] fs = refl
numbers_kept (r ∷ rs) [] = refl
numbers_kept (r ∷ rs) (f ∷ fs) = numbers_kept rs fs

seats_kept : (k : ℕ) (bs fs : List Sum) → all_kept (seat_lines k bs fs) ≡ true
seats_kept k [] fs = refl
seats_kept k (b ∷ bs) [] = refl
seats_kept k (b ∷ bs) (f ∷ fs) = seats_kept (k + 1) bs fs

main_is : (p : Program) → Decides (all_kept (main_lines p)) (AreMade p outermost p.body)
main_is p =
    let front = start_lines ++ size_lines p.range (ranks_of p.roles) ++ seat_lines 0 (bases_of p.roles) (places_of p.roles) in
    lines_before (front ++ spelled_all p 1 outermost p.body) end_lines
    (lines_behind front (spelled_all p 1 outermost p.body) (seats_kept 0 (bases_of p.roles) (places_of p.roles)) (codes_are p 1 outermost p.body)) refl

-- ---- texts

-- what a text's lines say
abbrev IsSaid : Program → List ℕ → List (List ℕ) → Type 0
IsSaid p prelude bodies = ((IsHead p × HasNoMarker prelude) × IsKernelled p.labels p.kernels bodies) × AreMade p outermost p.body

text_is : (p : Program) (prelude : List ℕ) (bodies : List (List ℕ)) → Decides (all_kept (text_lines p prelude bodies)) (IsSaid p prelude bodies)
text_is p prelude bodies =
    let numbers = number_lines p.roles (places_of p.roles) in
    lines_and (head_lines p ++ prelude_lines prelude ++ numbers ++ kernels_after p.labels p.kernels bodies) (main_lines p)
    (lines_and (head_lines p ++ prelude_lines prelude ++ numbers) (kernels_after p.labels p.kernels bodies)
    (lines_before (head_lines p ++ prelude_lines prelude) numbers
    (lines_and (head_lines p) (prelude_lines prelude) (head_is p) (prelude_is prelude)) (numbers_kept p.roles (places_of p.roles)))
    (kernels_after_are p.labels p.kernels bodies))
    (main_is p)

made_of : (p : Program) (prelude : List ℕ) (bodies : List (List ℕ)) → IsSaid p prelude bodies → IsWellMade p
made_of p prelude bodies w =
    let head : IsHead p = w.0.0.0 in
    let roles : RoleRows p.range p.roles = head.1.1.0 in
    let labels : LabelRows p.labels = head.1.1.1.1 in
    let kernels : KernelRows p.kernels = (kernels_are p.kernels).0 w.0.1.0 in
    record {
      protocol = head.0;
      range = head.1.0;
      roles = record {
        some = head.1.1.1.0.0;
        most = omega (arith, roles.room);
        distinct = λ i j less within. roles.distinct i j less (omega arith) within;
        each = roles.each;
        size = head.1.1.1.0.1;
      };
      labels = record { most = omega (arith, labels.room); distinct = λ i j less within. labels.distinct i j less (omega arith) within; each = labels.each };
      kernels = record { most = omega (arith, kernels.room); distinct = λ i j less within. kernels.distinct i j less (omega arith) within; each = kernels.each };
      body = w.1;
    }

role_rows : (p : Program) → AreRoles p.range p.roles → RoleRows p.range p.roles
role_rows p is = record { each = is.each; distinct = λ i j less any within. is.distinct i j less within; room = omega (arith, is.most) }

label_rows : (p : Program) → AreLabels p.labels → LabelRows p.labels
label_rows p is = record { each = is.each; distinct = λ i j less any within. is.distinct i j less within; room = omega (arith, is.most) }

kernel_rows : (p : Program) → AreKernels p.kernels → KernelRows p.kernels
kernel_rows p is = record { each = is.each; distinct = λ i j less any within. is.distinct i j less within; room = omega (arith, is.most) }

said_of : (p : Program) (prelude : List ℕ) (bodies : List (List ℕ)) → IsWellMade p → HasNoMarker prelude → All HasNoMarker bodies → IsSaid p prelude bodies
said_of p prelude bodies made plain clear = (
  (
    ((made.protocol, (made.range, (role_rows p made.roles, ((made.roles.some, made.roles.size), label_rows p made.labels)))), plain),
    ((kernels_are p.kernels).1 (kernel_rows p made.kernels), clear_some (functions_of p) bodies clear),
  ),
  made.body,
)

-- the program is well made where each line of its text keeps its rule
pub kept_well_made : (p : Program) (prelude : List ℕ) (bodies : List (List ℕ)) → all_kept (text_lines p prelude bodies) ≡ true → IsWellMade p
kept_well_made p prelude bodies e = made_of p prelude bodies ((text_is p prelude bodies).0 e)

-- and no line of the prelude is a marker, nor one of a body
pub kept_prelude : (p : Program) (prelude : List ℕ) (bodies : List (List ℕ)) → all_kept (text_lines p prelude bodies) ≡ true → HasNoMarker prelude
kept_prelude p prelude bodies e = ((text_is p prelude bodies).0 e).0.0.1

pub kept_bodies : (p : Program) (prelude : List ℕ) (bodies : List (List ℕ)) → all_kept (text_lines p prelude bodies) ≡ true → length bodies ≡ length (functions_of p) → All HasNoMarker bodies
kept_bodies p prelude bodies e many = clear_all (functions_of p) bodies many ((text_is p prelude bodies).0 e).0.1.1

-- so the bodies, where they are whole lines, are bodies
pub kept_whole : (p : Program) (prelude : List ℕ) (bodies : List (List ℕ)) → all_kept (text_lines p prelude bodies) ≡ true → length bodies ≡ length (functions_of p) →
    IsWhole prelude → All IsWhole bodies → (is_body prelude ≡ true) × All (λ body. is_body body ≡ true) bodies
kept_whole p prelude bodies e many whole each =
    let clear = kept_bodies p prelude bodies e many in
    ((bodies_are_lines prelude).1 (whole, kept_prelude p prelude bodies e), λ k d less. is_body_of (get_or bodies k d) (each k d less) (clear k d less)) where
      is_body_of : (bytes : List ℕ) → IsWhole bytes → HasNoMarker bytes → is_body bytes ≡ true
      is_body_of bytes whole plain = (bodies_are_lines bytes).1 (whole, plain)

-- each line of a well-made program's text keeps its rule
pub clear_kept : (p : Program) (prelude : List ℕ) (bodies : List (List ℕ)) → HasNoMarker prelude → All HasNoMarker bodies → IsWellMade p → all_kept (text_lines p prelude bodies) ≡ true
clear_kept p prelude bodies plain clear made = (text_is p prelude bodies).1 (said_of p prelude bodies made plain clear)

pub well_made_kept : MadeIsKept
well_made_kept p prelude bodies body each made =
    clear_kept p prelude bodies (plain prelude body) (All-weaker (λ b. is_body b ≡ true) HasNoMarker plain bodies each) made where
      plain : (bytes : List ℕ) → is_body bytes ≡ true → HasNoMarker bytes
      plain bytes is = ((bodies_are_lines bytes).0 is).1

pub kept_where_made : KeptWhereMade
kept_where_made p prelude bodies many = (
  λ e. (kept_well_made p prelude bodies e, kept_prelude p prelude bodies e, kept_bodies p prelude bodies e many),
  λ w. clear_kept p prelude bodies w.1 w.2 w.0,
)

pub made_where_kept : MadeWhereKept
made_where_kept p prelude bodies e = kept_well_made p prelude bodies e

pub one_spelling : OneSpelling
one_spelling tree bodies bytes other h k = h.text ∙ sym k.text
