-- What is left of the pieces around the statements is their plain text.
use Rattle.std.proofs.Common.{◌≡◌, ℕ, suc, ◌+◌, Bool, true, false, List, [], ◌∷◌, ◌++◌, refl, sym, ap, ◌∙◌, append_assoc, append-nil, length, arith, map}
use Rattle.std.specs.Prelude.{if◌then◌else◌, codes}
use Rattle.std.specs.List.{list_any}
use Rattle.std.proofs.lemmas.List.{length-append, length-map}
use Rattle.pb_syntax.specs.declared.core_label.CoreLabel.{CoreLabel}
use Rattle.pb_syntax.specs.declared.core_label.CoreKernel.{CoreKernel}
use Rattle.pb_local.specs.Pieces.{joined}
use Rattle.pb_local.specs.Ranks.{ranks_of, bases_of, places_of}
use Rattle.pb_local.specs.Tree.{Program, program_of}
use Rattle.pb_local.specs.WellMade.{outermost}
use Rattle.pb_ctree.specs.declared.tree.CTree.{CTree}
use Rattle.pb_ctree.specs.declared.body.Bodies.{Bodies}
use Rattle.pb_ctree.specs.declared.kernel.Kind.TheVariants.{Make, Take}
use Rattle.pb_ctree.specs.Bodies.{lines_of}
use Rattle.pb_ctree.specs.Frame.{with_rule, head_lines, prelude_lines, number_lines, function_lines, kernel_lines, words_lines, kernels_after, start_lines, size_lines, seat_lines, end_lines, main_lines, body_lines, role_lines, label_lines, buffer_lines, range_text, make_head, take_head, words, first_body, other_bodies}
use Rattle.pb_ctree.specs.Functions as F
use Rattle.pb_ctree.specs.Functions.{has_words}
use Rattle.pb_ctree.specs.Lines.{Line, line, raw}
use Rattle.pb_ctree.specs.Rules.{is_range, has_size}
use Rattle.pb_local.specs.Names.{is_name}
use Rattle.pb_ctree.specs.Spelling.{spelled_all}
use Rattle.pb_ctree.specs.Texts.{text_of, text, line_text, Spells}
use Rattle.pb_cprint.proofs.Texts.{text_append, both}
use Rattle.pb_types.specs.declared.element.Element.{Element}
use Rattle.pb_types.specs.declared.carried.Carried.{Carried}
use Rattle.pb_types.specs.declared.carried.Carried.TheVariants.{Words, Fixed, Open}
use Rattle.pb_typed_types.specs.declared.types.Constant.{Constant}
use Rattle.pb_typed_types.specs.declared.types.Types.{Types}
use Rattle.pb_typed.specs.Frame.{first_carried, others_carried, type_row, type_rows, trace_lines, is_open, count_lines, constant_lines, own_lines, owns, head_pieces, headed, room_pieces, make_pieces, take_pieces, label_pieces, behind_label, functions_after, main_pieces, program_pieces, typed_make_head, typed_take_head}
use Rattle.pb_typed.specs.Functions.{label_functions, labels_functions, kernel_function, plain_label, plain_after, plain_bodies}
use Rattle.pb_typed.specs.Hooks.{start_hook, end_hook}
use Rattle.pb_typed.specs.Laws.{ArePlain}
use Rattle.pb_typed.specs.Pieces.{Piece, same, instead, added, erased, erased_text, as_they_are, further}
use Rattle.pb_typed.specs.Statements.{typed_all}
use Rattle.pb_typed.specs.Texts.{IsProgramText, erasure}
use Rattle.pb_typed.proofs.Erasing.{erased_append, they_are, no_further, joins, all_left}

-- ---- the head

-- pieces of which nothing is left
nothing_left : (p : Program) (xs ys : List Piece) → erased_text p xs ≡ [] → erased_text p ys ≡ [] → erased_text p (xs ++ ys) ≡ []
nothing_left p xs ys first rest = erased_append p xs ys ∙ both (erased_text p xs) (erased_text p ys) [] [] first rest

rows_left : (p : Program) (ls : List CoreLabel) (types : List Carried) → erased_text p (type_rows ls types) ≡ []
rows_left p [] types = refl
rows_left p (l ∷ ls) types = nothing_left p (type_row (first_carried types) l) (type_rows ls (others_carried types)) (row_left (first_carried types)) (rows_left p ls (others_carried types)) where
  row_left : (c : Carried) → erased_text p (type_row c l) ≡ []
  row_left Words = refl
  row_left (Fixed element number) = refl
  row_left (Open element) = refl

owns_left : (p : Program) (ls : List CoreLabel) (types : List Carried) → erased_text p (owns ls types) ≡ []
owns_left p [] types = refl
owns_left p (l ∷ ls) types = nothing_left p (own_lines (first_carried types) l) (owns ls (others_carried types)) (own_left (first_carried types)) (owns_left p ls (others_carried types)) where
  own_left : (c : Carried) → erased_text p (own_lines c l) ≡ []
  own_left Words = refl
  own_left (Fixed element number) = refl
  own_left (Open element) = refl

constants_left : (p : Program) (cs : List Constant) → erased_text p (constant_lines cs) ≡ []
constants_left p [] = refl
constants_left p (c ∷ cs) = constants_left p cs

counts_left : (p : Program) (b : Bool) → erased_text p (if b then count_lines else []) ≡ []
counts_left p true = refl
counts_left p false = refl

-- further pieces of which nothing is left
joins_none : (p : Program) (xs ys : List Piece) (ls : List Line) → erased_text p xs ≡ text_of p ls → erased_text p ys ≡ [] → erased_text p (xs ++ ys) ≡ text_of p ls
joins_none p xs ys ls first none = erased_append p xs ys ∙ both (erased_text p xs) (erased_text p ys) (text_of p ls) [] first none ∙ append-nil (text_of p ls)

rule_left : (p : Program) (rule : Bool) (ls : List Line) → text_of p (with_rule rule ls) ≡ text_of p ls
rule_left p rule [] = refl
rule_left p rule (l ∷ ls) = refl

head_left : (p : Program) (types : List Carried) (constants : List Constant) → erased_text p (head_pieces p types constants) ≡ text_of p (head_lines p)
head_left p types constants =
    let front = words 0 (codes "/* pabble 1 */") ∷ line 0 (raw (joined (codes "/* protocol " ∷ p.protocol ∷ codes " */" ∷ []))) (is_name p.protocol) ∷ line 0 (raw (range_text p.range)) (is_range p.range) ∷ role_lines p.range [] p.roles in
    let top = instead 0 (raw (codes "/* pabble 1 */")) (codes "/* pabble 1 typed */") ∷ same 0 (raw (joined (codes "/* protocol " ∷ p.protocol ∷ codes " */" ∷ []))) ∷ same 0 (raw (range_text p.range)) ∷ as_they_are (role_lines p.range [] p.roles) in
    let rows = as_they_are (label_lines [] p.labels) in
    let kinds = type_rows p.labels types in
    let buffers = as_they_are buffer_lines in
    let counts = if list_any is_open types then count_lines else [] in
    let labelled = front ++ label_lines [] p.labels in
    let whole = labelled ++ buffer_lines in
    let first : erased_text p top ≡ text_of p front =
    ap (λ w. erased p (instead 0 (raw (codes "/* pabble 1 */")) (codes "/* pabble 1 typed */")) ++ (erased p (same 0 (raw (joined (codes "/* protocol " ∷ p.protocol ∷ codes " */" ∷ [])))) ++ (erased p (same 0 (raw (range_text p.range))) ++ w))) (they_are p (role_lines p.range [] p.roles)) in
    let second : erased_text p ((top ++ rows) ++ kinds) ≡ text_of p labelled =
    joins_none p (top ++ rows) kinds labelled (joins p top rows front (label_lines [] p.labels) first (they_are p (label_lines [] p.labels))) (rows_left p p.labels types) in
    let third : erased_text p (((top ++ rows) ++ kinds) ++ buffers) ≡ text_of p whole = joins p ((top ++ rows) ++ kinds) buffers labelled buffer_lines second (they_are p buffer_lines) in
    let fourth : erased_text p ((((top ++ rows) ++ kinds) ++ buffers) ++ trace_lines) ≡ text_of p whole = joins_none p (((top ++ rows) ++ kinds) ++ buffers) trace_lines whole third refl in
    let fifth : erased_text p (((((top ++ rows) ++ kinds) ++ buffers) ++ trace_lines) ++ counts) ≡ text_of p whole =
    joins_none p ((((top ++ rows) ++ kinds) ++ buffers) ++ trace_lines) counts whole fourth (counts_left p (list_any is_open types)) in
    let sixth : erased_text p ((((((top ++ rows) ++ kinds) ++ buffers) ++ trace_lines) ++ counts) ++ constant_lines constants) ≡ text_of p whole =
    joins_none p (((((top ++ rows) ++ kinds) ++ buffers) ++ trace_lines) ++ counts) (constant_lines constants) whole fifth (constants_left p constants) in
    let last = joins_none p ((((((top ++ rows) ++ kinds) ++ buffers) ++ trace_lines) ++ counts) ++ constant_lines constants) (owns p.labels types) whole sixth (owns_left p p.labels types) in
    last
    ∙ text_append p labelled buffer_lines ∙ ap (λ w. w ++ text_of p buffer_lines) (text_append p front (label_lines [] p.labels))
    ∙ append_assoc (text_of p front) (text_of p (label_lines [] p.labels)) (text_of p buffer_lines)
    ∙ ap (λ w. text_of p front ++ w) (sym (text_append p (label_lines [] p.labels) buffer_lines) ∙ sym (rule_left p (has_size p) (label_lines [] p.labels ++ buffer_lines)))
    ∙ sym (text_append p front (with_rule (has_size p) (label_lines [] p.labels ++ buffer_lines)))

-- ---- kernel functions

headed_left : (p : Program) (plain_head head name body : List ℕ) (kept : Bool) → erased_text p (headed plain_head head name body) ≡ text_of p (function_lines plain_head kept name body)
headed_left p plain_head head name body kept =
    joins p (instead 0 (raw plain_head) head ∷ same 0 (raw (codes "{")) ∷ same 0 (raw (joined (codes "/*@ kernel " ∷ name ∷ codes " */" ∷ []))) ∷ as_they_are (body_lines body)) (same 0 (raw (codes "/*@ end */")) ∷ same 0 (raw (codes "}")) ∷ [])
    (line 0 (raw plain_head) kept ∷ words 0 (codes "{") ∷ words 0 (joined (codes "/*@ kernel " ∷ name ∷ codes " */" ∷ [])) ∷ body_lines body) (words 0 (codes "/*@ end */") ∷ words 0 (codes "}") ∷ [])
    (ap (λ w. line_text p (words 0 plain_head) ++ (line_text p (words 0 (codes "{")) ++ (line_text p (words 0 (joined (codes "/*@ kernel " ∷ name ∷ codes " */" ∷ []))) ++ w))) (they_are p (body_lines body))) refl

room_left : (p : Program) (element : Element) (l : CoreLabel) (body : List ℕ) → erased_text p (room_pieces element l body) ≡ []
room_left p element l body = erased_append p (further 0 (lines_of body)) _ ∙ ap (λ w. w ++ []) (no_further p 0 (lines_of body))

two_left : (p : Program) (c : Carried) (l : CoreLabel) (a b : List ℕ) (plain rest : List (List ℕ)) → plain ≡ a ∷ b ∷ rest
    → erased_text p (make_pieces c l a ++ take_pieces c l b) ≡ text_of p (words_lines l plain)
two_left p c l a b plain rest is =
    joins p (make_pieces c l a) (take_pieces c l b) (function_lines (make_head l) true (codes "make_" ++ l.name) a) (function_lines (take_head l) true (codes "take_" ++ l.name) b)
    (headed_left p (make_head l) (typed_make_head c l) (codes "make_" ++ l.name) a true) (headed_left p (take_head l) (typed_take_head c l) (codes "take_" ++ l.name) b true)
    ∙ ap (λ bs. text_of p (words_lines l bs)) (sym is)

label_left : (p : Program) (c : Carried) (l : CoreLabel) (bodies rest : List (List ℕ)) → erased_text p (label_pieces c l bodies) ≡ text_of p (words_lines l (plain_label c bodies rest))
label_left p Words l bodies rest = two_left p Words l (first_body bodies) (first_body (other_bodies bodies)) (plain_label Words bodies rest) rest refl
label_left p (Fixed element number) l bodies rest = two_left p (Fixed element number) l (first_body bodies) (first_body (other_bodies bodies)) (plain_label (Fixed element number) bodies rest) rest refl
label_left p (Open element) l bodies rest =
    let c = Open element in
    let a = first_body bodies in
    let b = first_body (other_bodies (other_bodies bodies)) in
    erased_append p (make_pieces c l a ++ room_pieces element l (first_body (other_bodies bodies))) (take_pieces c l b)
    ∙ ap (λ w. w ++ erased_text p (take_pieces c l b)) (erased_append p (make_pieces c l a) (room_pieces element l (first_body (other_bodies bodies))) ∙ ap (λ w. erased_text p (make_pieces c l a) ++ w) (room_left p element l (first_body (other_bodies bodies))) ∙ append-nil (erased_text p (make_pieces c l a)))
    ∙ sym (erased_append p (make_pieces c l a) (take_pieces c l b))
    ∙ two_left p c l a b (plain_label c bodies rest) rest refl

-- behind a label's plain bodies stand those of the others
behind_plain : (c : Carried) (bodies rest : List (List ℕ)) → other_bodies (other_bodies (plain_label c bodies rest)) ≡ rest
behind_plain Words bodies rest = refl
behind_plain (Fixed element number) bodies rest = refl
behind_plain (Open element) bodies rest = refl

-- a label's functions, where it has words, before others
with_label : (p : Program) (b : Bool) (c : Carried) (l : CoreLabel) (ls : List CoreLabel) (ts : List Carried) (ks : List CoreKernel) (bodies rest : List (List ℕ))
    → rest ≡ plain_after ls ts (behind_label c bodies)
    → erased_text p (functions_after ls ts ks (behind_label c bodies)) ≡ text_of p (kernels_after ls ks rest)
    → erased_text p (functions_after ls ts ks bodies) ≡ text_of p (kernels_after ls ks (plain_after ls ts bodies))
    → erased_text p (if b then label_pieces c l bodies ++ functions_after ls ts ks (behind_label c bodies) else functions_after ls ts ks bodies)
    ≡ text_of p (if b then words_lines l (if b then plain_label c bodies rest else plain_after ls ts bodies) ++ kernels_after ls ks (other_bodies (other_bodies (if b then plain_label c bodies rest else plain_after ls ts bodies))) else kernels_after ls ks (if b then plain_label c bodies rest else plain_after ls ts bodies))
with_label p true c l ls ts ks bodies rest is with_words without =
    joins p (label_pieces c l bodies) (functions_after ls ts ks (behind_label c bodies)) (words_lines l (plain_label c bodies rest)) (kernels_after ls ks rest) (label_left p c l bodies rest) with_words
    ∙ ap (λ bs. text_of p (words_lines l (plain_label c bodies rest) ++ kernels_after ls ks bs)) (sym (behind_plain c bodies rest))
with_label p false c l ls ts ks bodies rest is with_words without = without

functions_left : (p : Program) (ls : List CoreLabel) (types : List Carried) (ks : List CoreKernel) (bodies : List (List ℕ))
    → erased_text p (functions_after ls types ks bodies) ≡ text_of p (kernels_after ls ks (plain_after ls types bodies))
functions_left p [] types ks bodies = they_are p (kernel_lines [] ks bodies)
functions_left p (l ∷ ls) types ks bodies =
    with_label p (has_words l.payload) (first_carried types) l ls (others_carried types) ks bodies (plain_after ls (others_carried types) (behind_label (first_carried types) bodies)) refl
    (functions_left p ls (others_carried types) ks (behind_label (first_carried types) bodies)) (functions_left p ls (others_carried types) ks bodies)

-- ---- main

main_left : (p : Program) (types : List Carried) → erased_text p (main_pieces p types) ≡ text_of p (main_lines p)
main_left p types =
    let start = as_they_are start_lines in
    let sized = added 1 (start_hook p) ∷ as_they_are (size_lines p.range (ranks_of p.roles)) in
    let seats = as_they_are (seat_lines 0 (bases_of p.roles) (places_of p.roles)) in
    let body = typed_all p types 1 p.body in
    let end = added 1 end_hook ∷ as_they_are end_lines in
    let a = start_lines ++ size_lines p.range (ranks_of p.roles) in
    let b = a ++ seat_lines 0 (bases_of p.roles) (places_of p.roles) in
    let c = b ++ spelled_all p 1 outermost p.body in
    joins p (((start ++ sized) ++ seats) ++ body) end c end_lines
    (joins p ((start ++ sized) ++ seats) body b (spelled_all p 1 outermost p.body)
    (joins p (start ++ sized) seats a (seat_lines 0 (bases_of p.roles) (places_of p.roles))
    (joins p start sized start_lines (size_lines p.range (ranks_of p.roles)) (they_are p start_lines) (they_are p (size_lines p.range (ranks_of p.roles))))
    (they_are p (seat_lines 0 (bases_of p.roles) (places_of p.roles))))
    (all_left p types 1 outermost p.body))
    (they_are p end_lines)

pub erased_is_plain : (p : Program) (types : List Carried) (constants : List Constant) (prelude : List ℕ) (bodies : List (List ℕ))
    → erased_text p (program_pieces p types constants prelude bodies) ≡ text p prelude (plain_bodies p types bodies)
erased_is_plain p types constants prelude bodies =
    let head = head_pieces p types constants in
    let before = as_they_are (prelude_lines prelude) in
    let numbers = as_they_are (number_lines p.roles (places_of p.roles)) in
    let functions = functions_after p.labels types p.kernels bodies in
    let a = head_lines p ++ prelude_lines prelude in
    let b = a ++ number_lines p.roles (places_of p.roles) in
    let c = b ++ kernels_after p.labels p.kernels (plain_bodies p types bodies) in
    joins p (((head ++ before) ++ numbers) ++ functions) (main_pieces p types) c (main_lines p)
    (joins p ((head ++ before) ++ numbers) functions b (kernels_after p.labels p.kernels (plain_bodies p types bodies))
    (joins p (head ++ before) numbers a (number_lines p.roles (places_of p.roles))
    (joins p head before (head_lines p) (prelude_lines prelude) (head_left p types constants) (they_are p (prelude_lines prelude)))
    (they_are p (number_lines p.roles (places_of p.roles))))
    (functions_left p p.labels types p.kernels bodies))
    (main_left p types)

-- ---- as many bodies as functions

length-behind : (c : Carried) (l : CoreLabel) (n : ℕ) (bodies : List (List ℕ)) → length bodies ≡ length (label_functions c l) + n → length (behind_label c bodies) ≡ n
length-behind Words l n [] is = absurd (omega (arith, is))
length-behind Words l n (a ∷ []) is = absurd (omega (arith, is))
length-behind Words l n (a ∷ b ∷ bs) is = omega (arith, is)
length-behind (Fixed element number) l n [] is = absurd (omega (arith, is))
length-behind (Fixed element number) l n (a ∷ []) is = absurd (omega (arith, is))
length-behind (Fixed element number) l n (a ∷ b ∷ bs) is = omega (arith, is)
length-behind (Open element) l n [] is = absurd (omega (arith, is))
length-behind (Open element) l n (a ∷ []) is = absurd (omega (arith, is))
length-behind (Open element) l n (a ∷ b ∷ []) is = absurd (omega (arith, is))
length-behind (Open element) l n (a ∷ b ∷ c ∷ bs) is = omega (arith, is)

length-label : (c : Carried) (bodies rest : List (List ℕ)) → length (plain_label c bodies rest) ≡ suc (suc (length rest))
length-label Words bodies rest = refl
length-label (Fixed element number) bodies rest = refl
length-label (Open element) bodies rest = refl

length-with : (b : Bool) (c : Carried) (l : CoreLabel) (ls : List CoreLabel) (ts : List Carried) (n : ℕ) (bodies : List (List ℕ))
    → ((bs : List (List ℕ)) → length bs ≡ length (labels_functions ls ts) + n → length (plain_after ls ts bs) ≡ length (F.labels_functions ls) + n)
    → length bodies ≡ length (if b then label_functions c l ++ labels_functions ls ts else labels_functions ls ts) + n
    → length (if b then plain_label c bodies (plain_after ls ts (behind_label c bodies)) else plain_after ls ts bodies)
    ≡ length ((if b then F.named Make l.name ∷ F.named Take l.name ∷ [] else []) ++ F.labels_functions ls) + n
length-with true c l ls ts n bodies others many =
    let both_lengths : length (label_functions c l ++ labels_functions ls ts) ≡ length (label_functions c l) + length (labels_functions ls ts) = length-append (label_functions c l) (labels_functions ls ts) in
    let behind : length (behind_label c bodies) ≡ length (labels_functions ls ts) + n = length-behind c l (length (labels_functions ls ts) + n) bodies (omega (arith, many, both_lengths)) in
    let rest : length (plain_after ls ts (behind_label c bodies)) ≡ length (F.labels_functions ls) + n = others (behind_label c bodies) behind in
    omega (arith, length-label c bodies (plain_after ls ts (behind_label c bodies)), rest)
length-with false c l ls ts n bodies others many = others bodies many

length-plain : (ls : List CoreLabel) (types : List Carried) (n : ℕ) (bodies : List (List ℕ)) → length bodies ≡ length (labels_functions ls types) + n
    → length (plain_after ls types bodies) ≡ length (F.labels_functions ls) + n
length-plain [] types n bodies is = is
length-plain (l ∷ ls) types n bodies is =
    length-with (has_words l.payload) (first_carried types) l ls (others_carried types) n bodies (λ bs many. length-plain ls (others_carried types) n bs many) is

pub erasure_spells : (tree : CTree) (types : Types) (bodies plain : Bodies) (bytes : List ℕ) → IsProgramText tree types bodies bytes → ArePlain tree types bodies plain → Spells tree plain (erasure tree types bodies)
erasure_spells tree types bodies plain bytes is are =
    let p = program_of tree.local in
    let ts = types.labels.items in
    let ks = map kernel_function p.kernels in
    let many : length bodies.list.items ≡ length (labels_functions p.labels ts) + length p.kernels = is.many ∙ length-append (labels_functions p.labels ts) ks ∙ ap (λ n. length (labels_functions p.labels ts) + n) (length-map p.kernels kernel_function) in
    let fewer : length (plain_bodies p ts bodies.list.items) ≡ length (F.functions_of p) =
    length-plain p.labels ts (length p.kernels) bodies.list.items many ∙ ap (λ n. length (F.labels_functions p.labels) + n) (sym (length-map p.kernels F.kernel_function)) ∙ sym (length-append (F.labels_functions p.labels) (map F.kernel_function p.kernels)) in
    record {
      made = is.made;
      many = ap length are.list ∙ fewer;
      text = erased_is_plain p ts types.constants.items bodies.prelude bodies.list.items ∙ ap (λ b. text p b (plain_bodies p ts bodies.list.items)) (sym are.prelude) ∙ ap (λ bs. text p plain.prelude bs) (sym are.list);
    }
