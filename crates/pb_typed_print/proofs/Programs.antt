-- The whole text.
use Rattle.std.proofs.Common.{◌≡◌, ℕ, ◌≤◌, Result, Ok, Err, List, [], ◌++◌, length, sym, ap, ◌∙◌, subst, arith}
use Rattle.std.specs.Prelude.{OnOk}
use Rattle.std.proofs.lemmas.List.{length-append}
use Rattle.pb_local.specs.Ranks.{places_of}
use Rattle.pb_local.specs.Tree.{Program, program_of}
use Rattle.pb_ctree.specs.Frame.{prelude_lines, number_lines}
use Rattle.pb_ctree.specs.Trees.{IsTree}
use Rattle.pb_ctree.specs.declared.body.Bodies.{Bodies}
use Rattle.pb_ctree.specs.declared.tree.CTree.{CTree}
use Rattle.pb_cprint.specs.Framed.{prelude_marker, body_written, end_marker, prelude_written, numbers_written}
use Rattle.pb_cprint.proofs.Frames.{prelude_same, numbers_same}
use Rattle.pb_cprint.proofs.Texts.{both}
use Rattle.pb_cprint_lines.proofs.Steps.{onto}
use Rattle.pb_types.specs.declared.carried.Carried.{Carried}
use Rattle.pb_typed_types.specs.declared.types.Types.{Types}
use Rattle.pb_typed.specs.Frame.{head_pieces, functions_after, main_pieces, program_pieces}
use Rattle.pb_typed.specs.Functions.{typed_functions}
use Rattle.pb_typed.specs.Pieces.{pieces_text, as_they_are}
use Rattle.pb_typed.specs.Texts.{IsProgramText}
use Rattle.pb_typed_print.specs.Written.{before_main}
use Rattle.pb_typed.proofs.Spelling.{pieces_append}
use Rattle.pb_typed_frame.proofs.Written.{written}

program_same : (p : Program) (types : Types) (prelude : List ℕ) (bodies : List (List ℕ))
    → pieces_text p (program_pieces p types.labels.items types.constants.items prelude bodies) ≡ before_main p types prelude bodies ++ pieces_text p (main_pieces p types.labels.items)
unfolding before_main
program_same p types prelude bodies =
    let h = head_pieces p types.labels.items types.constants.items in
    let q = as_they_are (prelude_lines prelude) in
    let n = as_they_are (number_lines p.roles (places_of p.roles)) in
    let f = functions_after p.labels types.labels.items p.kernels bodies in
    let m = main_pieces p types.labels.items in
    let begun : pieces_text p (h ++ q) ≡ pieces_text p h ++ prelude_written prelude =
    pieces_append p h q ∙ ap (λ w. pieces_text p h ++ w) (written p (prelude_lines prelude) ∙ prelude_same p prelude) in
    let placed : pieces_text p ((h ++ q) ++ n) ≡ (pieces_text p h ++ prelude_written prelude) ++ numbers_written p.roles (places_of p.roles) =
    pieces_append p (h ++ q) n
    ∙ both (pieces_text p (h ++ q)) (pieces_text p n) (pieces_text p h ++ prelude_written prelude) (numbers_written p.roles (places_of p.roles)) begun
    (written p (number_lines p.roles (places_of p.roles)) ∙ numbers_same p p.roles (places_of p.roles)) in
    pieces_append p (((h ++ q) ++ n) ++ f) m
    ∙ ap (λ w. w ++ pieces_text p m) (pieces_append p ((h ++ q) ++ n) f ∙ ap (λ w. w ++ pieces_text p f) placed)

-- four texts one behind the other
four_put : {X E : Type 0} (a b c d old x y z now : List ℕ) (r : Result X E) → x ≡ old ++ a → y ≡ x ++ b → z ≡ y ++ c → OnOk r (now ≡ z ++ d) → OnOk r (now ≡ old ++ (a ++ b ++ c ++ d))
four_put a b c d old x y z now (Ok v) first second third last = onto old z now (a ++ b ++ c) d (onto old y z (a ++ b) c (onto old x y a b first second) third) last
four_put a b c d old x y z now (Err e) first second third last = tt

pub before_put : {X E : Type 0} (p : Program) (types : Types) (labels : List Carried) (prelude : List ℕ) (bodies list : List (List ℕ)) (old x y z now : List ℕ) (r : Result X E)
    → labels ≡ types.labels.items → list ≡ bodies
    → x ≡ old ++ pieces_text p (head_pieces p types.labels.items types.constants.items) → y ≡ x ++ prelude_written prelude → z ≡ y ++ numbers_written p.roles (places_of p.roles)
    → OnOk r (now ≡ z ++ pieces_text p (functions_after p.labels labels p.kernels list)) → OnOk r (now ≡ old ++ before_main p types prelude bodies)
unfolding before_main
before_put p types labels prelude bodies list old x y z now r labels_are list_is first second third last =
    four_put (pieces_text p (head_pieces p types.labels.items types.constants.items)) (prelude_written prelude) (numbers_written p.roles (places_of p.roles))
    (pieces_text p (functions_after p.labels types.labels.items p.kernels bodies)) old x y z now r first second third
    (subst (λ l. OnOk r (now ≡ z ++ pieces_text p (functions_after p.labels types.labels.items p.kernels l))) list_is
    (subst (λ l. OnOk r (now ≡ z ++ pieces_text p (functions_after p.labels l p.kernels list))) labels_are last))

-- ---- how long a text is before main

marker_long : 3 ≤ length prelude_marker
unfolding prelude_marker
marker_long = omega arith

prelude_long : (prelude : List ℕ) → 3 ≤ length (prelude_written prelude)
unfolding prelude_written
prelude_long prelude = omega (arith, length-append (prelude_marker ++ body_written prelude) end_marker, length-append prelude_marker (body_written prelude), marker_long)

inner_long : (a b c d : List ℕ) → 3 ≤ length b → 3 ≤ length (a ++ b ++ c ++ d)
inner_long a b c d long = omega (arith, length-append (a ++ b ++ c) d, length-append (a ++ b) c, length-append a b, long)

before_long : (p : Program) (types : Types) (prelude : List ℕ) (bodies : List (List ℕ)) → 3 ≤ length (before_main p types prelude bodies)
unfolding before_main
before_long p types prelude bodies =
    inner_long (pieces_text p (head_pieces p types.labels.items types.constants.items)) (prelude_written prelude) (numbers_written p.roles (places_of p.roles))
    (pieces_text p (functions_after p.labels types.labels.items p.kernels bodies)) (prelude_long prelude)

longer_by : (old now text : List ℕ) → now ≡ old ++ text → 3 ≤ length text → 3 ≤ length now
longer_by old now text is long = omega (arith, ap length is, length-append old text, long)

pub behind_long : (p : Program) (types : Types) (prelude : List ℕ) (bodies : List (List ℕ)) (old now : List ℕ) → now ≡ old ++ before_main p types prelude bodies → 3 ≤ length now
behind_long p types prelude bodies old now is = longer_by old now (before_main p types prelude bodies) is (before_long p types prelude bodies)

-- the text that was written is that of the pieces
pub spells : (tree : CTree) (types : Types) (labels : List Carried) (bodies : Bodies) (none before now : List ℕ) → labels ≡ types.labels.items → IsTree tree
    → length bodies.list.items ≡ length (typed_functions (program_of tree.local) types.labels.items) → none ≡ []
    → before ≡ none ++ before_main (program_of tree.local) types bodies.prelude bodies.list.items → now ≡ before ++ pieces_text (program_of tree.local) (main_pieces (program_of tree.local) labels)
    → IsProgramText tree types bodies now
spells tree types labels bodies none before now labels_are made many none_is first last =
    let p = program_of tree.local in
    let b = before_main p types bodies.prelude bodies.list.items in
    let m = pieces_text p (main_pieces p types.labels.items) in
    record {
      made = made;
      many = many;
      text = last ∙ ap (λ l. before ++ pieces_text p (main_pieces p l)) labels_are ∙ ap (λ w. w ++ m) (first ∙ ap (λ w. w ++ b) none_is) ∙ sym (program_same p types bodies.prelude bodies.list.items);
    }
