-- What the pieces of heads and functions spell.
use Rattle.std.proofs.Common.{◌≡◌, ℕ, Bool, true, false, List, [], ◌∷◌, ◌++◌, refl, sym, ap, ◌∙◌, append_assoc, append-nil}
use Rattle.std.specs.Prelude.{if◌then◌else◌, codes, decimal}
use Rattle.std.specs.List.{list_any}
use Rattle.pb_syntax.specs.declared.core_label.CoreLabel.{CoreLabel}
use Rattle.pb_syntax.specs.declared.core_label.CoreKernel.{CoreKernel}
use Rattle.pb_local.specs.Pieces as P
use Rattle.pb_local.specs.Tree.{Program}
use Rattle.pb_ctree.specs.Bodies.{lines_of}
use Rattle.pb_ctree.specs.Frame.{role_lines, label_lines, buffer_lines, body_lines, kernel_lines, range_text}
use Rattle.pb_ctree.specs.Functions.{has_words}
use Rattle.pb_ctree.specs.Lines.{Line, raw}
use Rattle.pb_ctree.specs.Texts.{text_of}
use Rattle.pb_cprint_lines.specs.Printed.{bytes}
use Rattle.pb_cprint_lines.proofs.Steps.{onto}
use Rattle.pb_cprint.specs.Framed.{protocol_line, range_line, roles_written, labels_written, buffers_written, lines_text, body_written, brace, end_brace, end_marker, function_end, kernels_written}
use Rattle.pb_cprint.proofs.Frames.{roles_same, labels_same, buffers_same, body_lines_same, kernels_same}
use Rattle.pb_cprint.proofs.Texts.{right2, both}
use Rattle.pb_types.specs.declared.carried.Carried.{Carried}
use Rattle.pb_types.specs.declared.carried.Carried.TheVariants.{Fixed, Open}
use Rattle.pb_types.specs.Elements.{c_name}
use Rattle.pb_typed_types.specs.declared.types.Constant.{Constant}
use Rattle.pb_typed.specs.Frame.{first_carried, others_carried, type_rows, trace_lines, is_open, count_lines, constant_lines, own_lines, owns, head_pieces, marker_of, headed, room_head, room_pieces, label_pieces, behind_label, functions_after}
use Rattle.pb_types.specs.declared.element.Element.{Element}
use Rattle.pb_typed.specs.Pieces.{same, instead, added, pieces_text, as_they_are, further}
use Rattle.pb_typed.proofs.Spelling.{pieces_append, steps, step}
use Rattle.pb_typed_frame.specs.Functions.{labels_pieces, behind_labels}

pub written : (p : Program) (ls : List Line) → pieces_text p (as_they_are ls) ≡ text_of p ls
written p [] = refl
written p (l ∷ ls) = ap (λ w. bytes p l.depth l.item ++ w) (written p ls)

further_text : (p : Program) (ls : List (List ℕ)) → pieces_text p (further 0 ls) ≡ lines_text ls
further_text p [] = refl
further_text p (l ∷ ls) = ap (λ w. (l ++ 10 ∷ []) ++ w) (further_text p ls)

-- ---- the head

put : (p : Program) (ls : List Line) (text old now : List ℕ) → text_of p ls ≡ text → now ≡ old ++ text → now ≡ old ++ pieces_text p (as_they_are ls)
put p ls text old now is e = e ∙ ap (λ w. old ++ w) (sym (written p ls ∙ is))

pub head_put : (p : Program) (types : List Carried) (constants : List Constant) (old a b c d e f g h i j now : List ℕ)
    → a ≡ old ++ P.line 0 (codes "/* pabble 1 typed */")
    → b ≡ a ++ protocol_line p.protocol
    → c ≡ b ++ range_line p.range
    → d ≡ c ++ roles_written p.roles
    → e ≡ d ++ labels_written p.labels
    → f ≡ e ++ pieces_text p (type_rows p.labels types)
    → g ≡ f ++ buffers_written
    → h ≡ g ++ pieces_text p trace_lines
    → i ≡ h ++ pieces_text p (if list_any is_open types then count_lines else [])
    → j ≡ i ++ pieces_text p (constant_lines constants)
    → now ≡ j ++ pieces_text p (owns p.labels types)
    → now ≡ old ++ pieces_text p (head_pieces p types constants)
unfolding protocol_line range_line
head_put p types constants old a b c d e f g h i j now e1 e2 e3 e4 e5 e6 e7 e8 e9 e10 e11 =
    let title = instead 0 (raw (codes "/* pabble 1 */")) (codes "/* pabble 1 typed */") in
    let protocol = same 0 (raw (P.joined (codes "/* protocol " ∷ p.protocol ∷ codes " */" ∷ []))) in
    let range = same 0 (raw (range_text p.range)) in
    let roles = as_they_are (role_lines p.range [] p.roles) in
    let labels = as_they_are (label_lines [] p.labels) in
    let rows = type_rows p.labels types in
    let buffers = as_they_are buffer_lines in
    let counts = if list_any is_open types then count_lines else [] in
    let top = title ∷ protocol ∷ range ∷ roles in
    let s1 : d ≡ old ++ pieces_text p top =
    step p title (protocol ∷ range ∷ roles) old a d e1 (step p protocol (range ∷ roles) a b d e2 (step p range roles b c d e3 (put p (role_lines p.range [] p.roles) (roles_written p.roles) c d (roles_same p p.range [] p.roles) e4))) in
    let s2 = steps p top labels old d e s1 (put p (label_lines [] p.labels) (labels_written p.labels) d e (labels_same p [] p.labels) e5) in
    let s3 = steps p (top ++ labels) rows old e f s2 e6 in
    let s4 = steps p ((top ++ labels) ++ rows) buffers old f g s3 (put p buffer_lines buffers_written f g (buffers_same p) e7) in
    let s5 = steps p (((top ++ labels) ++ rows) ++ buffers) trace_lines old g h s4 e8 in
    let s6 = steps p ((((top ++ labels) ++ rows) ++ buffers) ++ trace_lines) counts old h i s5 e9 in
    let s7 = steps p (((((top ++ labels) ++ rows) ++ buffers) ++ trace_lines) ++ counts) (constant_lines constants) old i j s6 e10 in
    steps p ((((((top ++ labels) ++ rows) ++ buffers) ++ trace_lines) ++ counts) ++ constant_lines constants) (owns p.labels types) old j now s7 e11

-- ---- functions

five : (h b m x e old v w y z now : List ℕ) → v ≡ old ++ h → w ≡ v ++ b → y ≡ w ++ m → z ≡ y ++ x → now ≡ z ++ e → now ≡ old ++ (h ++ (b ++ (m ++ (x ++ e))))
five h b m x e old v w y z now e1 e2 e3 e4 e5 = onto old v now h (b ++ (m ++ (x ++ e))) e1 (onto v w now b (m ++ (x ++ e)) e2 (onto w y now m (x ++ e) e3 (onto y z now x e e4 e5)))

abbrev marked : List ℕ → List ℕ
marked name = P.line 0 (marker_of name)

headed_text : (p : Program) (plain_head head name body : List ℕ) → pieces_text p (headed plain_head head name body) ≡ P.line 0 head ++ (brace ++ (marked name ++ (body_written body ++ function_end)))
unfolding brace function_end end_marker end_brace
headed_text p plain_head head name body =
    let last = same 0 (raw (codes "/*@ end */")) ∷ same 0 (raw (codes "}")) ∷ [] in
    ap (λ w. P.line 0 head ++ (brace ++ (marked name ++ w)))
    (pieces_append p (as_they_are (body_lines body)) last
    ∙ both (pieces_text p (as_they_are (body_lines body))) (pieces_text p last) (body_written body) function_end (written p (body_lines body) ∙ body_lines_same p body) (right2 end_marker end_brace))

room_text : (p : Program) (element : Element) (l : CoreLabel) (body : List ℕ) → pieces_text p (room_pieces element l body) ≡ P.line 0 (room_head element l) ++ (brace ++ (marked (codes "room_" ++ l.name) ++ (body_written body ++ function_end)))
unfolding brace function_end end_marker end_brace body_written
room_text p element l body =
    let last = added 0 (codes "/*@ end */") ∷ added 0 (codes "}") ∷ [] in
    ap (λ w. P.line 0 (room_head element l) ++ (brace ++ (marked (codes "room_" ++ l.name) ++ w)))
    (pieces_append p (further 0 (lines_of body)) last
    ∙ both (pieces_text p (further 0 (lines_of body))) (pieces_text p last) (body_written body) function_end (further_text p (lines_of body)) (right2 end_marker end_brace))

pub headed_put : (p : Program) (plain_head head name body old v w y z now : List ℕ)
    → v ≡ old ++ P.line 0 head → w ≡ v ++ brace → y ≡ w ++ marked name → z ≡ y ++ body_written body → now ≡ z ++ function_end
    → now ≡ old ++ pieces_text p (headed plain_head head name body)
headed_put p plain_head head name body old v w y z now e1 e2 e3 e4 e5 =
    five (P.line 0 head) brace (marked name) (body_written body) function_end old v w y z now e1 e2 e3 e4 e5 ∙ ap (λ t. old ++ t) (sym (headed_text p plain_head head name body))

pub room_put : (p : Program) (element : Element) (l : CoreLabel) (body old v w y z now : List ℕ)
    → v ≡ old ++ P.line 0 (room_head element l) → w ≡ v ++ brace → y ≡ w ++ marked (codes "room_" ++ l.name) → z ≡ y ++ body_written body → now ≡ z ++ function_end
    → now ≡ old ++ pieces_text p (room_pieces element l body)
room_put p element l body old v w y z now e1 e2 e3 e4 e5 =
    five (P.line 0 (room_head element l)) brace (marked (codes "room_" ++ l.name)) (body_written body) function_end old v w y z now e1 e2 e3 e4 e5 ∙ ap (λ t. old ++ t) (sym (room_text p element l body))

-- the functions of labels before those of the kernels
pub after_text : (p : Program) (ls : List CoreLabel) (types : List Carried) (ks : List CoreKernel) (bodies : List (List ℕ))
    → pieces_text p (functions_after ls types ks bodies) ≡ pieces_text p (labels_pieces ls types bodies) ++ kernels_written ks (behind_labels ls types bodies)
after_text p [] types ks bodies = written p (kernel_lines [] ks bodies) ∙ kernels_same p [] ks bodies
after_text p (l ∷ ls) types ks bodies =
    by_words (has_words l.payload) (after_text p ls (others_carried types) ks (behind_label (first_carried types) bodies)) (after_text p ls (others_carried types) ks bodies) where
      by_words : (b : Bool)
          → pieces_text p (functions_after ls (others_carried types) ks (behind_label (first_carried types) bodies)) ≡ pieces_text p (labels_pieces ls (others_carried types) (behind_label (first_carried types) bodies)) ++ kernels_written ks (behind_labels ls (others_carried types) (behind_label (first_carried types) bodies))
          → pieces_text p (functions_after ls (others_carried types) ks bodies) ≡ pieces_text p (labels_pieces ls (others_carried types) bodies) ++ kernels_written ks (behind_labels ls (others_carried types) bodies)
          → pieces_text p (if b then label_pieces (first_carried types) l bodies ++ functions_after ls (others_carried types) ks (behind_label (first_carried types) bodies) else functions_after ls (others_carried types) ks bodies)
          ≡ pieces_text p ((if b then label_pieces (first_carried types) l bodies else []) ++ labels_pieces ls (others_carried types) (if b then behind_label (first_carried types) bodies else bodies)) ++ kernels_written ks (behind_labels ls (others_carried types) (if b then behind_label (first_carried types) bodies else bodies))
      by_words true with_words without =
          let c = first_carried types in
          let rest = behind_label c bodies in
          let ts = others_carried types in
          let x = pieces_text p (label_pieces c l bodies) in
          let y = pieces_text p (labels_pieces ls ts rest) in
          let z = kernels_written ks (behind_labels ls ts rest) in
          pieces_append p (label_pieces c l bodies) (functions_after ls ts ks rest) ∙ ap (λ w. x ++ w) with_words ∙ sym (append_assoc x y z)
          ∙ ap (λ w. w ++ z) (sym (pieces_append p (label_pieces c l bodies) (labels_pieces ls ts rest)))
      by_words false with_words without = without

pub functions_put : (p : Program) (ls : List CoreLabel) (types : List Carried) (ks : List CoreKernel) (bodies rest : List (List ℕ)) (old mid now : List ℕ)
    → mid ≡ old ++ pieces_text p (labels_pieces ls types bodies) → rest ≡ behind_labels ls types bodies → now ≡ mid ++ kernels_written ks rest
    → now ≡ old ++ pieces_text p (functions_after ls types ks bodies)
functions_put p ls types ks bodies rest old mid now first is last =
    onto old mid now (pieces_text p (labels_pieces ls types bodies)) (kernels_written ks (behind_labels ls types bodies)) first (last ∙ ap (λ r. mid ++ kernels_written ks r) is)
    ∙ ap (λ t. old ++ t) (sym (after_text p ls types ks bodies))

-- ---- lines in parts

pub fronted : (a b : List ℕ) (rest : List (List ℕ)) (old x now : List ℕ) → x ≡ old ++ (a ++ b) → now ≡ x ++ P.line 0 (P.joined rest) → now ≡ old ++ P.line 0 (P.joined (a ∷ b ∷ rest))
fronted a b rest old x now first last =
    onto old x now (a ++ b) (P.line 0 (P.joined rest)) first last
    ∙ ap (λ w. old ++ w) (sym (append_assoc (a ++ b) (P.joined rest) (10 ∷ [])) ∙ ap (λ w. w ++ 10 ∷ []) (append_assoc a b (P.joined rest)))

two_texts : (s t old a now : List ℕ) → a ≡ old ++ s → now ≡ a ++ t → now ≡ old ++ (s ++ (t ++ []))
two_texts s t old a now first last = onto old a now s (t ++ []) first (last ∙ ap (λ w. a ++ w) (sym (append-nil t)))

pub fixed_put : (p : Program) (e : Element) (number : ℕ) (l : CoreLabel) (old a now : List ℕ)
    → a ≡ old ++ P.line 0 (P.joined (codes "enum { n_" ∷ l.name ∷ codes " = " ∷ decimal number ∷ codes " };" ∷ []))
    → now ≡ a ++ P.line 0 (P.joined (codes "static " ∷ c_name e ∷ codes " s_" ∷ l.name ∷ codes "[n_" ∷ l.name ∷ codes "], t_" ∷ l.name ∷ codes "[n_" ∷ l.name ∷ codes "];" ∷ []))
    → now ≡ old ++ pieces_text p (own_lines (Fixed e number) l)
fixed_put p e number l old a now first last = two_texts _ _ old a now first last

pub open_put : (p : Program) (e : Element) (l : CoreLabel) (old a b now : List ℕ)
    → a ≡ old ++ P.line 0 (P.joined (codes "static const " ∷ c_name e ∷ codes " *s_" ∷ l.name ∷ codes ";" ∷ []))
    → b ≡ a ++ P.line 0 (P.joined (codes "static " ∷ c_name e ∷ codes " *t_" ∷ l.name ∷ codes ";" ∷ []))
    → now ≡ b ++ P.line 0 (P.joined (codes "static int n_" ∷ l.name ∷ codes ", m_" ∷ l.name ∷ codes ";" ∷ []))
    → now ≡ old ++ pieces_text p (own_lines (Open e) l)
open_put p e l old a b now first second last = onto old a now _ _ first (two_texts _ _ a b now second last)
