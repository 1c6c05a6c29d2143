-- One label more, in loops over labels and what they carry.
use Rattle.std.proofs.Common.{◌≡◌, ℕ, ◌+◌, ◌<◌, Bool, true, false, List, [], ◌∷◌, ◌++◌, length, drop, get_or, refl, sym, ap, ◌∙◌, append_assoc, arith}
use Rattle.std.specs.Prelude.{if◌then◌else◌}
use Rattle.std.proofs.lemmas.List.{drop_more}
use Rattle.pb_syntax.specs.declared.core_label.CoreLabel.{CoreLabel}
use Rattle.pb_local.specs.Tree.{Program}
use Rattle.pb_ctree.specs.Frame.{first_body, other_bodies}
use Rattle.pb_ctree.specs.Functions.{has_words}
use Rattle.pb_cprint.proofs.Bodied.{others_at}
use Rattle.pb_types.specs.declared.carried.Carried.{Carried}
use Rattle.pb_types.specs.declared.carried.Carried.TheVariants.{Words, Fixed, Open}
use Rattle.pb_types.specs.declared.element.Element.{Element}
use Rattle.pb_typed.specs.Frame.{first_carried, others_carried, type_row, type_rows, own_lines, owns, make_pieces, room_pieces, take_pieces, label_pieces}
use Rattle.pb_typed.specs.Functions.{label_functions, labels_functions}
use Rattle.pb_typed.specs.declared.function.Function.{Function}
use Rattle.pb_typed.specs.Pieces.{pieces_text}
use Rattle.pb_typed.proofs.Spelling.{pieces_append, steps}
use Rattle.pb_typed_frame.specs.Functions.{pieces_of_label, behind_of, labels_pieces, behind_labels}
use Rattle.pb_typed_frame.proofs.Tables.{others_of}

cut : (labels : List CoreLabel) (i : ℕ) (l : CoreLabel) → i < length labels → l ≡ get_or labels i l → drop i labels ≡ l ∷ drop (i + 1) labels
cut labels i l less is = drop_more labels i l less ∙ ap (λ (y : CoreLabel). y ∷ drop (i + 1) labels) (sym is)

-- what one label more adds to a list
zip_round : {A : Type 0} (all : List CoreLabel → List Carried → List A) (one : Carried → CoreLabel → List A)
    → ((l : CoreLabel) (ls : List CoreLabel) (ts : List Carried) → all (l ∷ ls) ts ≡ one (first_carried ts) l ++ all ls (others_carried ts))
    → (labels : List CoreLabel) (types : List Carried) (i : ℕ) (l : CoreLabel) (c : Carried) (out new start : List A)
    → i < length labels → l ≡ get_or labels i l → c ≡ first_carried (drop i types) → new ≡ out ++ one c l
    → out ++ all (drop i labels) (drop i types) ≡ start → new ++ all (drop (i + 1) labels) (drop (i + 1) types) ≡ start
zip_round all one each labels types i l c out new start less is c_is put so_far =
    ap (λ w. w ++ all (drop (i + 1) labels) (drop (i + 1) types)) put
    ∙ append_assoc out (one c l) (all (drop (i + 1) labels) (drop (i + 1) types))
    ∙ ap (λ w. out ++ w)
    (ap (λ x. one x l ++ all (drop (i + 1) labels) (drop (i + 1) types)) c_is
    ∙ ap (λ t. one (first_carried (drop i types)) l ++ all (drop (i + 1) labels) t) (sym (others_of types i))
    ∙ sym (each l (drop (i + 1) labels) (drop i types)))
    ∙ ap (λ ls. out ++ all ls (drop i types)) (sym (cut labels i l less is))
    ∙ so_far

pub rows_round : (p : Program) (labels : List CoreLabel) (types : List Carried) (i : ℕ) (l : CoreLabel) (c : Carried) (out new start : List ℕ)
    → i < length labels → l ≡ get_or labels i l → c ≡ first_carried (drop i types) → new ≡ out ++ pieces_text p (type_row c l)
    → out ++ pieces_text p (type_rows (drop i labels) (drop i types)) ≡ start → new ++ pieces_text p (type_rows (drop (i + 1) labels) (drop (i + 1) types)) ≡ start
rows_round p labels types i l c out new start less is c_is put so_far =
    zip_round (λ ls ts. pieces_text p (type_rows ls ts)) (λ x l. pieces_text p (type_row x l)) (λ l ls ts. pieces_append p (type_row (first_carried ts) l) (type_rows ls (others_carried ts)))
    labels types i l c out new start less is c_is put so_far

pub owns_round : (p : Program) (labels : List CoreLabel) (types : List Carried) (i : ℕ) (l : CoreLabel) (c : Carried) (out new start : List ℕ)
    → i < length labels → l ≡ get_or labels i l → c ≡ first_carried (drop i types) → new ≡ out ++ pieces_text p (own_lines c l)
    → out ++ pieces_text p (owns (drop i labels) (drop i types)) ≡ start → new ++ pieces_text p (owns (drop (i + 1) labels) (drop (i + 1) types)) ≡ start
owns_round p labels types i l c out new start less is c_is put so_far =
    zip_round (λ ls ts. pieces_text p (owns ls ts)) (λ x l. pieces_text p (own_lines x l)) (λ l ls ts. pieces_append p (own_lines (first_carried ts) l) (owns ls (others_carried ts)))
    labels types i l c out new start less is c_is put so_far

abbrev functions_in : Carried → CoreLabel → List Function
functions_in c l = if has_words l.payload then label_functions c l else []

functions_each : (l : CoreLabel) (ls : List CoreLabel) (ts : List Carried) → labels_functions (l ∷ ls) ts ≡ functions_in (first_carried ts) l ++ labels_functions ls (others_carried ts)
functions_each l ls ts = by_words (has_words l.payload) where
  by_words : (b : Bool)
      → (if b then label_functions (first_carried ts) l ++ labels_functions ls (others_carried ts) else labels_functions ls (others_carried ts))
      ≡ (if b then label_functions (first_carried ts) l else []) ++ labels_functions ls (others_carried ts)
  by_words true = refl
  by_words false = refl

pub functions_round : (labels : List CoreLabel) (types : List Carried) (i : ℕ) (l : CoreLabel) (c : Carried) (out new start : List Function)
    → i < length labels → l ≡ get_or labels i l → c ≡ first_carried (drop i types) → new ≡ out ++ (if has_words l.payload then label_functions c l else [])
    → out ++ labels_functions (drop i labels) (drop i types) ≡ start → new ++ labels_functions (drop (i + 1) labels) (drop (i + 1) types) ≡ start
functions_round labels types i l c out new start less is c_is put so_far = zip_round labels_functions functions_in functions_each labels types i l c out new start less is c_is put so_far

-- ---- functions with bodies

pub two_put : (p : Program) (c : Carried) (l : CoreLabel) (bodies : List (List ℕ)) (at : ℕ) (old a now : List ℕ)
    → a ≡ old ++ pieces_text p (make_pieces c l (first_body (drop at bodies))) → now ≡ a ++ pieces_text p (take_pieces c l (first_body (drop (at + 1) bodies)))
    → now ≡ old ++ pieces_text p (make_pieces c l (first_body (drop at bodies)) ++ take_pieces c l (first_body (other_bodies (drop at bodies))))
two_put p c l bodies at old a now first last =
    steps p (make_pieces c l (first_body (drop at bodies))) (take_pieces c l (first_body (other_bodies (drop at bodies)))) old a now first
    (last ∙ ap (λ (b : List (List ℕ)). a ++ pieces_text p (take_pieces c l (first_body b))) (sym (others_at bodies at)))

pub three_put : (p : Program) (e : Element) (l : CoreLabel) (bodies : List (List ℕ)) (at : ℕ) (old a b now : List ℕ)
    → a ≡ old ++ pieces_text p (make_pieces (Open e) l (first_body (drop at bodies))) → b ≡ a ++ pieces_text p (room_pieces e l (first_body (drop (at + 1) bodies)))
    → now ≡ b ++ pieces_text p (take_pieces (Open e) l (first_body (drop (at + 2) bodies)))
    → now ≡ old ++ pieces_text p (label_pieces (Open e) l (drop at bodies))
three_put p e l bodies at old a b now first second last =
    let m = make_pieces (Open e) l (first_body (drop at bodies)) in
    let r = room_pieces e l (first_body (other_bodies (drop at bodies))) in
    let t = take_pieces (Open e) l (first_body (other_bodies (other_bodies (drop at bodies)))) in
    let add : (at + 1) + 1 ≡ at + 2 = omega arith in
    let behind : drop (at + 2) bodies ≡ other_bodies (other_bodies (drop at bodies)) = ap (λ n. drop n bodies) (sym add) ∙ sym (others_at bodies (at + 1)) ∙ ap other_bodies (sym (others_at bodies at)) in
    steps p (m ++ r) t old b now
    (steps p m r old a b first (second ∙ ap (λ (x : List (List ℕ)). a ++ pieces_text p (room_pieces e l (first_body x))) (sym (others_at bodies at))))
    (last ∙ ap (λ (x : List (List ℕ)). b ++ pieces_text p (take_pieces (Open e) l (first_body x))) behind)

of_label : (p : Program) (l : CoreLabel) (c : Carried) (bodies : List (List ℕ)) → has_words l.payload ≡ true → pieces_text p (label_pieces c l bodies) ≡ pieces_text p (pieces_of_label l c bodies)
of_label p l c bodies wordy = ap (λ (b : Bool). pieces_text p (if b then label_pieces c l bodies else [])) (sym wordy)

pub words_text : (p : Program) (l : CoreLabel) (c : Carried) (bodies : List (List ℕ)) → has_words l.payload ≡ true → c ≡ Words
    → pieces_text p (make_pieces c l (first_body bodies) ++ take_pieces c l (first_body (other_bodies bodies))) ≡ pieces_text p (pieces_of_label l c bodies)
words_text p l c bodies wordy is =
    ap (λ (x : Carried). pieces_text p (make_pieces x l (first_body bodies) ++ take_pieces x l (first_body (other_bodies bodies)))) is
    ∙ ap (λ (x : Carried). pieces_text p (label_pieces x l bodies)) (sym is) ∙ of_label p l c bodies wordy

pub fixed_text : (p : Program) (l : CoreLabel) (c : Carried) (e : Element) (number : ℕ) (bodies : List (List ℕ)) → has_words l.payload ≡ true → c ≡ Fixed e number
    → pieces_text p (make_pieces c l (first_body bodies) ++ take_pieces c l (first_body (other_bodies bodies))) ≡ pieces_text p (pieces_of_label l c bodies)
fixed_text p l c e number bodies wordy is =
    ap (λ (x : Carried). pieces_text p (make_pieces x l (first_body bodies) ++ take_pieces x l (first_body (other_bodies bodies)))) is
    ∙ ap (λ (x : Carried). pieces_text p (label_pieces x l bodies)) (sym is) ∙ of_label p l c bodies wordy

pub open_text : (p : Program) (l : CoreLabel) (c : Carried) (e : Element) (bodies : List (List ℕ)) → has_words l.payload ≡ true → c ≡ Open e
    → pieces_text p (label_pieces (Open e) l bodies) ≡ pieces_text p (pieces_of_label l c bodies)
open_text p l c e bodies wordy is = ap (λ (x : Carried). pieces_text p (label_pieces x l bodies)) (sym is) ∙ of_label p l c bodies wordy

pub labels_round : (p : Program) (labels : List CoreLabel) (types : List Carried) (i : ℕ) (l : CoreLabel) (c : Carried) (bodies : List (List ℕ)) (at next : ℕ) (out new start : List ℕ)
    → i < length labels → l ≡ get_or labels i l → c ≡ first_carried (drop i types) → new ≡ out ++ pieces_text p (pieces_of_label l c (drop at bodies)) → drop next bodies ≡ behind_of l c (drop at bodies)
    → out ++ pieces_text p (labels_pieces (drop i labels) (drop i types) (drop at bodies)) ≡ start
    → new ++ pieces_text p (labels_pieces (drop (i + 1) labels) (drop (i + 1) types) (drop next bodies)) ≡ start
labels_round p labels types i l c bodies at next out new start less is c_is put behind so_far =
    let rest = drop (i + 1) labels in
    let here = pieces_text p (pieces_of_label l c (drop at bodies)) in
    ap (λ w. w ++ pieces_text p (labels_pieces rest (drop (i + 1) types) (drop next bodies))) put
    ∙ append_assoc out here (pieces_text p (labels_pieces rest (drop (i + 1) types) (drop next bodies)))
    ∙ ap (λ w. out ++ w)
    (ap (λ (b : List (List ℕ)). here ++ pieces_text p (labels_pieces rest (drop (i + 1) types) b)) behind
    ∙ ap (λ (t : List Carried). here ++ pieces_text p (labels_pieces rest t (behind_of l c (drop at bodies)))) (sym (others_of types i))
    ∙ ap (λ (x : Carried). pieces_text p (pieces_of_label l x (drop at bodies)) ++ pieces_text p (labels_pieces rest (others_carried (drop i types)) (behind_of l x (drop at bodies)))) c_is
    ∙ sym (pieces_append p (pieces_of_label l (first_carried (drop i types)) (drop at bodies)) (labels_pieces rest (others_carried (drop i types)) (behind_of l (first_carried (drop i types)) (drop at bodies)))))
    ∙ ap (λ (ls : List CoreLabel). out ++ pieces_text p (labels_pieces ls (drop i types) (drop at bodies))) (sym (cut labels i l less is))
    ∙ so_far

pub behind_round : (labels : List CoreLabel) (types : List Carried) (i : ℕ) (l : CoreLabel) (c : Carried) (bodies : List (List ℕ)) (at next : ℕ) (start : List (List ℕ))
    → i < length labels → l ≡ get_or labels i l → c ≡ first_carried (drop i types) → drop next bodies ≡ behind_of l c (drop at bodies)
    → behind_labels (drop i labels) (drop i types) (drop at bodies) ≡ start → behind_labels (drop (i + 1) labels) (drop (i + 1) types) (drop next bodies) ≡ start
behind_round labels types i l c bodies at next start less is c_is behind so_far =
    let rest = drop (i + 1) labels in
    ap (λ (b : List (List ℕ)). behind_labels rest (drop (i + 1) types) b) behind
    ∙ ap (λ (t : List Carried). behind_labels rest t (behind_of l c (drop at bodies))) (sym (others_of types i))
    ∙ ap (λ (x : Carried). behind_labels rest (others_carried (drop i types)) (behind_of l x (drop at bodies))) c_is
    ∙ ap (λ (ls : List CoreLabel). behind_labels ls (drop i types) (drop at bodies)) (sym (cut labels i l less is))
    ∙ so_far
