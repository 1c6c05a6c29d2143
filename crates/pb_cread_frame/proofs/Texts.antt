-- The lines that are awaited, part by part.
use Rattle.std.proofs.Common.{◌≡◌, ℕ, List, [], ◌∷◌, ◌++◌, ◌+◌, map, drop, refl, sym, ap, ◌∙◌, append_assoc}
use Rattle.std.proofs.Common.{◌<◌, length, get_or, drop-cons, add-one, arith}
use Rattle.std.proofs.lemmas.List.{length-map}
use Rattle.pb_local.specs.Ranks.{no_ranks, with_role, places_with, bases_with}
use Rattle.std.specs.Prelude.{codes}
use Rattle.pb_affine.specs.declared.range.NRange.{NRange}
use Rattle.pb_syntax.specs.declared.core_label.CoreKernel.{CoreKernel}
use Rattle.pb_syntax.specs.declared.core_label.CoreLabel.{CoreLabel}
use Rattle.pb_local.specs.declared.tables.Role.{Role}
use Rattle.pb_local.specs.Pieces as P
use Rattle.pb_local.specs.Ranks.{Sum, ranks_of, bases_of, places_of}
use Rattle.pb_ctree.specs.Frame.{kernel_letter, number_lines, start_lines, size_lines, zero_lines, seat_lines}
use Rattle.pb_cprint.specs.Framed.{kernel_marker, make_line, make_marker, take_line, take_marker, test_size, brace, end_brace, place_head, place_line}
use Rattle.pb_cread_frame.specs.Reading.{text_at, make_opening, take_opening, n_text_line, abort_texts, kernel_opening, main_texts, main_behind}
use Rattle.pb_ctree.specs.declared.tree.Formula.{Formula}
use Rattle.pb_ctree.specs.Trees.{sum_of}
use Rattle.pb_cread_frame.proofs.Shapes.{map_both}

pub kernel_opened : (k : CoreKernel) → drop 1 (kernel_opening k) ≡ P.line 0 (codes "{") ∷ kernel_marker k ∷ []
unfolding kernel_marker
kernel_opened k = ap (λ w. P.line 0 (codes "{") ∷ P.line 0 (codes "/*@ kernel " ++ w) ∷ []) (append_assoc (kernel_letter k.kind) k.name (codes " */" ++ []))

pub main_opened : (range : NRange) (roles : List Role) → drop 1 (main_texts range roles) ≡ main_behind range (ranks_of roles) (bases_of roles) (places_of roles)
main_opened range roles =
    let sizes = size_lines range (ranks_of roles) in
    let seats = seat_lines 0 (bases_of roles) (places_of roles) in
    ap (drop 1) (map_both text_at (start_lines ++ sizes) seats ∙ ap (λ w. w ++ map text_at seats) (map_both text_at start_lines sizes))

pub make_opened : (l : CoreLabel) → make_opening l ≡ make_line l ∷ brace ∷ make_marker l ∷ []
unfolding make_line brace make_marker
make_opened l = refl

pub take_opened : (l : CoreLabel) → take_opening l ≡ take_line l ∷ brace ∷ take_marker l ∷ []
unfolding take_line brace take_marker
take_opened l = refl

-- four pieces, one after another
pub sizes_are : (t0 t1 t2 t3 t4 : List (List ℕ)) (range : NRange) (size : Sum) → t1 ≡ t0 ++ n_text_line range size ∷ [] → t2 ≡ t1 ++ map text_at zero_lines → t3 ≡ t2 ++ test_size range size ∷ [] → t4 ≡ t3 ++ abort_texts
    → t4 ≡ t0 ++ map text_at (size_lines range size)
unfolding test_size
sizes_are t0 t1 t2 t3 t4 range size a b c d =
    let n = n_text_line range size ∷ [] in
    let test = test_size range size ∷ [] in
    d ∙ ap (λ t. t ++ abort_texts) (c ∙ ap (λ t. t ++ test) (b ∙ ap (λ t. t ++ map text_at zero_lines) a))
    ∙ append_assoc ((t0 ++ n) ++ map text_at zero_lines) test abort_texts ∙ append_assoc (t0 ++ n) (map text_at zero_lines) (test ++ abort_texts) ∙ append_assoc t0 n (map text_at zero_lines ++ (test ++ abort_texts))

-- one more seat
pub seats_round : (k : ℕ) (bases places : List Formula) (b f : Formula) (now old all : List (List ℕ)) → drop k bases ≡ b ∷ drop (k + 1) bases → drop k places ≡ f ∷ drop (k + 1) places
    → now ≡ old ++ map text_at (seat_lines k (sum_of b ∷ []) (sum_of f ∷ [])) → old ++ map text_at (seat_lines k (map sum_of (drop k bases)) (map sum_of (drop k places))) ≡ all
    → now ++ map text_at (seat_lines (k + 1) (map sum_of (drop (k + 1) bases)) (map sum_of (drop (k + 1) places))) ≡ all
seats_round k bases places b f now old all cut_b cut_f put so_far =
    let rest = map text_at (seat_lines (k + 1) (map sum_of (drop (k + 1) bases)) (map sum_of (drop (k + 1) places))) in
    ap (λ t. t ++ rest) put ∙ append_assoc old (map text_at (seat_lines k (sum_of b ∷ []) (sum_of f ∷ []))) rest
    ∙ ap (λ (bs : List Formula). old ++ map text_at (seat_lines k (map sum_of bs) (map sum_of (f ∷ drop (k + 1) places)))) (sym cut_b)
    ∙ ap (λ (fs : List Formula). old ++ map text_at (seat_lines k (map sum_of (drop k bases)) (map sum_of fs))) (sym cut_f) ∙ so_far

pub number_opened : (r : Role) (f : Sum) → map text_at (number_lines (r ∷ []) (f ∷ [])) ≡ place_head r ∷ brace ∷ place_line f ∷ end_brace ∷ []
unfolding place_head brace place_line end_brace
number_opened r f = refl

pub main_are : (t0 t1 t2 t3 : List (List ℕ)) (range : NRange) (size : Sum) (bases places : List Sum) → t1 ≡ t0 ++ map text_at (drop 1 start_lines) → t2 ≡ t1 ++ map text_at (size_lines range size)
    → t3 ≡ t2 ++ map text_at (seat_lines 0 bases places) → t3 ≡ t0 ++ main_behind range size bases places
main_are t0 t1 t2 t3 range size bases places a b c =
    let one = map text_at (drop 1 start_lines) in
    let two = map text_at (size_lines range size) in
    let three = map text_at (seat_lines 0 bases places) in
    c ∙ ap (λ t. t ++ three) (b ∙ ap (λ t. t ++ two) a) ∙ append_assoc (t0 ++ one) two three ∙ append_assoc t0 one (two ++ three) ∙ ap (λ w. t0 ++ w) (sym (append_assoc one two three))

-- one more role's function
pub numbers_round : (k : ℕ) (roles : List Role) (places : List Formula) (r : Role) (f : Formula) (now old all : List (List ℕ)) → drop k roles ≡ r ∷ drop (k + 1) roles → drop k places ≡ f ∷ drop (k + 1) places
    → now ≡ old ++ map text_at (number_lines (r ∷ []) (sum_of f ∷ [])) → old ++ map text_at (number_lines (drop k roles) (map sum_of (drop k places))) ≡ all
    → now ++ map text_at (number_lines (drop (k + 1) roles) (map sum_of (drop (k + 1) places))) ≡ all
numbers_round k roles places r f now old all cut_r cut_f put so_far =
    let rest = map text_at (number_lines (drop (k + 1) roles) (map sum_of (drop (k + 1) places))) in
    ap (λ t. t ++ rest) put ∙ append_assoc old (map text_at (number_lines (r ∷ []) (sum_of f ∷ []))) rest
    ∙ ap (λ (rs : List Role). old ++ map text_at (number_lines rs (map sum_of (f ∷ drop (k + 1) places)))) (sym cut_r)
    ∙ ap (λ (fs : List Formula). old ++ map text_at (number_lines (drop k roles) (map sum_of fs))) (sym cut_f) ∙ so_far

places_long : (f : Sum) (roles : List Role) → length (places_with f roles) ≡ length roles
places_long f [] = refl
places_long f (r ∷ rs) = let e : length (places_with (with_role f r) rs) ≡ length rs = places_long (with_role f r) rs in omega (arith, e)

bases_long : (f : Sum) (roles : List Role) → length (bases_with f roles) ≡ length roles
bases_long f [] = refl
bases_long f (r ∷ rs) = let e : length (bases_with (with_role f r) rs) ≡ length rs = bases_long (with_role f r) rs in omega (arith, e)

pub places_many : (places : List Formula) (roles : List Role) → map sum_of places ≡ places_of roles → length places ≡ length roles
places_many places roles e = sym (length-map places sum_of) ∙ ap length e ∙ places_long no_ranks roles

pub seats_many : (bases places : List Formula) (roles : List Role) → map sum_of bases ≡ bases_of roles → map sum_of places ≡ places_of roles → length places ≡ length bases
seats_many bases places roles e f = places_many places roles f ∙ sym (bases_long no_ranks roles) ∙ sym (ap length e) ∙ length-map bases sum_of

-- the element at k, and what is behind it
pub cut : {A : Type 0} (xs : List A) (k : ℕ) (d : A) → k < length xs → drop k xs ≡ get_or xs k d ∷ drop (k + 1) xs
cut xs k d less = drop-cons xs k d less ∙ ap (λ n. get_or xs k d ∷ drop n xs) (sym (add-one k))
