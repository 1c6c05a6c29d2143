-- The text around the statements, with bodies as their bytes.
use Rattle.std.specs.Prelude.{ℕ, ◌+◌, if◌then◌else◌, List, [], ◌∷◌, ◌++◌, codes, decimal}
use Rattle.std.specs.Fmt.{signed_decimal}
use Rattle.pb_affine.specs.declared.range.NRange.{NRange}
use Rattle.pb_syntax.specs.declared.core_label.CoreLabel.{CoreLabel}
use Rattle.pb_syntax.specs.declared.core_label.CoreKernel.{CoreKernel}
use Rattle.pb_local.specs.declared.tables.Role.{Role}
use Rattle.pb_local.specs.Pieces.{joined, line}
use Rattle.pb_local.specs.Ranks.{Sum, ranks_of, bases_of, places_of}
use Rattle.pb_local.specs.Tree.{Program}
use Rattle.pb_ctree.specs.Frame.{range_text, role_text, label_text, make_head, take_head, kernel_head, kernel_letter, first_body, other_bodies, size_text}
use Rattle.pb_ctree.specs.Bodies.{lines_of}
use Rattle.pb_ctree.specs.Functions.{has_words}
use Rattle.pb_ctree.specs.Rules.{is_single}
use Rattle.pb_ctree.specs.Small.{sum_text}
use Rattle.pb_cprint.specs.Written.{written_all}

-- ---- the head

unfoldable pub title : List ℕ
title = line 0 (codes "/* pabble 1 */")

unfoldable pub protocol_line : List ℕ → List ℕ
protocol_line name = line 0 (joined (codes "/* protocol " ∷ name ∷ codes " */" ∷ []))

unfoldable pub range_line : NRange → List ℕ
range_line r = line 0 (range_text r)

unfoldable pub role_line : Role → List ℕ
role_line r = line 0 (role_text r)

unfoldable pub label_line : CoreLabel → List ℕ
label_line l = line 0 (label_text l)

abbrev pub roles_written : List Role → List ℕ
roles_written [] = []
roles_written (r ∷ rs) = role_line r ++ roles_written rs

abbrev pub labels_written : List CoreLabel → List ℕ
labels_written [] = []
labels_written (l ∷ ls) = label_line l ++ labels_written ls

unfoldable pub buffers_written : List ℕ
buffers_written =
    line 0 (codes "#include <mpi.h>") ++ line 0 (codes "#include <stdint.h>") ++ line 0 (codes "static int32_t is[1024], ir[1024];") ++ line 0 (codes "static uint32_t us[1024], ur[1024];")

unfoldable pub head_written : Program → List ℕ
head_written p = title ++ protocol_line p.protocol ++ range_line p.range ++ roles_written p.roles ++ labels_written p.labels ++ buffers_written

unfoldable pub end_marker : List ℕ
end_marker = line 0 (codes "/*@ end */")

unfoldable pub prelude_marker : List ℕ
prelude_marker = line 0 (codes "/*@ prelude */")

-- lines, each with its line feed
abbrev pub lines_text : List (List ℕ) → List ℕ
lines_text [] = []
lines_text (l ∷ ls) = (l ++ 10 ∷ []) ++ lines_text ls

unfoldable pub body_written : List ℕ → List ℕ
body_written body = lines_text (lines_of body)

unfoldable pub prelude_written : List ℕ → List ℕ
prelude_written body = prelude_marker ++ body_written body ++ end_marker

unfoldable pub brace : List ℕ
brace = line 0 (codes "{")

unfoldable pub end_brace : List ℕ
end_brace = line 0 (codes "}")

-- ---- the numbers of ranks

unfoldable pub place_head : Role → List ℕ
place_head r = line 0 (joined (codes "static int32_t r_" ∷ r.name ∷ codes "(int32_t N, int32_t x)" ∷ []))

unfoldable pub place_line : Sum → List ℕ
place_line f = line 1 (joined (codes "return x + " ∷ sum_text f ∷ codes ";" ∷ []))

unfoldable pub number_written : Role → Sum → List ℕ
number_written r f = place_head r ++ brace ++ place_line f ++ end_brace

abbrev pub numbers_written : List Role → List Sum → List ℕ
numbers_written [] fs = []
numbers_written (r ∷ rs) [] = []
numbers_written (r ∷ rs) (f ∷ fs) = number_written r f ++ numbers_written rs fs

-- ---- kernel functions

unfoldable pub make_line : CoreLabel → List ℕ
make_line l = line 0 (make_head l)

unfoldable pub take_line : CoreLabel → List ℕ
take_line l = line 0 (take_head l)

unfoldable pub kernel_line : CoreKernel → List ℕ
kernel_line k = line 0 (kernel_head k)

unfoldable pub make_marker : CoreLabel → List ℕ
make_marker l = line 0 (joined (codes "/*@ kernel " ∷ codes "make_" ∷ l.name ∷ codes " */" ∷ []))

unfoldable pub take_marker : CoreLabel → List ℕ
take_marker l = line 0 (joined (codes "/*@ kernel " ∷ codes "take_" ∷ l.name ∷ codes " */" ∷ []))

unfoldable pub kernel_marker : CoreKernel → List ℕ
kernel_marker k = line 0 (joined (codes "/*@ kernel " ∷ kernel_letter k.kind ∷ k.name ∷ codes " */" ∷ []))

unfoldable pub function_end : List ℕ
function_end = end_marker ++ end_brace

unfoldable pub make_written : CoreLabel → List ℕ → List ℕ
make_written l body = make_line l ++ brace ++ make_marker l ++ body_written body ++ function_end

unfoldable pub take_written : CoreLabel → List ℕ → List ℕ
take_written l body = take_line l ++ brace ++ take_marker l ++ body_written body ++ function_end

unfoldable pub kernel_written : CoreKernel → List ℕ → List ℕ
kernel_written k body = kernel_line k ++ brace ++ kernel_marker k ++ body_written body ++ function_end

-- the functions of a label, and the bodies behind theirs
unfoldable pub label_written : CoreLabel → List (List ℕ) → List ℕ
label_written l bodies = if has_words l.payload then make_written l (first_body bodies) ++ take_written l (first_body (other_bodies bodies)) else []

unfoldable pub behind_label : CoreLabel → List (List ℕ) → List (List ℕ)
behind_label l bodies = if has_words l.payload then other_bodies (other_bodies bodies) else bodies

abbrev pub words_written : List CoreLabel → List (List ℕ) → List ℕ
words_written [] bodies = []
words_written (l ∷ ls) bodies = label_written l bodies ++ words_written ls (behind_label l bodies)

abbrev pub bodies_behind : List CoreLabel → List (List ℕ) → List (List ℕ)
bodies_behind [] bodies = bodies
bodies_behind (l ∷ ls) bodies = bodies_behind ls (behind_label l bodies)

abbrev pub kernels_written : List CoreKernel → List (List ℕ) → List ℕ
kernels_written [] bodies = []
kernels_written (k ∷ ks) bodies = kernel_written k (first_body bodies) ++ kernels_written ks (other_bodies bodies)

-- ---- main

unfoldable pub start_written : List ℕ
start_written =
    line 0 (codes "int main(int argc, char **argv)") ++ line 0 (codes "{") ++ line 1 (codes "int size, rank;") ++ line 1 (codes "int32_t N, R, I, a, i;") ++ line 1 (codes "MPI_Status st;")
    ++ line 1 (codes "MPI_Init(&argc, &argv);") ++ line 1 (codes "MPI_Comm_size(MPI_COMM_WORLD, &size);") ++ line 1 (codes "MPI_Comm_rank(MPI_COMM_WORLD, &rank);")

unfoldable pub zeros_written : List ℕ
zeros_written = line 1 (codes "R = 0;") ++ line 1 (codes "I = 0;") ++ line 1 (codes "a = 0;") ++ line 1 (codes "i = 0;")

unfoldable pub abort_size : List ℕ
abort_size = line 2 (codes "MPI_Abort(MPI_COMM_WORLD, 2);") ++ line 1 (codes "}")

unfoldable pub n_single : NRange → List ℕ
n_single range = line 1 (joined (codes "N = " ∷ decimal range.low ∷ codes ";" ∷ []))

unfoldable pub n_divided : Sum → List ℕ
n_divided size = line 1 (joined (codes "N = (size - " ∷ signed_decimal size.b ∷ codes ") / " ∷ signed_decimal size.a ∷ codes ";" ∷ []))

abbrev pub n_written : NRange → Sum → List ℕ
n_written range size = if is_single range then n_single range else n_divided size

unfoldable pub test_size : NRange → Sum → List ℕ
test_size range size = line 1 (size_text range size)

unfoldable pub size_written : NRange → Sum → List ℕ
size_written range size = n_written range size ++ zeros_written ++ test_size range size ++ abort_size

unfoldable pub rank_line : Sum → List ℕ
rank_line b = line 1 (joined (codes "if (rank >= " ∷ sum_text b ∷ codes ") {" ∷ []))

unfoldable pub role_is : ℕ → List ℕ
role_is k = line 2 (joined (codes "R = " ∷ decimal k ∷ codes ";" ∷ []))

unfoldable pub index_is : Sum → List ℕ
index_is f = line 2 (joined (codes "I = rank - (" ∷ sum_text f ∷ codes ");" ∷ []))

unfoldable pub seat_end : List ℕ
seat_end = line 1 (codes "}")

unfoldable pub seat_written : ℕ → Sum → Sum → List ℕ
seat_written k b f = rank_line b ++ role_is k ++ index_is f ++ seat_end

abbrev pub seats_written : ℕ → List Sum → List Sum → List ℕ
seats_written k [] fs = []
seats_written k (b ∷ bs) [] = []
seats_written k (b ∷ bs) (f ∷ fs) = seat_written k b f ++ seats_written (k + 1) bs fs

unfoldable pub end_written : List ℕ
end_written = line 1 (codes "MPI_Finalize();") ++ line 1 (codes "return 0;") ++ line 0 (codes "}")

unfoldable pub functions_written : Program → List (List ℕ) → List ℕ
functions_written p bodies = words_written p.labels bodies ++ kernels_written p.kernels (bodies_behind p.labels bodies)

unfoldable pub before_main : Program → List ℕ → List (List ℕ) → List ℕ
before_main p prelude bodies = head_written p ++ prelude_written prelude ++ numbers_written p.roles (places_of p.roles) ++ functions_written p bodies

unfoldable pub main_written : Program → List ℕ
main_written p = start_written ++ size_written p.range (ranks_of p.roles) ++ seats_written 0 (bases_of p.roles) (places_of p.roles) ++ written_all p 1 p.body ++ end_written

abbrev pub text_written : Program → List ℕ → List (List ℕ) → List ℕ
text_written p prelude bodies = before_main p prelude bodies ++ main_written p
