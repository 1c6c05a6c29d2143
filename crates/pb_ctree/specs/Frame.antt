-- The lines around the statements: the head, the kernels and main.
use Rattle.std.specs.Prelude.{if◌then◌else◌, ℕ, ◌+◌, Bool, true, not, ◌&&◌, Option, Some, None, List, [], ◌∷◌, ◌++◌, codes, decimal, map}
use Rattle.std.specs.Fmt.{signed_decimal}
use Rattle.pb_affine.specs.declared.range.NRange.{NRange}
use Rattle.pb_syntax.specs.declared.tree.Payload.{Payload}
use Rattle.pb_syntax.specs.declared.tree.Payload.TheVariants.{Unit as NoWords, Int32, Uint32}
use Rattle.pb_syntax.specs.declared.core_label.CoreLabel.{CoreLabel}
use Rattle.pb_syntax.specs.declared.core_label.CoreKernel.{CoreKernel}
use Rattle.pb_syntax.specs.declared.core_label.KernelKind.{KernelKind}
use Rattle.pb_syntax.specs.declared.core_label.KernelKind.TheVariants.{Compute as Computes, Choice as Chooses}
use Rattle.pb_local.specs.declared.tables.Role.{Role}
use Rattle.pb_local.specs.Names.{is_name}
use Rattle.pb_local.specs.Pieces.{joined}
use Rattle.pb_local.specs.Ranks.{Sum, ranks_of, bases_of, places_of}
use Rattle.pb_local.specs.Tree.{Program}
use Rattle.pb_local.specs.WellMade.{outermost}
use Rattle.pb_ctree.specs.Bodies.{is_marker, lines_of}
use Rattle.pb_ctree.specs.Functions.{has_words}
use Rattle.pb_ctree.specs.Lines.{raw, Line, line}
use Rattle.pb_ctree.specs.Rules.{is_range, is_role, has_size, is_label_row, is_kernel_row, is_single}
use Rattle.pb_ctree.specs.Small.{lin_text, sum_text}
use Rattle.pb_ctree.specs.Spelling.{spelled_all}

-- a line that says no more than its words
abbrev pub words : ℕ → List ℕ → Line
words d text = line d (raw text) true

-- ---- the head

abbrev pub high_text : Option ℕ → List ℕ
high_text None = codes "max"
high_text (Some n) = decimal n

abbrev pub range_text : NRange → List ℕ
range_text r = joined (codes "/* N " ∷ decimal r.low ∷ codes " to " ∷ high_text r.high ∷ codes " */" ∷ [])

abbrev pub role_text : Role → List ℕ
role_text r = joined (codes "/* role " ∷ r.name ∷ codes " " ∷ lin_text r.low ∷ codes " to " ∷ lin_text r.high ∷ codes " */" ∷ [])

abbrev pub payload_text : Payload → List ℕ
payload_text NoWords = codes "()"
payload_text (Int32 count) = joined (codes "int32[" ∷ decimal count ∷ codes "]" ∷ [])
payload_text (Uint32 count) = joined (codes "uint32[" ∷ decimal count ∷ codes "]" ∷ [])

abbrev pub label_text : CoreLabel → List ℕ
label_text l = joined (codes "/* label " ∷ l.name ∷ codes " " ∷ payload_text l.payload ∷ codes " */" ∷ [])

abbrev pub role_lines : NRange → List (List ℕ) → List Role → List Line
role_lines range before [] = []
role_lines range before (r ∷ rs) = line 0 (raw (role_text r)) (is_role range before r) ∷ role_lines range (before ++ r.name ∷ []) rs

abbrev pub label_lines : List (List ℕ) → List CoreLabel → List Line
label_lines before [] = []
label_lines before (l ∷ ls) = line 0 (raw (label_text l)) (is_label_row before l) ∷ label_lines (before ++ l.name ∷ []) ls

abbrev pub buffer_lines : List Line
buffer_lines =
    words 0 (codes "#include <mpi.h>")
    ∷ words 0 (codes "#include <stdint.h>")
    ∷ words 0 (codes "static int32_t is[1024], ir[1024];")
    ∷ words 0 (codes "static uint32_t us[1024], ur[1024];") ∷ []

-- a further rule that the first of these lines keeps
abbrev pub with_rule : Bool → List Line → List Line
with_rule rule [] = []
with_rule rule (l ∷ ls) = record l { kept = l.kept && rule } ∷ ls

-- the number of ranks is settled once the role lines are there
abbrev pub head_lines : Program → List Line
head_lines p =
    words 0 (codes "/* pabble 1 */")
    ∷ line 0 (raw (joined (codes "/* protocol " ∷ p.protocol ∷ codes " */" ∷ []))) (is_name p.protocol)
    ∷ line 0 (raw (range_text p.range)) (is_range p.range)
    ∷ role_lines p.range [] p.roles ++ with_rule (has_size p) (label_lines [] p.labels ++ buffer_lines)

-- ---- bodies

-- a body stands as it is; none of its lines is a marker
abbrev pub body_lines : List ℕ → List Line
body_lines body = map (λ l. line 0 (raw l) (not (is_marker l))) (lines_of body)

abbrev pub prelude_lines : List ℕ → List Line
prelude_lines prelude = words 0 (codes "/*@ prelude */") ∷ body_lines prelude ++ words 0 (codes "/*@ end */") ∷ []

-- ---- the numbers of ranks

abbrev pub number_lines : List Role → List Sum → List Line
number_lines [] places = []
number_lines (r ∷ rs) [] = []
number_lines (r ∷ rs) (f ∷ fs) =
    words 0 (joined (codes "static int32_t r_" ∷ r.name ∷ codes "(int32_t N, int32_t x)" ∷ []))
    ∷ words 0 (codes "{")
    ∷ words 1 (joined (codes "return x + " ∷ sum_text f ∷ codes ";" ∷ []))
    ∷ words 0 (codes "}")
    ∷ number_lines rs fs

-- ---- kernel functions

-- a function: its head, and its body between the markers of its name
abbrev pub function_lines : List ℕ → Bool → List ℕ → List ℕ → List Line
function_lines head kept name body =
    line 0 (raw head) kept
    ∷ words 0 (codes "{")
    ∷ words 0 (joined (codes "/*@ kernel " ∷ name ∷ codes " */" ∷ []))
    ∷ body_lines body ++ words 0 (codes "/*@ end */") ∷ words 0 (codes "}") ∷ []

abbrev pub element_text : Payload → List ℕ
element_text NoWords = codes "uint32_t"
element_text (Int32 count) = codes "int32_t"
element_text (Uint32 count) = codes "uint32_t"

abbrev pub make_head : CoreLabel → List ℕ
make_head l = joined (codes "static void make_" ∷ l.name ∷ codes "(int32_t N, int32_t role, int32_t index, " ∷ element_text l.payload ∷ codes " *v)" ∷ [])

abbrev pub take_head : CoreLabel → List ℕ
take_head l = joined (codes "static void take_" ∷ l.name ∷ codes "(int32_t N, int32_t role, int32_t index, const " ∷ element_text l.payload ∷ codes " *v)" ∷ [])

abbrev pub kernel_letter : KernelKind → List ℕ
kernel_letter Computes = codes "k_"
kernel_letter Chooses = codes "c_"

abbrev pub kernel_type : KernelKind → List ℕ
kernel_type Computes = codes "static void "
kernel_type Chooses = codes "static int32_t "

abbrev pub kernel_head : CoreKernel → List ℕ
kernel_head k = joined (kernel_type k.kind ∷ kernel_letter k.kind ∷ k.name ∷ codes "(int32_t N, int32_t role, int32_t index)" ∷ [])

-- the first body, and the others
abbrev pub first_body : List (List ℕ) → List ℕ
first_body [] = []
first_body (b ∷ bs) = b

abbrev pub other_bodies : List (List ℕ) → List (List ℕ)
other_bodies [] = []
other_bodies (b ∷ bs) = bs

abbrev pub kernel_lines : List (List ℕ) → List CoreKernel → List (List ℕ) → List Line
kernel_lines before [] bodies = []
kernel_lines before (k ∷ ks) bodies =
    function_lines (kernel_head k) (is_kernel_row before k) (kernel_letter k.kind ++ k.name) (first_body bodies)
    ++ kernel_lines (before ++ k.name ∷ []) ks (other_bodies bodies)

abbrev pub words_lines : CoreLabel → List (List ℕ) → List Line
words_lines l bodies =
    function_lines (make_head l) true (codes "make_" ++ l.name) (first_body bodies)
    ++ function_lines (take_head l) true (codes "take_" ++ l.name) (first_body (other_bodies bodies))

-- two functions for each label with words, and then the kernels
abbrev pub kernels_after : List CoreLabel → List CoreKernel → List (List ℕ) → List Line
kernels_after [] kernels bodies = kernel_lines [] kernels bodies
kernels_after (l ∷ ls) kernels bodies =
    if has_words l.payload
    then words_lines l bodies ++ kernels_after ls kernels (other_bodies (other_bodies bodies))
    else kernels_after ls kernels bodies

-- ---- main

abbrev pub start_lines : List Line
start_lines =
    words 0 (codes "int main(int argc, char **argv)")
    ∷ words 0 (codes "{")
    ∷ words 1 (codes "int size, rank;")
    ∷ words 1 (codes "int32_t N, R, I, a, i;")
    ∷ words 1 (codes "MPI_Status st;")
    ∷ words 1 (codes "MPI_Init(&argc, &argv);")
    ∷ words 1 (codes "MPI_Comm_size(MPI_COMM_WORLD, &size);")
    ∷ words 1 (codes "MPI_Comm_rank(MPI_COMM_WORLD, &rank);") ∷ []

-- N from the number of ranks, or the one number of the range
abbrev pub n_text : NRange → Sum → List ℕ
n_text range size =
    if is_single range
    then joined (codes "N = " ∷ decimal range.low ∷ codes ";" ∷ [])
    else joined (codes "N = (size - " ∷ signed_decimal size.b ∷ codes ") / " ∷ signed_decimal size.a ∷ codes ";" ∷ [])

abbrev pub zero_lines : List Line
zero_lines = words 1 (codes "R = 0;") ∷ words 1 (codes "I = 0;") ∷ words 1 (codes "a = 0;") ∷ words 1 (codes "i = 0;") ∷ []

abbrev pub above_text : Option ℕ → List ℕ
above_text None = []
above_text (Some high) = joined (codes " || N > " ∷ decimal high ∷ [])

abbrev pub size_text : NRange → Sum → List ℕ
size_text range size = joined (codes "if (N < " ∷ decimal range.low ∷ above_text range.high ∷ codes " || " ∷ sum_text size ∷ codes " != size) {" ∷ [])

abbrev pub size_lines : NRange → Sum → List Line
size_lines range size =
    words 1 (n_text range size)
    ∷ zero_lines ++ words 1 (size_text range size) ∷ words 2 (codes "MPI_Abort(MPI_COMM_WORLD, 2);") ∷ words 1 (codes "}") ∷ []

-- the last role whose base is at most the rank's number is the rank's
abbrev pub seat_lines : ℕ → List Sum → List Sum → List Line
seat_lines k [] places = []
seat_lines k (b ∷ bs) [] = []
seat_lines k (b ∷ bs) (f ∷ fs) =
    words 1 (joined (codes "if (rank >= " ∷ sum_text b ∷ codes ") {" ∷ []))
    ∷ words 2 (joined (codes "R = " ∷ decimal k ∷ codes ";" ∷ []))
    ∷ words 2 (joined (codes "I = rank - (" ∷ sum_text f ∷ codes ");" ∷ []))
    ∷ words 1 (codes "}")
    ∷ seat_lines (k + 1) bs fs

abbrev pub end_lines : List Line
end_lines = words 1 (codes "MPI_Finalize();") ∷ words 1 (codes "return 0;") ∷ words 0 (codes "}") ∷ []

abbrev pub main_lines : Program → List Line
main_lines p =
    start_lines ++ size_lines p.range (ranks_of p.roles) ++ seat_lines 0 (bases_of p.roles) (places_of p.roles) ++ spelled_all p 1 outermost p.body ++ end_lines

-- the lines of a text
abbrev pub text_lines : Program → List ℕ → List (List ℕ) → List Line
text_lines p prelude bodies =
    head_lines p ++ prelude_lines prelude ++ number_lines p.roles (places_of p.roles) ++ kernels_after p.labels p.kernels bodies ++ main_lines p
