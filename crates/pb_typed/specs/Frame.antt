-- The pieces around the statements: the head, the functions and main.
use Rattle.std.specs.Prelude.{ℕ, Bool, true, false, if◌then◌else◌, List, [], ◌∷◌, ◌++◌, codes, decimal}
use Rattle.std.specs.List.{list_any}
use Rattle.pb_syntax.specs.declared.core_label.CoreLabel.{CoreLabel}
use Rattle.pb_syntax.specs.declared.core_label.CoreKernel.{CoreKernel}
use Rattle.pb_local.specs.Pieces.{joined}
use Rattle.pb_local.specs.Ranks.{ranks_of, bases_of, places_of}
use Rattle.pb_local.specs.Tree.{Program}
use Rattle.pb_ctree.specs.Bodies.{lines_of}
use Rattle.pb_ctree.specs.Frame.{range_text, element_text, role_lines, label_lines, buffer_lines, body_lines, prelude_lines, number_lines, kernel_lines, make_head, take_head, start_lines, size_lines, seat_lines, end_lines, first_body, other_bodies}
use Rattle.pb_ctree.specs.Functions.{has_words}
use Rattle.pb_ctree.specs.Lines.{raw}
use Rattle.pb_types.specs.declared.element.Element.{Element}
use Rattle.pb_types.specs.declared.carried.Carried.{Carried}
use Rattle.pb_types.specs.declared.carried.Carried.TheVariants.{Words, Fixed, Open}
use Rattle.pb_typed_types.specs.declared.types.Constant.{Constant}
use Rattle.pb_types.specs.Elements.{c_name}
use Rattle.pb_types.specs.Rows.{type_head}
use Rattle.pb_typed.specs.Hooks.{start_hook, end_hook}
use Rattle.pb_typed.specs.Pieces.{Piece, same, instead, added, as_they_are, further}
use Rattle.pb_typed.specs.Statements.{typed_all}

-- a line of the frame as it is
abbrev pub as_it_is : ℕ → List ℕ → Piece
as_it_is depth text = same depth (raw text)

-- ---- the head

-- what a label of the table carries, and what those behind it do
abbrev pub first_carried : List Carried → Carried
first_carried [] = Words
first_carried (c ∷ cs) = c

abbrev pub others_carried : List Carried → List Carried
others_carried [] = []
others_carried (c ∷ cs) = cs

-- a row for a label that has a type
abbrev pub type_row : Carried → CoreLabel → List Piece
type_row Words l = []
type_row (Fixed element number) l = added 0 (type_head l.name element ++ decimal number ++ codes "] */") ∷ []
type_row (Open element) l = added 0 (type_head l.name element ++ codes "] */") ∷ []

abbrev pub type_rows : List CoreLabel → List Carried → List Piece
type_rows [] types = []
type_rows (l ∷ ls) types = type_row (first_carried types) l ++ type_rows ls (others_carried types)

-- without PABBLE_TRACE no header is needed, and nothing is recorded
abbrev pub trace_lines : List Piece
trace_lines =
    further 0 (codes "#ifdef PABBLE_TRACE" ∷ codes "#include <pabble_trace.h>" ∷ codes "#else" ∷ codes "#define PABBLE(...)" ∷ codes "#endif" ∷ [])

abbrev pub is_open : Carried → Bool
is_open Words = false
is_open (Fixed element number) = false
is_open (Open element) = true

-- ends the run where a count is below 0 or above the most
abbrev pub count_lines : List Piece
count_lines =
    added 0 (codes "#include <stdio.h>")
    ∷ added 0 (codes "static int pabble_count(const char *kernel, int count, int most)")
    ∷ added 0 (codes "{")
    ∷ added 1 (codes "if (count < 0 || count > most) {")
    ∷ added 2 (codes "fprintf(stderr, \"pabble: %s: count %d, room for %d\\n\", kernel, count, most);")
    ∷ added 2 (codes "MPI_Abort(MPI_COMM_WORLD, 4);")
    ∷ added 1 (codes "}")
    ∷ added 1 (codes "return count;")
    ∷ added 0 (codes "}") ∷ []

abbrev pub constant_lines : List Constant → List Piece
constant_lines [] = []
constant_lines (c ∷ cs) = added 0 (joined (codes "enum { " ∷ c.name ∷ codes " = " ∷ decimal c.value ∷ codes " };" ∷ [])) ∷ constant_lines cs

-- the count and the buffers of a label, or its pointers and counts
abbrev pub own_lines : Carried → CoreLabel → List Piece
own_lines Words l = []
own_lines (Fixed element number) l =
    added 0 (joined (codes "enum { n_" ∷ l.name ∷ codes " = " ∷ decimal number ∷ codes " };" ∷ []))
    ∷ added 0 (joined (codes "static " ∷ c_name element ∷ codes " s_" ∷ l.name ∷ codes "[n_" ∷ l.name ∷ codes "], t_" ∷ l.name ∷ codes "[n_" ∷ l.name ∷ codes "];" ∷ [])) ∷ []
own_lines (Open element) l =
    added 0 (joined (codes "static const " ∷ c_name element ∷ codes " *s_" ∷ l.name ∷ codes ";" ∷ []))
    ∷ added 0 (joined (codes "static " ∷ c_name element ∷ codes " *t_" ∷ l.name ∷ codes ";" ∷ []))
    ∷ added 0 (joined (codes "static int n_" ∷ l.name ∷ codes ", m_" ∷ l.name ∷ codes ";" ∷ [])) ∷ []

abbrev pub owns : List CoreLabel → List Carried → List Piece
owns [] types = []
owns (l ∷ ls) types = own_lines (first_carried types) l ++ owns ls (others_carried types)

abbrev pub head_pieces : Program → List Carried → List Constant → List Piece
head_pieces p types constants =
    instead 0 (raw (codes "/* pabble 1 */")) (codes "/* pabble 1 typed */")
    ∷ as_it_is 0 (joined (codes "/* protocol " ∷ p.protocol ∷ codes " */" ∷ []))
    ∷ as_it_is 0 (range_text p.range)
    ∷ as_they_are (role_lines p.range [] p.roles)
    ++ as_they_are (label_lines [] p.labels)
    ++ type_rows p.labels types
    ++ as_they_are buffer_lines
    ++ trace_lines
    ++ (if list_any is_open types then count_lines else [])
    ++ constant_lines constants
    ++ owns p.labels types

-- ---- kernel functions

abbrev pub to_end : List ℕ
to_end = codes "(int32_t N, int32_t role, int32_t index, int32_t to_role, int32_t to_index, "

abbrev pub from_end : List ℕ
from_end = codes "(int32_t N, int32_t role, int32_t index, int32_t from_role, int32_t from_index, "

abbrev pub typed_make_head : Carried → CoreLabel → List ℕ
typed_make_head Words l = joined (codes "static void make_" ∷ l.name ∷ to_end ∷ element_text l.payload ∷ codes " *v)" ∷ [])
typed_make_head (Fixed element number) l = joined (codes "static void make_" ∷ l.name ∷ to_end ∷ c_name element ∷ codes " *v)" ∷ [])
typed_make_head (Open element) l = joined (codes "static const " ∷ c_name element ∷ codes " *make_" ∷ l.name ∷ to_end ∷ codes "int *count)" ∷ [])

abbrev pub room_head : Element → CoreLabel → List ℕ
room_head element l = joined (codes "static " ∷ c_name element ∷ codes " *room_" ∷ l.name ∷ from_end ∷ codes "int *most)" ∷ [])

abbrev pub typed_take_head : Carried → CoreLabel → List ℕ
typed_take_head Words l = joined (codes "static void take_" ∷ l.name ∷ from_end ∷ codes "const " ∷ element_text l.payload ∷ codes " *v)" ∷ [])
typed_take_head (Fixed element number) l = joined (codes "static void take_" ∷ l.name ∷ from_end ∷ codes "const " ∷ c_name element ∷ codes " *v)" ∷ [])
typed_take_head (Open element) l = joined (codes "static void take_" ∷ l.name ∷ from_end ∷ codes "const " ∷ c_name element ∷ codes " *v, int count)" ∷ [])

abbrev pub marker_of : List ℕ → List ℕ
marker_of name = joined (codes "/*@ kernel " ∷ name ∷ codes " */" ∷ [])

-- a function of the plain text, under another head
abbrev pub headed : List ℕ → List ℕ → List ℕ → List ℕ → List Piece
headed plain_head head name body =
    instead 0 (raw plain_head) head
    ∷ as_it_is 0 (codes "{")
    ∷ as_it_is 0 (marker_of name)
    ∷ as_they_are (body_lines body) ++ as_it_is 0 (codes "/*@ end */") ∷ as_it_is 0 (codes "}") ∷ []

-- a function that the plain text doesn't have
abbrev pub room_pieces : Element → CoreLabel → List ℕ → List Piece
room_pieces element l body =
    added 0 (room_head element l)
    ∷ added 0 (codes "{")
    ∷ added 0 (marker_of (codes "room_" ++ l.name))
    ∷ further 0 (lines_of body) ++ added 0 (codes "/*@ end */") ∷ added 0 (codes "}") ∷ []

abbrev pub make_pieces : Carried → CoreLabel → List ℕ → List Piece
make_pieces c l body = headed (make_head l) (typed_make_head c l) (codes "make_" ++ l.name) body

abbrev pub take_pieces : Carried → CoreLabel → List ℕ → List Piece
take_pieces c l body = headed (take_head l) (typed_take_head c l) (codes "take_" ++ l.name) body

-- the functions of a label: its words are made and taken, or its elements, and the kernels' own memory gives room between the two
abbrev pub label_pieces : Carried → CoreLabel → List (List ℕ) → List Piece
label_pieces Words l bodies = make_pieces Words l (first_body bodies) ++ take_pieces Words l (first_body (other_bodies bodies))
label_pieces (Fixed element number) l bodies =
    make_pieces (Fixed element number) l (first_body bodies) ++ take_pieces (Fixed element number) l (first_body (other_bodies bodies))
label_pieces (Open element) l bodies =
    make_pieces (Open element) l (first_body bodies)
    ++ room_pieces element l (first_body (other_bodies bodies))
    ++ take_pieces (Open element) l (first_body (other_bodies (other_bodies bodies)))

-- the bodies behind those of a label
abbrev pub behind_label : Carried → List (List ℕ) → List (List ℕ)
behind_label Words bodies = other_bodies (other_bodies bodies)
behind_label (Fixed element number) bodies = other_bodies (other_bodies bodies)
behind_label (Open element) bodies = other_bodies (other_bodies (other_bodies bodies))

-- the functions of each label with words, and then the kernels
abbrev pub functions_after : List CoreLabel → List Carried → List CoreKernel → List (List ℕ) → List Piece
functions_after [] types kernels bodies = as_they_are (kernel_lines [] kernels bodies)
functions_after (l ∷ ls) types kernels bodies =
    if has_words l.payload
    then label_pieces (first_carried types) l bodies ++ functions_after ls (others_carried types) kernels (behind_label (first_carried types) bodies)
    else functions_after ls (others_carried types) kernels bodies

-- ---- main

abbrev pub main_pieces : Program → List Carried → List Piece
main_pieces p types =
    as_they_are start_lines
    ++ added 1 (start_hook p)
    ∷ as_they_are (size_lines p.range (ranks_of p.roles))
    ++ as_they_are (seat_lines 0 (bases_of p.roles) (places_of p.roles))
    ++ typed_all p types 1 p.body
    ++ added 1 end_hook
    ∷ as_they_are end_lines

-- the pieces of a program text
abbrev pub program_pieces : Program → List Carried → List Constant → List ℕ → List (List ℕ) → List Piece
program_pieces p types constants prelude bodies =
    head_pieces p types constants
    ++ as_they_are (prelude_lines prelude)
    ++ as_they_are (number_lines p.roles (places_of p.roles))
    ++ functions_after p.labels types p.kernels bodies
    ++ main_pieces p types
