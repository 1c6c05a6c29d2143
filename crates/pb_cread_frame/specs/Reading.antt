-- Reading the lines before the statements, each with its line feed, one after the other.
use Rattle.std.specs.Prelude.{ℕ, Bool, true, false, nat_eq, cond, List, [], ◌∷◌, ◌++◌, map, drop, Option, Some, None, codes, if◌then◌else◌}
use Rattle.std.specs.Cmp.Lexicographic.{pointwise}
use Rattle.pb_affine.specs.declared.range.NRange.{NRange}
use Rattle.pb_syntax.specs.declared.core_label.CoreLabel.{CoreLabel}
use Rattle.pb_syntax.specs.declared.core_label.CoreKernel.{CoreKernel}
use Rattle.pb_local.specs.declared.tables.Role.{Role}
use Rattle.pb_local.specs.Names.{is_name}
use Rattle.pb_local.specs.Pieces as P
use Rattle.pb_local.specs.Ranks.{Sum, ranks_of, bases_of, places_of}
use Rattle.pb_local.specs.Tree.{Program, nothing}
use Rattle.pb_ctree.specs.Bodies.{is_marker}
use Rattle.pb_ctree.specs.Frame.{buffer_lines, number_lines, make_head, take_head, kernel_letter, kernel_head, start_lines, size_lines, seat_lines, n_text}
use Rattle.pb_ctree.specs.Functions.{has_words}
use Rattle.pb_ctree.specs.Lines.{Line}
use Rattle.pb_ctree.specs.Rules.{is_range, is_role, has_size, is_label_row, is_kernel_row}
use Rattle.pb_ctree.specs.Texts.{line_text}
use Rattle.pb_cread_rows.specs.Guesses.{protocol_guess, range_guess, role_guess, label_guess, kernel_guess, if_spelled}
use Rattle.pb_cread_rows.specs.Spelled.{names_of_roles, names_of_labels, names_of_kernels, tables, protocol_text, range_line, role_line, label_line, kernel_line}

-- whose body is open
pub data Owner : Type 0 where
  of_prelude : Owner
  -- the function that makes a label's words, and the labels behind it
  of_make : (label : CoreLabel) (rest : List CoreLabel) → Owner
  of_take : (rest : List CoreLabel) → Owner
  of_kernel : Owner

-- what comes next
pub data Phase : Type 0 where
  at_protocol : Phase
  at_range : Phase
  at_roles : Phase
  at_labels : Phase
  in_body : (owner : Owner) → Phase
  at_kernels : Phase
  at_statements : Phase

-- what was read
pub record Read : Type 0 where
  pub protocol : List ℕ
  pub range : NRange
  pub roles : List Role
  pub labels : List CoreLabel
  pub kernels : List CoreKernel
  pub prelude : List ℕ
  pub bodies : List (List ℕ)
  -- of the body that is open
  pub text : List ℕ

pub record State : Type 0 where
  pub read : Read
  -- lines that must stand here, before what comes next
  pub awaited : List (List ℕ)
  pub phase : Phase

abbrev pub state : Read → List (List ℕ) → Phase → State
state read awaited phase = record { read = read; awaited = awaited; phase = phase }

-- a program of no rank: the lines around the statements are the same for all
abbrev pub nobody : Program
nobody = record { protocol = []; range = record { low = 0; high = None }; roles = []; labels = []; kernels = []; body = nothing }

abbrev pub text_at : Line → List ℕ
text_at l = line_text nobody l

-- ---- the lines that are awaited

abbrev pub title_text : List ℕ
title_text = P.line 0 (codes "/* pabble 1 */")

abbrev pub buffer_texts : List (List ℕ)
buffer_texts = map text_at buffer_lines

abbrev pub end_text : List ℕ
end_text = P.line 0 (codes "/*@ end */")

abbrev pub brace_text : List ℕ
brace_text = P.line 0 (codes "}")

-- a function's lines before its body
abbrev pub opening : List ℕ → List ℕ → List (List ℕ)
opening head name = P.line 0 head ∷ P.line 0 (codes "{") ∷ P.line 0 (P.joined (codes "/*@ kernel " ∷ name ∷ codes " */" ∷ [])) ∷ []

abbrev pub make_opening : CoreLabel → List (List ℕ)
make_opening l = opening (make_head l) (codes "make_" ++ l.name)

abbrev pub take_opening : CoreLabel → List (List ℕ)
take_opening l = opening (take_head l) (codes "take_" ++ l.name)

abbrev pub kernel_opening : CoreKernel → List (List ℕ)
kernel_opening k = opening (kernel_head k) (kernel_letter k.kind ++ k.name)

abbrev pub number_texts : List Role → List (List ℕ)
number_texts roles = map text_at (number_lines roles (places_of roles))

abbrev pub n_text_line : NRange → Sum → List ℕ
n_text_line range size = P.line 1 (n_text range size)

abbrev pub abort_texts : List (List ℕ)
abort_texts = P.line 2 (codes "MPI_Abort(MPI_COMM_WORLD, 2);") ∷ P.line 1 (codes "}") ∷ []

-- main's lines behind its head
abbrev pub main_behind : NRange → Sum → List Sum → List Sum → List (List ℕ)
main_behind range size bases places = map text_at (drop 1 start_lines) ++ map text_at (size_lines range size) ++ map text_at (seat_lines 0 bases places)

abbrev pub main_texts : NRange → List Role → List (List ℕ)
main_texts range roles = map text_at (start_lines ++ size_lines range (ranks_of roles) ++ seat_lines 0 (bases_of roles) (places_of roles))

-- ---- one line

abbrev pub nothing_read : Read
nothing_read = record { protocol = []; range = record { low = 0; high = None }; roles = []; labels = []; kernels = []; prelude = []; bodies = []; text = [] }

abbrev pub start : State
start = state nothing_read (title_text ∷ []) at_protocol

-- nothing is read; the name of the protocol is any
abbrev pub start_with : List ℕ → State
start_with name = state (record nothing_read { protocol = name }) (title_text ∷ []) at_protocol

abbrev pub same_line : List ℕ → List ℕ → Bool
same_line text line = pointwise nat_eq text line

-- the functions of the labels from here on, and then the kernels
abbrev pub to_words : Read → List (List ℕ) → List CoreLabel → State
to_words r before [] = state r before at_kernels
to_words r before (l ∷ ls) = if has_words l.payload then state r (before ++ make_opening l) (in_body (of_make l ls)) else to_words r before ls

-- the first label with words, and those behind it
abbrev pub first_wordy : List CoreLabel → Option (CoreLabel × List CoreLabel)
first_wordy [] = None
first_wordy (l ∷ ls) = if has_words l.payload then Some (l, ls) else first_wordy ls

abbrev pub words_state : Read → List (List ℕ) → Option (CoreLabel × List CoreLabel) → State
words_state r before None = state r before at_kernels
words_state r before (Some x) = state r (before ++ make_opening x.0) (in_body (of_make x.0 x.1))

abbrev pub with_body : Read → Read
with_body r = record r { bodies = r.bodies ++ r.text ∷ []; text = [] }

-- the end of a body
abbrev pub ended : Read → Owner → State
ended r of_prelude = to_words (record r { prelude = r.text; text = [] }) (number_texts r.roles) r.labels
ended r (of_make l ls) = state (with_body r) (brace_text ∷ take_opening l) (in_body (of_take ls))
ended r (of_take ls) = to_words (with_body r) (brace_text ∷ []) ls
ended r of_kernel = state (with_body r) (brace_text ∷ []) at_kernels

abbrev pub body_step : Read → Owner → List ℕ → Option State
body_step r owner line = cond (is_marker line) (cond (same_line end_text line) (Some (ended r owner)) None) (Some (state (record r { text = r.text ++ line }) [] (in_body owner)))

abbrev pub protocol_step : Read → Option (List ℕ) → Option State
protocol_step r None = None
protocol_step r (Some name) = Some (state (record r { protocol = name }) [] at_range)

abbrev pub range_step : Read → Option NRange → Option State
range_step r None = None
range_step r (Some range) = Some (state (record r { range = range }) [] at_roles)

abbrev pub include_text : List ℕ
include_text = P.line 0 (codes "#include <mpi.h>")

abbrev pub prelude_text : List ℕ
prelude_text = P.line 0 (codes "/*@ prelude */")

-- behind the last label
abbrev pub buffers_step : Read → List ℕ → Option State
buffers_step r line = cond (same_line include_text line) (Some (state r (drop 1 buffer_texts ++ prelude_text ∷ []) (in_body of_prelude))) None

abbrev pub with_label : Read → List ℕ → Option CoreLabel → Option State
with_label r line None = buffers_step r line
with_label r line (Some label) = Some (state (record r { labels = r.labels ++ label ∷ [] }) [] at_labels)

abbrev pub label_step : Read → List ℕ → Option State
label_step r line = with_label r line (if_spelled label_line (is_label_row (names_of_labels r.labels)) line (label_guess line))

abbrev pub with_role : Read → List ℕ → Option Role → Option State
with_role r line None = cond (has_size (tables r.range r.roles)) (label_step r line) None
with_role r line (Some role) = Some (state (record r { roles = r.roles ++ role ∷ [] }) [] at_roles)

abbrev pub main_text : List ℕ
main_text = P.line 0 (codes "int main(int argc, char **argv)")

abbrev pub main_step : Read → List ℕ → Option State
main_step r line = cond (same_line main_text line) (Some (state r (drop 1 (main_texts r.range r.roles)) at_statements)) None

abbrev pub with_kernel : Read → List ℕ → Option CoreKernel → Option State
with_kernel r line None = main_step r line
with_kernel r line (Some kernel) = Some (state (record r { kernels = r.kernels ++ kernel ∷ [] }) (drop 1 (kernel_opening kernel)) (in_body of_kernel))

-- a line where none is awaited
abbrev pub free_step : Read → Phase → List ℕ → Option State
free_step r at_protocol line = protocol_step r (if_spelled protocol_text is_name line (protocol_guess line))
free_step r at_range line = range_step r (if_spelled range_line is_range line (range_guess line))
free_step r at_roles line = with_role r line (if_spelled role_line (is_role r.range (names_of_roles r.roles)) line (role_guess line))
free_step r at_labels line = label_step r line
free_step r (in_body owner) line = body_step r owner line
free_step r at_kernels line = with_kernel r line (if_spelled kernel_line (is_kernel_row (names_of_kernels r.kernels)) line (kernel_guess line))
free_step r at_statements line = None

abbrev pub step_at : Read → List (List ℕ) → Phase → List ℕ → Option State
step_at r [] phase line = free_step r phase line
step_at r (text ∷ texts) phase line = cond (same_line text line) (Some (state r texts phase)) None

-- the state behind the line, where it may stand there
abbrev pub step : State → List ℕ → Option State
step s line = step_at s.read s.awaited s.phase line

abbrev pub is_statements : Phase → Bool
is_statements at_protocol = false
is_statements at_range = false
is_statements at_roles = false
is_statements at_labels = false
is_statements (in_body owner) = false
is_statements at_kernels = false
is_statements at_statements = true

abbrev pub done_at : List (List ℕ) → Phase → Bool
done_at [] phase = is_statements phase
done_at (text ∷ texts) phase = false

-- the statements come next
abbrev pub is_done : State → Bool
is_done s = done_at s.awaited s.phase
