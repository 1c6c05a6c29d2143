-- What the lines behind a state spell, where the rest of the program is this.
use Rattle.std.specs.Prelude.{ℕ, Bool, true, ◌&&◌, List, [], ◌∷◌, ◌++◌, map, if◌then◌else◌}
use Rattle.pb_affine.specs.declared.range.NRange.{NRange}
use Rattle.pb_syntax.specs.declared.core_label.CoreLabel.{CoreLabel}
use Rattle.pb_syntax.specs.declared.core_label.CoreKernel.{CoreKernel}
use Rattle.pb_local.specs.declared.tables.Role.{Role}
use Rattle.pb_local.specs.Names.{is_name}
use Rattle.pb_ctree.specs.Bodies.{lines_of}
use Rattle.pb_ctree.specs.Frame.{role_lines, label_lines, buffer_lines, body_lines, kernel_lines, words_lines, first_body, other_bodies}
use Rattle.pb_ctree.specs.Functions.{has_words}
use Rattle.pb_ctree.specs.Lines.{Line}
use Rattle.pb_ctree.specs.Rules.{is_range, has_size}
use Rattle.pb_cread_frame.specs.Reading.{Owner, of_prelude, of_make, of_take, of_kernel, Phase, at_protocol, at_range, at_roles, at_labels, in_body, at_kernels, at_statements, Read, State, text_at, end_text, brace_text, take_opening, number_texts, main_texts, prelude_text}
use Rattle.pb_cread_rows.specs.Spelled.{names_of_roles, names_of_labels, names_of_kernels, tables, protocol_text, range_line}

-- a line with its line feed, and whether it keeps its rule
pub record Shown : Type 0 where
  pub text : List ℕ
  pub kept : Bool

abbrev pub shown : List ℕ → Bool → Shown
shown text kept = record { text = text; kept = kept }

abbrev pub sure : List ℕ → Shown
sure text = shown text true

abbrev pub show : Line → Shown
show l = shown (text_at l) l.kept

-- what isn't read yet of a program and its bodies
pub record Rest : Type 0 where
  pub protocol : List ℕ
  pub range : NRange
  pub roles : List Role
  pub labels : List CoreLabel
  pub kernels : List CoreKernel
  -- of the body that is open
  pub text : List ℕ
  pub prelude : List ℕ
  pub bodies : List (List ℕ)

-- what the later lines need of the tables
pub record Known : Type 0 where
  pub range : NRange
  pub roles : List Role
  pub labels : List CoreLabel
  pub kernels : List CoreKernel

abbrev pub known : Read → Known
known r = record { range = r.range; roles = r.roles; labels = r.labels; kernels = r.kernels }

abbrev pub kernels_from : Known → List (List ℕ) → List CoreKernel → List (List ℕ) → List Shown
kernels_from k names kernels bodies = map show (kernel_lines names kernels bodies) ++ map sure (main_texts k.range k.roles)

abbrev pub words_from : Known → List CoreLabel → List CoreKernel → List (List ℕ) → List Shown
words_from k [] kernels bodies = kernels_from k (names_of_kernels k.kernels) kernels bodies
words_from k (l ∷ ls) kernels bodies =
    if has_words l.payload then map show (words_lines l bodies) ++ words_from k ls kernels (other_bodies (other_bodies bodies)) else words_from k ls kernels bodies

abbrev pub body_from : List ℕ → List Shown → List Shown
body_from text behind = map show (body_lines text) ++ (sure end_text ∷ behind)

abbrev pub ended_from : Known → Owner → List CoreKernel → List (List ℕ) → List Shown
ended_from k of_prelude kernels bodies = map sure (number_texts k.roles) ++ words_from k k.labels kernels bodies
ended_from k (of_make l ls) kernels bodies =
    sure brace_text ∷ (map sure (take_opening l) ++ body_from (first_body bodies) (sure brace_text ∷ words_from k ls kernels (other_bodies bodies)))
ended_from k (of_take ls) kernels bodies = sure brace_text ∷ words_from k ls kernels bodies
ended_from k of_kernel kernels bodies = sure brace_text ∷ kernels_from k (names_of_kernels k.kernels) kernels bodies

abbrev pub prelude_from : Known → Rest → List Shown
prelude_from k q = sure prelude_text ∷ body_from q.prelude (ended_from k of_prelude q.kernels q.bodies)

-- labels from here on, with the names of those before and all in the end
abbrev pub labels_from : Known → List (List ℕ) → List CoreLabel → List CoreLabel → Rest → List Shown
labels_from k names all labels q = map show (label_lines names labels) ++ (map show buffer_lines ++ prelude_from (record k { labels = all }) q)

-- a further rule that the first of these lines keeps
abbrev pub ruled : Bool → List Shown → List Shown
ruled rule [] = []
ruled rule (l ∷ ls) = shown l.text (l.kept && rule) ∷ ls

abbrev pub roles_from : Known → List (List ℕ) → List Role → List Role → Rest → List Shown
roles_from k names all roles q =
    map show (role_lines k.range names roles)
    ++ ruled (has_size (tables k.range all)) (labels_from (record k { roles = all }) (names_of_labels k.labels) (k.labels ++ q.labels) q.labels q)

abbrev pub roles_ahead : Known → Rest → List Shown
roles_ahead k q = roles_from k (names_of_roles k.roles) (k.roles ++ q.roles) q.roles q

abbrev pub range_ahead : Known → Rest → List Shown
range_ahead k q = shown (range_line q.range) (is_range q.range) ∷ roles_ahead (record k { range = q.range }) q

abbrev pub ahead_at : Phase → Known → Rest → List Shown
ahead_at at_protocol k q = shown (protocol_text q.protocol) (is_name q.protocol) ∷ range_ahead k q
ahead_at at_range k q = range_ahead k q
ahead_at at_roles k q = roles_ahead k q
ahead_at at_labels k q = labels_from k (names_of_labels k.labels) (k.labels ++ q.labels) q.labels q
ahead_at (in_body owner) k q = body_from q.text (ended_from k owner q.kernels q.bodies)
ahead_at at_kernels k q = kernels_from k (names_of_kernels k.kernels) q.kernels q.bodies
ahead_at at_statements k q = []

-- the lines from here on up to the statements
abbrev pub ahead : State → Rest → List Shown
ahead s q = map sure s.awaited ++ ahead_at s.phase (known s.read) q

-- ---- the program and its bodies, as far as they stand before the statements

pub record Whole : Type 0 where
  pub protocol : List ℕ
  pub range : NRange
  pub roles : List Role
  pub labels : List CoreLabel
  pub kernels : List CoreKernel
  pub prelude : List ℕ
  pub bodies : List (List ℕ)

abbrev pub lines_text : List (List ℕ) → List ℕ
lines_text [] = []
lines_text (l ∷ ls) = (l ++ 10 ∷ []) ++ lines_text ls

-- the bytes of a body as they are spelled, with a line feed at the end
abbrev pub spelled_body : List ℕ → List ℕ
spelled_body body = lines_text (lines_of body)

abbrev pub kernel_bodies : List CoreKernel → List (List ℕ) → List (List ℕ)
kernel_bodies [] bodies = []
kernel_bodies (k ∷ ks) bodies = spelled_body (first_body bodies) ∷ kernel_bodies ks (other_bodies bodies)

-- a body for each function
abbrev pub words_bodies : List CoreLabel → List CoreKernel → List (List ℕ) → List (List ℕ)
words_bodies [] kernels bodies = kernel_bodies kernels bodies
words_bodies (l ∷ ls) kernels bodies =
    if has_words l.payload
    then spelled_body (first_body bodies) ∷ spelled_body (first_body (other_bodies bodies)) ∷ words_bodies ls kernels (other_bodies (other_bodies bodies))
    else words_bodies ls kernels bodies

-- the prelude, and the bodies from here on, where a body with this whole text is open
abbrev pub prelude_in : Owner → List ℕ → List ℕ → List ℕ
prelude_in of_prelude prelude text = text
prelude_in (of_make l ls) prelude text = prelude
prelude_in (of_take ls) prelude text = prelude
prelude_in of_kernel prelude text = prelude

abbrev pub bodies_in : Owner → List CoreLabel → List ℕ → List CoreKernel → List (List ℕ) → List (List ℕ)
bodies_in of_prelude labels text kernels bodies = words_bodies labels kernels bodies
bodies_in (of_make l ls) labels text kernels bodies = text ∷ spelled_body (first_body bodies) ∷ words_bodies ls kernels (other_bodies bodies)
bodies_in (of_take ls) labels text kernels bodies = text ∷ words_bodies ls kernels bodies
bodies_in of_kernel labels text kernels bodies = text ∷ kernel_bodies kernels bodies

abbrev pub in_tables : Read → Rest → List ℕ → NRange → List Role → List CoreLabel → Whole
in_tables r q protocol range roles labels = record {
  protocol = protocol;
  range = range;
  roles = roles;
  labels = labels;
  kernels = r.kernels ++ q.kernels;
  prelude = r.text ++ spelled_body q.prelude;
  bodies = r.bodies ++ words_bodies labels q.kernels q.bodies;
}

abbrev pub in_functions : Read → List CoreKernel → List ℕ → List (List ℕ) → Whole
in_functions r kernels prelude bodies = record { protocol = r.protocol; range = r.range; roles = r.roles; labels = r.labels; kernels = r.kernels ++ kernels; prelude = prelude; bodies = r.bodies ++ bodies }

abbrev pub in_open_body : Read → Owner → List CoreKernel → List (List ℕ) → List ℕ → Whole
in_open_body r owner kernels bodies text = in_functions r kernels (prelude_in owner r.prelude text) (bodies_in owner r.labels text kernels bodies)

-- the first body goes on with what was read of it
abbrev pub goes_on_with : List ℕ → List (List ℕ) → List (List ℕ)
goes_on_with text [] = []
goes_on_with text (b ∷ bs) = (text ++ b) ∷ bs

abbrev pub whole_at : Read → Phase → Rest → Whole
whole_at r at_protocol q = in_tables r q q.protocol q.range (r.roles ++ q.roles) (r.labels ++ q.labels)
whole_at r at_range q = in_tables r q r.protocol q.range (r.roles ++ q.roles) (r.labels ++ q.labels)
whole_at r at_roles q = in_tables r q r.protocol r.range (r.roles ++ q.roles) (r.labels ++ q.labels)
whole_at r at_labels q = in_tables r q r.protocol r.range r.roles (r.labels ++ q.labels)
whole_at r (in_body owner) q = in_open_body r owner q.kernels q.bodies (r.text ++ spelled_body q.text)
whole_at r at_kernels q = in_functions r q.kernels r.prelude (goes_on_with r.text (kernel_bodies q.kernels q.bodies))
whole_at r at_statements q = in_functions r [] r.prelude []

abbrev pub whole : State → Rest → Whole
whole s q = whole_at s.read s.phase q
