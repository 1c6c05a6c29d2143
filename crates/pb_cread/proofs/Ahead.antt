-- Whether a line is ahead before the statements.
use Rattle.std.proofs.Common.{◌≡◌, ℕ, Bool, true, false, List, [], ◌∷◌, ◌++◌, map, Some, refl}
use Rattle.std.specs.Prelude.{not}
use Rattle.std.proofs.lemmas.Option.{none-some}
use Rattle.pb_syntax.specs.declared.core_label.CoreLabel.{CoreLabel}
use Rattle.pb_syntax.specs.declared.core_label.CoreKernel.{CoreKernel}
use Rattle.pb_local.specs.declared.tables.Role.{Role}
use Rattle.pb_ctree.specs.Bodies.{is_marker, lines_of}
use Rattle.pb_ctree.specs.Lines.{line, raw}
use Rattle.pb_ctree.specs.Rules.{has_size}
use Rattle.pb_cread_frame.specs.Ahead.{Shown, sure, show, Rest, Known, known, kernels_from, labels_from, roles_from, ruled, ahead_at, ahead, whole_at, whole, in_functions}
use Rattle.pb_cread_frame.specs.Reading.{Phase, at_protocol, at_range, at_roles, at_labels, in_body, at_kernels, at_statements, Read, State, end_text, step_at, is_statements, done_at, is_done}
use Rattle.pb_cread_rows.specs.Spelled.{names_of_roles, names_of_labels, names_of_kernels, tables}

abbrev pub HasLine : List Shown → Type 0
HasLine [] = ⊥
HasLine (l ∷ ls) = Unit {0}

labels_some : (k : Known) (names : List (List ℕ)) (all ls : List CoreLabel) (q : Rest) → HasLine (labels_from k names all ls q)
labels_some k names all [] q = tt
labels_some k names all (l ∷ ls) q = tt

ruled_some : (rule : Bool) (xs : List Shown) → HasLine xs → HasLine (ruled rule xs)
ruled_some rule [] h = h
ruled_some rule (x ∷ xs) h = tt

roles_some : (k : Known) (names : List (List ℕ)) (all rs : List Role) (q : Rest) → HasLine (roles_from k names all rs q)
roles_some k names all [] q = ruled_some (has_size (tables k.range all)) (labels_from (record k { roles = all }) (names_of_labels k.labels) (k.labels ++ q.labels) q.labels q) (labels_some (record k { roles = all }) (names_of_labels k.labels) (k.labels ++ q.labels) q.labels q)
roles_some k names all (r ∷ rs) q = tt

body_some : (lines : List (List ℕ)) (behind : List Shown) → HasLine (map show (map (λ l. line 0 (raw l) (not (is_marker l))) lines) ++ (sure end_text ∷ behind))
body_some [] behind = tt
body_some (l ∷ ls) behind = tt

kernels_some : (k : Known) (names : List (List ℕ)) (ks : List CoreKernel) (bodies : List (List ℕ)) → HasLine (kernels_from k names ks bodies)
kernels_some k names [] bodies = tt
kernels_some k names (x ∷ xs) bodies = tt

phase_some : (phase : Phase) (k : Known) (q : Rest) → is_statements phase ≡ false → HasLine (ahead_at phase k q)
phase_some at_protocol k q e = tt
phase_some at_range k q e = tt
phase_some at_roles k q e = roles_some k (names_of_roles k.roles) (k.roles ++ q.roles) q.roles q
phase_some at_labels k q e = labels_some k (names_of_labels k.labels) (k.labels ++ q.labels) q.labels q
phase_some (in_body owner) k q e = body_some (lines_of q.text) _
phase_some at_kernels k q e = kernels_some k (names_of_kernels k.kernels) q.kernels q.bodies
phase_some at_statements k q e = absurd cc

some_at : (awaited : List (List ℕ)) (phase : Phase) (k : Known) (q : Rest) → done_at awaited phase ≡ false → HasLine (map sure awaited ++ ahead_at phase k q)
some_at [] phase k q e = phase_some phase k q e
some_at (text ∷ texts) phase k q e = tt

pub some_ahead : (s : State) (q : Rest) → is_done s ≡ false → HasLine (ahead s q)
some_ahead s q e = some_at s.awaited s.phase (known s.read) q e

none_at : (awaited : List (List ℕ)) (phase : Phase) (k : Known) (q : Rest) → done_at awaited phase ≡ true → map sure awaited ++ ahead_at phase k q ≡ []
none_at [] at_protocol k q e = absurd cc
none_at [] at_range k q e = absurd cc
none_at [] at_roles k q e = absurd cc
none_at [] at_labels k q e = absurd cc
none_at [] (in_body owner) k q e = absurd cc
none_at [] at_kernels k q e = absurd cc
none_at [] at_statements k q e = refl
none_at (text ∷ texts) phase k q e = absurd cc

pub none_ahead : (s : State) (q : Rest) → is_done s ≡ true → ahead s q ≡ []
none_ahead s q e = none_at s.awaited s.phase (known s.read) q e

whole_done_at : (r : Read) (awaited : List (List ℕ)) (phase : Phase) (q : Rest) → done_at awaited phase ≡ true → whole_at r phase q ≡ in_functions r [] r.prelude []
whole_done_at r [] at_protocol q e = absurd cc
whole_done_at r [] at_range q e = absurd cc
whole_done_at r [] at_roles q e = absurd cc
whole_done_at r [] at_labels q e = absurd cc
whole_done_at r [] (in_body owner) q e = absurd cc
whole_done_at r [] at_kernels q e = absurd cc
whole_done_at r [] at_statements q e = refl
whole_done_at r (text ∷ texts) phase q e = absurd cc

pub whole_done : (s : State) (q : Rest) → is_done s ≡ true → whole s q ≡ in_functions s.read [] s.read.prelude []
whole_done s q e = whole_done_at s.read s.awaited s.phase q e

not_done_at : (r : Read) (awaited : List (List ℕ)) (phase : Phase) (text : List ℕ) (t : State) → step_at r awaited phase text ≡ Some t → done_at awaited phase ≡ false
not_done_at r [] at_protocol text t e = refl
not_done_at r [] at_range text t e = refl
not_done_at r [] at_roles text t e = refl
not_done_at r [] at_labels text t e = refl
not_done_at r [] (in_body owner) text t e = refl
not_done_at r [] at_kernels text t e = refl
not_done_at r [] at_statements text t e = absurd (none-some t e)
not_done_at r (a ∷ more) phase text t e = refl

-- nothing goes on where the statements come next
pub not_done : (s : State) (text : List ℕ) (t : State) → step_at s.read s.awaited s.phase text ≡ Some t → is_done s ≡ false
not_done s text t e = not_done_at s.read s.awaited s.phase text t e
