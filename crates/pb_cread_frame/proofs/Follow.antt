-- Each program's lines are gone along, as long as they keep their rules.
use Rattle.std.proofs.Common.{◌≡◌, ℕ, Bool, true, false, List, [], ◌∷◌, ◌++◌, map, None, refl, sym, ap, subst, ◌∙◌, append_assoc, append-nil}
use Rattle.std.specs.Prelude.{not, if◌then◌else◌, codes, drop}
use Rattle.pb_syntax.specs.declared.core_label.CoreLabel.{CoreLabel}
use Rattle.pb_syntax.specs.declared.core_label.CoreKernel.{CoreKernel}
use Rattle.pb_local.specs.declared.tables.Role.{Role}
use Rattle.pb_local.specs.Names.{is_name}
use Rattle.pb_local.specs.Pieces as P
use Rattle.pb_ctree.specs.Bodies.{is_marker, lines_of}
use Rattle.pb_ctree.specs.Frame.{kernel_head, kernel_letter, kernel_lines, function_lines, first_body, other_bodies, words_lines}
use Rattle.pb_ctree.specs.Functions.{has_words}
use Rattle.pb_ctree.specs.Lines.{raw, line}
use Rattle.pb_ctree.specs.Rules.{is_range, is_role, has_size, is_label_row, is_kernel_row}
use Rattle.pb_cread_frame.specs.Ahead.{Shown, shown, sure, show, Rest, Known, known, kernels_from, words_from, body_from, ended_from, labels_from, ruled, roles_from, ahead_at, Whole, lines_text, spelled_body, kernel_bodies, words_bodies, in_tables, in_functions, in_open_body, goes_on_with, whole_at}
use Rattle.pb_cread_rows.specs.Guesses.{protocol_guess, range_guess, role_guess, label_guess, kernel_guess, if_spelled}
use Rattle.pb_cread_frame.specs.Reading.{Owner, of_prelude, of_make, of_take, of_kernel, Phase, at_protocol, at_range, at_roles, at_labels, in_body, at_kernels, at_statements, Read, state, end_text, brace_text, number_texts, make_opening, kernel_opening, main_texts, to_words, with_body, ended, body_step, protocol_step, range_step, include_text, label_step, with_label, with_role, with_kernel, free_step, step_at}
use Rattle.pb_cread_rows.specs.Spelled.{names_of_roles, names_of_labels, names_of_kernels, tables, protocol_text, range_line, role_line, label_line, kernel_line}
use Rattle.pb_cread_frame.specs.Steps.{Arrives, Follows, GoesAlong, FollowsAll}
use Rattle.pb_cread_rows.proofs.Again.{and_left, and_right, not_false}
use Rattle.pb_cread_rows.proofs.Guessed.{protocol_again, range_again, role_again, label_again, kernel_again}
use Rattle.pb_cread_frame.proofs.Shapes.{map_push, map_both, push_more, function_shown, later, behind_line, lines_behind, marker_line, goes_on_nothing}
use Rattle.pb_cread_frame.proofs.Turns.{same_refl, cond_goes, spelled_so, words_shown}

follow_protocol : (r : Read) (q : Rest) → GoesAlong (free_step r at_protocol) (whole_at r at_protocol q) (ahead_at at_protocol (known r) q)
follow_protocol r q = λ kept. record {
  next = state (record r { protocol = q.protocol }) [] at_range;
  goes = ap (protocol_step r) (spelled_so protocol_text is_name q.protocol (protocol_guess (protocol_text q.protocol)) (protocol_again q.protocol kept) kept);
  arrives = record { rest = q; lines = refl; same = refl };
}

follow_range : (r : Read) (q : Rest) → GoesAlong (free_step r at_range) (whole_at r at_range q) (ahead_at at_range (known r) q)
follow_range r q = λ kept. record {
  next = state (record r { range = q.range }) [] at_roles;
  goes = ap (range_step r) (spelled_so range_line is_range q.range (range_guess (range_line q.range)) (range_again q.range kept) kept);
  arrives = record { rest = q; lines = refl; same = refl };
}

-- ---- labels

label_row : (r : Read) (q : Rest) (l : CoreLabel) (ls : List CoreLabel) → is_label_row (names_of_labels r.labels) l ≡ true
    → Follows (label_step r) (in_tables r q r.protocol r.range r.roles (r.labels ++ (l ∷ ls))) (label_line l)
    (labels_from (known r) (names_of_labels r.labels ++ l.name ∷ []) (r.labels ++ (l ∷ ls)) ls q)
label_row r q l ls kept = record {
  next = state (record r { labels = r.labels ++ l ∷ [] }) [] at_labels;
  goes = ap (with_label r (label_line l)) (spelled_so label_line (is_label_row (names_of_labels r.labels)) l (label_guess (label_line l)) (label_again (names_of_labels r.labels) l kept) kept);
  arrives = record {
    rest = record q { labels = ls };
    lines = ap (λ names. labels_from (known r) names ((r.labels ++ l ∷ []) ++ ls) ls q) (map_push (λ (x : CoreLabel). x.name) r.labels l)
        ∙ ap (λ all. labels_from (known r) (names_of_labels r.labels ++ l.name ∷ []) all ls q) (push_more r.labels l ls);
    same = ap (λ all. in_tables r q r.protocol r.range r.roles all) (push_more r.labels l ls);
  };
}

abbrev later_shown : List Shown → List Shown
later_shown [] = []
later_shown (l ∷ ls) = ls

buffers : (r : Read) (q : Rest) → Follows (label_step r) (in_tables r q r.protocol r.range r.roles r.labels) include_text (later_shown (labels_from (known r) (names_of_labels r.labels) r.labels [] q))
buffers r q = record {
  next = state r _ (in_body of_prelude);
  goes = refl;
  arrives = record { rest = record q { text = q.prelude }; lines = refl; same = refl };
}

labels_along : (r : Read) (q : Rest) (ls : List CoreLabel)
    → GoesAlong (label_step r) (in_tables r q r.protocol r.range r.roles (r.labels ++ ls)) (labels_from (known r) (names_of_labels r.labels) (r.labels ++ ls) ls q)
labels_along r q (l ∷ ls) = λ kept. label_row r q l ls kept
labels_along r q [] =
    let P : List CoreLabel → Type 0 = λ all. GoesAlong (label_step r) (in_tables r q r.protocol r.range r.roles all) (labels_from (known r) (names_of_labels r.labels) all [] q) in
    subst P (sym (append-nil r.labels)) (λ kept. buffers r q)

-- ---- roles

role_row : (r : Read) (q : Rest) (role : Role) (roles : List Role) → is_role r.range (names_of_roles r.roles) role ≡ true
    → Follows (free_step r at_roles) (in_tables r q r.protocol r.range (r.roles ++ (role ∷ roles)) (r.labels ++ q.labels)) (role_line role)
    (roles_from (known r) (names_of_roles r.roles ++ role.name ∷ []) (r.roles ++ (role ∷ roles)) roles q)
role_row r q role roles kept = record {
  next = state (record r { roles = r.roles ++ role ∷ [] }) [] at_roles;
  goes = ap (with_role r (role_line role)) (spelled_so role_line (is_role r.range (names_of_roles r.roles)) role (role_guess (role_line role)) (role_again r.range (names_of_roles r.roles) role kept) kept);
  arrives = record {
    rest = record q { roles = roles };
    lines = ap (λ names. roles_from (known r) names ((r.roles ++ role ∷ []) ++ roles) roles q) (map_push (λ (x : Role). x.name) r.roles role)
        ∙ ap (λ all. roles_from (known r) (names_of_roles r.roles ++ role.name ∷ []) all roles q) (push_more r.roles role roles);
    same = ap (λ all. in_tables r q r.protocol r.range all (r.labels ++ q.labels)) (push_more r.roles role roles);
  };
}

-- a line that is no role's is a label's
not_role : (r : Read) (w : Whole) (text : List ℕ) (behind : List Shown) → role_guess text ≡ None → has_size (tables r.range r.roles) ≡ true
    → Follows (label_step r) w text behind → Follows (free_step r at_roles) w text behind
not_role r w text behind none size f = record {
  next = f.next;
  goes = ap (λ o. with_role r text (if_spelled role_line (is_role r.range (names_of_roles r.roles)) text o)) none ∙ cond_goes (has_size (tables r.range r.roles)) (label_step r text) f.next size f.goes;
  arrives = f.arrives;
}

no_role : (r : Read) (q : Rest) (ls : List CoreLabel)
    → GoesAlong (free_step r at_roles) (in_tables r q r.protocol r.range r.roles (r.labels ++ ls))
    (ruled (has_size (tables r.range r.roles)) (labels_from (known r) (names_of_labels r.labels) (r.labels ++ ls) ls q))
no_role r q (l ∷ ls) = λ kept.
    not_role r _ (label_line l) _ refl (and_right (is_label_row (names_of_labels r.labels) l) (has_size (tables r.range r.roles)) kept)
    (label_row r q l ls (and_left (is_label_row (names_of_labels r.labels) l) (has_size (tables r.range r.roles)) kept))
no_role r q [] =
    let P : List CoreLabel → Type 0 = λ all. GoesAlong (free_step r at_roles) (in_tables r q r.protocol r.range r.roles all)
    (ruled (has_size (tables r.range r.roles)) (labels_from (known r) (names_of_labels r.labels) all [] q)) in
    subst P (sym (append-nil r.labels)) (λ kept. not_role r _ include_text _ refl kept (buffers r q))

roles_along : (r : Read) (q : Rest) (roles : List Role)
    → GoesAlong (free_step r at_roles) (in_tables r q r.protocol r.range (r.roles ++ roles) (r.labels ++ q.labels)) (roles_from (known r) (names_of_roles r.roles) (r.roles ++ roles) roles q)
roles_along r q (role ∷ roles) = λ kept. role_row r q role roles kept
roles_along r q [] =
    let P : List Role → Type 0 = λ all. GoesAlong (free_step r at_roles) (in_tables r q r.protocol r.range all (r.labels ++ q.labels))
    (ruled (has_size (tables r.range all)) (labels_from (record (known r) { roles = all }) (names_of_labels r.labels) (r.labels ++ q.labels) q.labels q)) in
    subst P (sym (append-nil r.roles)) (no_role r q q.labels)

-- ---- bodies and functions

to_words_along : (r : Read) (before : List (List ℕ)) (ls : List CoreLabel) (q : Rest) → r.text ≡ []
    → Arrives (to_words r before ls) (in_functions r q.kernels r.prelude (words_bodies ls q.kernels q.bodies)) (map sure before ++ words_from (known r) ls q.kernels q.bodies)
to_words_along r before [] q e = record {
  rest = q;
  lines = refl;
  same = ap (λ t. in_functions r q.kernels r.prelude (goes_on_with t (kernel_bodies q.kernels q.bodies))) e
      ∙ ap (λ bodies. in_functions r q.kernels r.prelude bodies) (goes_on_nothing (kernel_bodies q.kernels q.bodies));
}
to_words_along r before (l ∷ ls) q e = by_test (has_words l.payload) (to_words_along r before ls q e) where
  by_test : (b : Bool)
      → Arrives (to_words r before ls) (in_functions r q.kernels r.prelude (words_bodies ls q.kernels q.bodies)) (map sure before ++ words_from (known r) ls q.kernels q.bodies)
      → Arrives (if b then state r (before ++ make_opening l) (in_body (of_make l ls)) else to_words r before ls)
      (in_functions r q.kernels r.prelude
      (if b then spelled_body (first_body q.bodies) ∷ spelled_body (first_body (other_bodies q.bodies)) ∷ words_bodies ls q.kernels (other_bodies (other_bodies q.bodies)) else words_bodies ls q.kernels q.bodies))
      (map sure before
      ++ (if b then map show (words_lines l q.bodies) ++ words_from (known r) ls q.kernels (other_bodies (other_bodies q.bodies)) else words_from (known r) ls q.kernels q.bodies))
  by_test false a = a
  by_test true a =
      let behind = words_from (known r) ls q.kernels (other_bodies (other_bodies q.bodies)) in
      let first = body_from (first_body q.bodies) (ended_from (known r) (of_make l ls) q.kernels (other_bodies q.bodies)) in
      record {
        rest = record q { text = first_body q.bodies; bodies = other_bodies q.bodies };
        lines = ap (λ w. w ++ first) (map_both sure before (make_opening l)) ∙ append_assoc (map sure before) (map sure (make_opening l)) first
            ∙ ap (λ w. map sure before ++ w) (sym (words_shown l q.bodies behind));
        same = ap (λ t. in_functions r q.kernels r.prelude ((t ++ spelled_body (first_body q.bodies)) ∷ spelled_body (first_body (other_bodies q.bodies)) ∷ words_bodies ls q.kernels (other_bodies (other_bodies q.bodies)))) e;
      }

-- a body that was read is one of those before
pub pushed : (r : Read) (q : Rest) (others : List (List ℕ)) → in_functions (with_body r) q.kernels r.prelude others ≡ in_functions r q.kernels r.prelude (r.text ∷ others)
pushed r q others = ap (λ (b : List (List ℕ)). whole_of b) (push_more r.bodies r.text others) where
  whole_of : List (List ℕ) → Whole
  whole_of b = record { protocol = r.protocol; range = r.range; roles = r.roles; labels = r.labels; kernels = r.kernels ++ q.kernels; prelude = r.prelude; bodies = b }

ended_along : (r : Read) (owner : Owner) (q : Rest) → Arrives (ended r owner) (in_open_body r owner q.kernels q.bodies r.text) (ended_from (known r) owner q.kernels q.bodies)
ended_along r of_prelude q = to_words_along (record r { prelude = r.text; text = [] }) (number_texts r.roles) r.labels q refl
ended_along r (of_make l ls) q = record {
  rest = record q { text = first_body q.bodies; bodies = other_bodies q.bodies };
  lines = refl;
  same = pushed r q (spelled_body (first_body q.bodies) ∷ words_bodies ls q.kernels (other_bodies q.bodies));
}
ended_along r (of_take ls) q =
    let a = to_words_along (with_body r) (brace_text ∷ []) ls q refl in
    record { rest = a.rest; lines = a.lines; same = a.same ∙ pushed r q (words_bodies ls q.kernels q.bodies) }
ended_along r of_kernel q = record {
  rest = q;
  lines = refl;
  same = ap (λ b. in_functions (with_body r) q.kernels r.prelude b) (goes_on_nothing (kernel_bodies q.kernels q.bodies)) ∙ pushed r q (kernel_bodies q.kernels q.bodies);
}

body_along : (r : Read) (owner : Owner) (q : Rest) (ls : List (List ℕ)) → lines_of q.text ≡ ls
    → GoesAlong (body_step r owner) (in_open_body r owner q.kernels q.bodies (r.text ++ lines_text ls))
    (map show (map (λ l. line 0 (raw l) (not (is_marker l))) ls) ++ (sure end_text ∷ ended_from (known r) owner q.kernels q.bodies))
body_along r owner q [] e = λ kept.
    let a = ended_along r owner q in
    record {
      next = ended r owner;
      goes = refl;
      arrives = record { rest = a.rest; lines = a.lines; same = a.same ∙ ap (λ t. in_open_body r owner q.kernels q.bodies t) (sym (append-nil r.text)) };
    }
body_along r owner q (l ∷ ls) e = λ kept.
    let plain : is_marker (l ++ 10 ∷ []) ≡ false = marker_line l ∙ not_false (is_marker l) kept in
    let behind : lines_of (behind_line q.text) ≡ ls = lines_behind q.text ∙ ap later e in
    record {
      next = state (record r { text = r.text ++ (l ++ 10 ∷ []) }) [] (in_body owner);
      goes = rw plain refl;
      arrives = record {
        rest = record q { text = behind_line q.text };
        lines = ap (λ x. map show (map (λ l. line 0 (raw l) (not (is_marker l))) x) ++ (sure end_text ∷ ended_from (known r) owner q.kernels q.bodies)) behind;
        same = ap (λ x. in_open_body r owner q.kernels q.bodies ((r.text ++ (l ++ 10 ∷ [])) ++ lines_text x)) behind
            ∙ ap (λ t. in_open_body r owner q.kernels q.bodies t) (append_assoc r.text (l ++ 10 ∷ []) (lines_text ls));
      };
    }

-- ---- kernels

kernel_row : (r : Read) (q : Rest) (k : CoreKernel) (ks : List CoreKernel) → is_kernel_row (names_of_kernels r.kernels) k ≡ true
    → Follows (free_step r at_kernels) (in_functions r (k ∷ ks) r.prelude (goes_on_with r.text (kernel_bodies (k ∷ ks) q.bodies))) (kernel_line k)
    (sure (P.line 0 (codes "{")) ∷ sure (P.line 0 (P.joined (codes "/*@ kernel " ∷ (kernel_letter k.kind ++ k.name) ∷ codes " */" ∷ [])))
    ∷ body_from (first_body q.bodies) (sure brace_text ∷ kernels_from (known r) (names_of_kernels r.kernels ++ k.name ∷ []) ks (other_bodies q.bodies)))
kernel_row r q k ks kept = record {
  next = state (record r { kernels = r.kernels ++ k ∷ [] }) (drop 1 (kernel_opening k)) (in_body of_kernel);
  goes = ap (with_kernel r (kernel_line k)) (spelled_so kernel_line (is_kernel_row (names_of_kernels r.kernels)) k (kernel_guess (kernel_line k)) (kernel_again (names_of_kernels r.kernels) k kept) kept);
  arrives = record {
    rest = record q { kernels = ks; text = first_body q.bodies; bodies = other_bodies q.bodies };
    lines = ap (λ names. sure (P.line 0 (codes "{")) ∷ sure (P.line 0 (P.joined (codes "/*@ kernel " ∷ (kernel_letter k.kind ++ k.name) ∷ codes " */" ∷ [])))
        ∷ body_from (first_body q.bodies) (sure brace_text ∷ kernels_from (known r) names ks (other_bodies q.bodies))) (map_push (λ (x : CoreKernel). x.name) r.kernels k);
    same = ap whole_of (push_more r.kernels k ks);
  };
} where
  whole_of : List CoreKernel → Whole
  whole_of all = record { protocol = r.protocol; range = r.range; roles = r.roles; labels = r.labels; kernels = all; prelude = r.prelude; bodies = r.bodies ++ ((r.text ++ spelled_body (first_body q.bodies)) ∷ kernel_bodies ks (other_bodies q.bodies)) }

pub kernel_shown : (range_known : Known) (names : List (List ℕ)) (k : CoreKernel) (ks : List CoreKernel) (bodies : List (List ℕ))
    → kernels_from range_known names (k ∷ ks) bodies
    ≡ shown (kernel_line k) (is_kernel_row names k) ∷ sure (P.line 0 (codes "{")) ∷ sure (P.line 0 (P.joined (codes "/*@ kernel " ∷ (kernel_letter k.kind ++ k.name) ∷ codes " */" ∷ [])))
    ∷ body_from (first_body bodies) (sure brace_text ∷ kernels_from range_known (names ++ k.name ∷ []) ks (other_bodies bodies))
kernel_shown range_known names k ks bodies =
    let one = function_lines (kernel_head k) (is_kernel_row names k) (kernel_letter k.kind ++ k.name) (first_body bodies) in
    let others = kernel_lines (names ++ k.name ∷ []) ks (other_bodies bodies) in
    let end = map sure (main_texts range_known.range range_known.roles) in
    ap (λ w. w ++ end) (map_both show one others) ∙ append_assoc (map show one) (map show others) end
    ∙ function_shown (kernel_head k) (is_kernel_row names k) (kernel_letter k.kind ++ k.name) (first_body bodies) (map show others ++ end)

kernels_along : (r : Read) (q : Rest) (ks : List CoreKernel)
    → GoesAlong (free_step r at_kernels) (in_functions r ks r.prelude (goes_on_with r.text (kernel_bodies ks q.bodies))) (kernels_from (known r) (names_of_kernels r.kernels) ks q.bodies)
kernels_along r q (k ∷ ks) =
    let w = in_functions r (k ∷ ks) r.prelude (goes_on_with r.text (kernel_bodies (k ∷ ks) q.bodies)) in
    subst (GoesAlong (free_step r at_kernels) w) (sym (kernel_shown (known r) (names_of_kernels r.kernels) k ks q.bodies)) (λ kept. kernel_row r q k ks kept)
kernels_along r q [] = λ kept. record {
  next = state r (drop 1 (main_texts r.range r.roles)) at_statements;
  goes = refl;
  arrives = record { rest = q; lines = append-nil (map sure (drop 1 (main_texts r.range r.roles))); same = refl };
}

free_along : (r : Read) (phase : Phase) (q : Rest) → GoesAlong (free_step r phase) (whole_at r phase q) (ahead_at phase (known r) q)
free_along r at_protocol q = follow_protocol r q
free_along r at_range q = follow_range r q
free_along r at_roles q = roles_along r q q.roles
free_along r at_labels q = labels_along r q q.labels
free_along r (in_body owner) q = body_along r owner q (lines_of q.text) refl
free_along r at_kernels q = kernels_along r q q.kernels
free_along r at_statements q = tt

along_at : (r : Read) (awaited : List (List ℕ)) (phase : Phase) (q : Rest) → GoesAlong (step_at r awaited phase) (whole_at r phase q) (map sure awaited ++ ahead_at phase (known r) q)
along_at r [] phase q = free_along r phase q
along_at r (text ∷ texts) phase q = λ kept.
    let same : _ ≡ true = same_refl text in
    record { next = state r texts phase; goes = rw same refl; arrives = record { rest = q; lines = refl; same = refl } }

pub follows_all : FollowsAll
follows_all s q = along_at s.read s.awaited s.phase q
