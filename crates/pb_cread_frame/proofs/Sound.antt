-- Each step is a line of some program's text, which keeps its rule.
use Rattle.std.proofs.Common.{◌≡◌, ℕ, Bool, true, false, cond, List, [], ◌∷◌, ◌++◌, map, Option, Some, None, refl, sym, ap, subst, ◌∙◌, append_assoc, append-nil}
use Rattle.std.specs.Prelude.{not, if◌then◌else◌, codes, drop}
use Rattle.std.proofs.lemmas.Option.{same_Some, none-some}
use Rattle.pb_affine.specs.declared.range.NRange.{NRange}
use Rattle.pb_syntax.specs.declared.core_label.CoreLabel.{CoreLabel}
use Rattle.pb_syntax.specs.declared.core_label.CoreKernel.{CoreKernel}
use Rattle.pb_local.specs.declared.tables.Role.{Role}
use Rattle.pb_local.specs.Names.{is_name}
use Rattle.pb_local.specs.Pieces as P
use Rattle.pb_ctree.specs.Bodies.{is_marker, lines_of}
use Rattle.pb_ctree.specs.Frame.{kernel_letter, first_body, other_bodies, words_lines}
use Rattle.pb_ctree.specs.Functions.{has_words}
use Rattle.pb_ctree.specs.Lines.{raw, line}
use Rattle.pb_ctree.specs.Rules.{is_range, is_role, has_size, is_label_row, is_kernel_row}
use Rattle.pb_cread_frame.specs.Ahead.{Shown, shown, sure, show, Rest, known, kernels_from, words_from, body_from, ended_from, labels_from, ruled, roles_from, range_ahead, roles_ahead, ahead_at, ahead, Whole, lines_text, spelled_body, kernel_bodies, words_bodies, in_tables, in_functions, in_open_body, goes_on_with, whole_at, whole}
use Rattle.pb_cread_rows.specs.Guesses.{protocol_guess, range_guess, role_guess, label_guess, kernel_guess, if_spelled}
use Rattle.pb_cread_frame.specs.Reading.{Owner, of_prelude, of_make, of_take, of_kernel, Phase, at_protocol, at_range, at_roles, at_labels, in_body, at_kernels, at_statements, Read, State, state, end_text, brace_text, number_texts, make_opening, kernel_opening, main_texts, to_words, with_body, ended, body_step, protocol_step, range_step, include_text, prelude_text, buffer_texts, main_text, buffers_step, label_step, with_label, with_role, main_step, with_kernel, free_step, same_line, step_at}
use Rattle.pb_cread_rows.specs.Spelled.{names_of_roles, names_of_labels, names_of_kernels, tables, protocol_text, range_line, role_line, label_line, kernel_line}
use Rattle.pb_cread_frame.specs.Rows.{is_line, bare}
use Rattle.pb_cread_frame.specs.Steps.{Comes, IsSound}
use Rattle.pb_cread_frame.proofs.Shapes.{map_push, map_both, push_more, line_is, line_lines, marker_line, goes_on_nothing}
use Rattle.pb_cread_frame.proofs.Turns.{same_is, cond_true, cond_some, spelled_is, shown_sure, words_shown}
use Rattle.pb_cread_frame.proofs.Follow.{pushed, kernel_shown}

abbrev From : Read → Phase → List ℕ → State → Rest → Type 0
From r phase text t q = Comes (ahead_at phase (known r)) (whole_at r phase) text t q

protocol_from : (r : Read) (text : List ℕ) (t : State) (q : Rest) (o : Option (List ℕ)) → if_spelled protocol_text is_name text (protocol_guess text) ≡ o → protocol_step r o ≡ Some t → From r at_protocol text t q
protocol_from r text t q None e f = absurd (none-some t f)
protocol_from r text t q (Some name) e f =
    let is = spelled_is protocol_text is_name text (protocol_guess text) name e in
    subst (λ t. From r at_protocol text t q) (same_Some (state (record r { protocol = name }) [] at_range) t f) (record {
      rest = record q { protocol = name };
      first = shown_sure (protocol_text name) text (is_name name) (range_ahead (known r) q) is.spells is.kept;
      same = refl;
    })

range_from : (r : Read) (text : List ℕ) (t : State) (q : Rest) (o : Option NRange) → if_spelled range_line is_range text (range_guess text) ≡ o → range_step r o ≡ Some t → From r at_range text t q
range_from r text t q None e f = absurd (none-some t f)
range_from r text t q (Some range) e f =
    let is = spelled_is range_line is_range text (range_guess text) range e in
    subst (λ t. From r at_range text t q) (same_Some (state (record r { range = range }) [] at_roles) t f) (record {
      rest = record q { range = range };
      first = shown_sure (range_line range) text (is_range range) (roles_ahead (record (known r) { range = range }) q) is.spells is.kept;
      same = refl;
    })

-- ---- labels

abbrev At : Read → List ℕ → State → Rest → Type 0
At r text t q = From r at_labels text t q

buffers_from : (r : Read) (text : List ℕ) (t : State) (q : Rest) → buffers_step r text ≡ Some t → At r text t q
buffers_from r text t q f =
    let next = state r (drop 1 buffer_texts ++ prelude_text ∷ []) (in_body of_prelude) in
    let is : include_text ≡ text = same_is include_text text (cond_true (same_line include_text text) (Some next) t f) in
    let go = same_Some next t (cond_some (same_line include_text text) (Some next) t f) in
    subst (λ t. At r text t q) go (record {
      rest = record q { labels = []; prelude = q.text };
      first = ap (λ all. labels_from (known r) (names_of_labels r.labels) all [] (record q { labels = []; prelude = q.text })) (append-nil r.labels) ∙ ap (λ x. sure x ∷ ahead next q) is;
      same = ap (λ all. in_tables r (record q { labels = []; prelude = q.text }) r.protocol r.range r.roles all) (append-nil r.labels);
    })

label_from : (r : Read) (text : List ℕ) (t : State) (q : Rest) (o : Option CoreLabel)
    → if_spelled label_line (is_label_row (names_of_labels r.labels)) text (label_guess text) ≡ o → with_label r text o ≡ Some t → At r text t q
label_from r text t q None e f = buffers_from r text t q f
label_from r text t q (Some l) e f =
    let is = spelled_is label_line (is_label_row (names_of_labels r.labels)) text (label_guess text) l e in
    subst (λ t. At r text t q) (same_Some (state (record r { labels = r.labels ++ l ∷ [] }) [] at_labels) t f) (record {
      rest = record q { labels = l ∷ q.labels };
      first = shown_sure (label_line l) text (is_label_row (names_of_labels r.labels) l) (labels_from (known r) (names_of_labels r.labels ++ l.name ∷ []) (r.labels ++ (l ∷ q.labels)) q.labels q) is.spells is.kept
          ∙ ap (λ names. sure text ∷ labels_from (known r) names (r.labels ++ (l ∷ q.labels)) q.labels q) (sym (map_push (λ (x : CoreLabel). x.name) r.labels l))
          ∙ ap (λ all. sure text ∷ labels_from (known r) (names_of_labels (r.labels ++ l ∷ [])) all q.labels q) (sym (push_more r.labels l q.labels));
      same = ap (λ all. in_tables r q r.protocol r.range r.roles all) (sym (push_more r.labels l q.labels));
    })

labels_from_step : (r : Read) (text : List ℕ) (t : State) (q : Rest) → label_step r text ≡ Some t → At r text t q
labels_from_step r text t q f = label_from r text t q _ refl f

-- ---- roles

role_from : (r : Read) (text : List ℕ) (t : State) (q : Rest) (o : Option Role)
    → if_spelled role_line (is_role r.range (names_of_roles r.roles)) text (role_guess text) ≡ o → with_role r text o ≡ Some t → From r at_roles text t q
role_from r text t q None e f =
    let size : has_size (tables r.range r.roles) ≡ true = cond_true (has_size (tables r.range r.roles)) (label_step r text) t f in
    let c = labels_from_step r text t q (cond_some (has_size (tables r.range r.roles)) (label_step r text) t f) in
    let rest : Rest = record c.rest { roles = [] } in
    record {
      rest = rest;
      first = ap (λ all. ruled (has_size (tables r.range all)) (labels_from (record (known r) { roles = all }) (names_of_labels r.labels) (r.labels ++ c.rest.labels) c.rest.labels rest)) (append-nil r.roles)
          ∙ ap (ruled (has_size (tables r.range r.roles))) c.first ∙ ap (λ b. shown text b ∷ ahead t q) size;
      same = ap (λ all. in_tables r rest r.protocol r.range all (r.labels ++ c.rest.labels)) (append-nil r.roles) ∙ c.same;
    }
role_from r text t q (Some role) e f =
    let is = spelled_is role_line (is_role r.range (names_of_roles r.roles)) text (role_guess text) role e in
    subst (λ t. From r at_roles text t q) (same_Some (state (record r { roles = r.roles ++ role ∷ [] }) [] at_roles) t f) (record {
      rest = record q { roles = role ∷ q.roles };
      first = shown_sure (role_line role) text (is_role r.range (names_of_roles r.roles) role) (roles_from (known r) (names_of_roles r.roles ++ role.name ∷ []) (r.roles ++ (role ∷ q.roles)) q.roles q) is.spells is.kept
          ∙ ap (λ names. sure text ∷ roles_from (known r) names (r.roles ++ (role ∷ q.roles)) q.roles q) (sym (map_push (λ (x : Role). x.name) r.roles role))
          ∙ ap (λ all. sure text ∷ roles_from (known r) (names_of_roles (r.roles ++ role ∷ [])) all q.roles q) (sym (push_more r.roles role q.roles));
      same = ap (λ all. in_tables r q r.protocol r.range all (r.labels ++ q.labels)) (sym (push_more r.roles role q.roles));
    })

-- ---- bodies and functions

-- what stands before a state, of some kernels and bodies
record Before (s : State) (q : Rest) (lines : List CoreKernel → List (List ℕ) → List Shown) (program : List CoreKernel → List (List ℕ) → Whole) : Type 0 where
  kernels : List CoreKernel
  bodies : List (List ℕ)
  ahead_is : lines kernels bodies ≡ ahead s q
  same : program kernels bodies ≡ whole s q

to_words_from : (r : Read) (before : List (List ℕ)) (ls : List CoreLabel) (q : Rest) → r.text ≡ []
    → Before (to_words r before ls) q (λ kernels bodies. map sure before ++ words_from (known r) ls kernels bodies) (λ kernels bodies. in_functions r kernels r.prelude (words_bodies ls kernels bodies))
to_words_from r before [] q e = record {
  kernels = q.kernels;
  bodies = q.bodies;
  ahead_is = refl;
  same = ap (λ bodies. in_functions r q.kernels r.prelude bodies) (sym (goes_on_nothing (kernel_bodies q.kernels q.bodies)))
      ∙ ap (λ t. in_functions r q.kernels r.prelude (goes_on_with t (kernel_bodies q.kernels q.bodies))) (sym e);
}
to_words_from r before (l ∷ ls) q e = by_test (has_words l.payload) (to_words_from r before ls q e) where
  by_test : (b : Bool)
      → Before (to_words r before ls) q (λ kernels bodies. map sure before ++ words_from (known r) ls kernels bodies) (λ kernels bodies. in_functions r kernels r.prelude (words_bodies ls kernels bodies))
      → Before (if b then state r (before ++ make_opening l) (in_body (of_make l ls)) else to_words r before ls) q
      (λ kernels bodies. map sure before
      ++ (if b then map show (words_lines l bodies) ++ words_from (known r) ls kernels (other_bodies (other_bodies bodies)) else words_from (known r) ls kernels bodies))
      (λ kernels bodies. in_functions r kernels r.prelude
      (if b then spelled_body (first_body bodies) ∷ spelled_body (first_body (other_bodies bodies)) ∷ words_bodies ls kernels (other_bodies (other_bodies bodies)) else words_bodies ls kernels bodies))
  by_test false a = a
  by_test true a =
      let bodies = q.text ∷ q.bodies in
      let behind = words_from (known r) ls q.kernels (other_bodies q.bodies) in
      let first = body_from q.text (ended_from (known r) (of_make l ls) q.kernels q.bodies) in
      record {
        kernels = q.kernels;
        bodies = bodies;
        ahead_is = ap (λ w. map sure before ++ w) (words_shown l bodies behind)
            ∙ sym (append_assoc (map sure before) (map sure (make_opening l)) first) ∙ ap (λ w. w ++ first) (sym (map_both sure before (make_opening l)));
        same = ap (λ t. in_functions r q.kernels r.prelude ((t ++ spelled_body q.text) ∷ spelled_body (first_body q.bodies) ∷ words_bodies ls q.kernels (other_bodies q.bodies))) (sym e);
      }

abbrev Ended : Read → Owner → Rest → Type 0
Ended r owner q = Before (ended r owner) q (ended_from (known r) owner) (λ kernels bodies. in_open_body r owner kernels bodies r.text)

ended_before : (r : Read) (owner : Owner) (q : Rest) → Ended r owner q
ended_before r of_prelude q = to_words_from (record r { prelude = r.text; text = [] }) (number_texts r.roles) r.labels q refl
ended_before r (of_make l ls) q = record {
  kernels = q.kernels;
  bodies = q.text ∷ q.bodies;
  ahead_is = refl;
  same = sym (pushed r q (spelled_body q.text ∷ words_bodies ls q.kernels q.bodies));
}
ended_before r (of_take ls) q =
    let a = to_words_from (with_body r) (brace_text ∷ []) ls q refl in
    record { kernels = a.kernels; bodies = a.bodies; ahead_is = a.ahead_is; same = sym (pushed r (record q { kernels = a.kernels }) (words_bodies ls a.kernels a.bodies)) ∙ a.same }
ended_before r of_kernel q = record {
  kernels = q.kernels;
  bodies = q.bodies;
  ahead_is = refl;
  same = sym (pushed r q (kernel_bodies q.kernels q.bodies)) ∙ ap (λ b. in_functions (with_body r) q.kernels r.prelude b) (sym (goes_on_nothing (kernel_bodies q.kernels q.bodies)));
}

body_end : (r : Read) (owner : Owner) (text : List ℕ) (t : State) (q : Rest) → cond (same_line end_text text) (Some (ended r owner)) None ≡ Some t → From r (in_body owner) text t q
body_end r owner text t q f =
    let is : end_text ≡ text = same_is end_text text (cond_true (same_line end_text text) (Some (ended r owner)) t f) in
    let go : ended r owner ≡ t = same_Some (ended r owner) t (cond_some (same_line end_text text) (Some (ended r owner)) t f) in
    let b = ended_before r owner q in
    subst (λ t. From r (in_body owner) text t q) go (record {
      rest = record q { text = []; kernels = b.kernels; bodies = b.bodies };
      first = ap (λ x. sure x ∷ ended_from (known r) owner b.kernels b.bodies) is ∙ ap (λ x. sure text ∷ x) b.ahead_is;
      same = ap (λ x. in_open_body r owner b.kernels b.bodies x) (append-nil r.text) ∙ b.same;
    })

body_row : (r : Read) (owner : Owner) (text : List ℕ) (t : State) (q : Rest) → is_line text ≡ true → is_marker text ≡ false
    → ◌≡◌ {A = Option State} (Some (state (record r { text = r.text ++ text }) [] (in_body owner))) (Some t) → From r (in_body owner) text t q
body_row r owner text t q one plain f =
    let go : state (record r { text = r.text ++ text }) [] (in_body owner) ≡ t = same_Some (state (record r { text = r.text ++ text }) [] (in_body owner)) t f in
    let lines : lines_of (text ++ q.text) ≡ bare text ∷ lines_of q.text = line_lines text q.text one in
    let is : bare text ++ 10 ∷ [] ≡ text = line_is text one in
    let kept : not (is_marker (bare text)) ≡ true = ap not (sym (marker_line (bare text)) ∙ ap is_marker is ∙ plain) in
    let behind = body_from q.text (ended_from (known r) owner q.kernels q.bodies) in
    subst (λ t. From r (in_body owner) text t q) go (record {
      rest = record q { text = text ++ q.text };
      first = ap (λ x. map show (map (λ l. line 0 (raw l) (not (is_marker l))) x) ++ (sure end_text ∷ ended_from (known r) owner q.kernels q.bodies)) lines
          ∙ shown_sure (bare text ++ 10 ∷ []) text (not (is_marker (bare text))) behind is kept;
      same = ap (λ x. in_open_body r owner q.kernels q.bodies (r.text ++ lines_text x)) lines
          ∙ ap (λ x. in_open_body r owner q.kernels q.bodies (r.text ++ (x ++ spelled_body q.text))) is
          ∙ ap (λ x. in_open_body r owner q.kernels q.bodies x) (sym (append_assoc r.text text (spelled_body q.text)));
    })

body_from_step : (r : Read) (owner : Owner) (text : List ℕ) (t : State) (q : Rest) → is_line text ≡ true → body_step r owner text ≡ Some t → From r (in_body owner) text t q
body_from_step r owner text t q one f = by_test (is_marker text) refl f where
  by_test : (b : Bool) → is_marker text ≡ b → cond b (cond (same_line end_text text) (Some (ended r owner)) None) (Some (state (record r { text = r.text ++ text }) [] (in_body owner))) ≡ Some t → From r (in_body owner) text t q
  by_test true e f = body_end r owner text t q f
  by_test false e f = body_row r owner text t q one e f

-- ---- kernels

main_from : (r : Read) (text : List ℕ) (t : State) (q : Rest) → main_step r text ≡ Some t → From r at_kernels text t q
main_from r text t q f =
    let end = state r (drop 1 (main_texts r.range r.roles)) at_statements in
    let is : main_text ≡ text = same_is main_text text (cond_true (same_line main_text text) (Some end) t f) in
    let go : end ≡ t = same_Some end t (cond_some (same_line main_text text) (Some end) t f) in
    subst (λ t. From r at_kernels text t q) go (record {
      rest = record q { kernels = [] };
      first = ap (λ x. sure x ∷ map sure (drop 1 (main_texts r.range r.roles))) is ∙ ap (λ x. sure text ∷ x) (sym (append-nil (map sure (drop 1 (main_texts r.range r.roles)))));
      same = refl;
    })

kernel_from : (r : Read) (text : List ℕ) (t : State) (q : Rest) (o : Option CoreKernel)
    → if_spelled kernel_line (is_kernel_row (names_of_kernels r.kernels)) text (kernel_guess text) ≡ o → with_kernel r text o ≡ Some t → From r at_kernels text t q
kernel_from r text t q None e f = main_from r text t q f
kernel_from r text t q (Some k) e f =
    let is = spelled_is kernel_line (is_kernel_row (names_of_kernels r.kernels)) text (kernel_guess text) k e in
    let next = state (record r { kernels = r.kernels ++ k ∷ [] }) (drop 1 (kernel_opening k)) (in_body of_kernel) in
    let behind : List (List ℕ) → List Shown = λ names. sure (P.line 0 (codes "{")) ∷ sure (P.line 0 (P.joined (codes "/*@ kernel " ∷ (kernel_letter k.kind ++ k.name) ∷ codes " */" ∷ [])))
    ∷ body_from q.text (sure brace_text ∷ kernels_from (known r) names q.kernels q.bodies) in
    subst (λ t. From r at_kernels text t q) (same_Some next t f) (record {
      rest = record q { kernels = k ∷ q.kernels; bodies = q.text ∷ q.bodies };
      first = kernel_shown (known r) (names_of_kernels r.kernels) k q.kernels (q.text ∷ q.bodies)
          ∙ shown_sure (kernel_line k) text (is_kernel_row (names_of_kernels r.kernels) k) (behind (names_of_kernels r.kernels ++ k.name ∷ [])) is.spells is.kept
          ∙ ap (λ names. sure text ∷ behind names) (sym (map_push (λ (x : CoreKernel). x.name) r.kernels k));
      same = ap whole_of (sym (push_more r.kernels k q.kernels));
    })
  where
    whole_of : List CoreKernel → Whole
    whole_of all = record { protocol = r.protocol; range = r.range; roles = r.roles; labels = r.labels; kernels = all; prelude = r.prelude; bodies = r.bodies ++ ((r.text ++ spelled_body q.text) ∷ kernel_bodies q.kernels q.bodies) }

free_from : (r : Read) (phase : Phase) (text : List ℕ) (t : State) (q : Rest) → is_line text ≡ true → free_step r phase text ≡ Some t → From r phase text t q
free_from r at_protocol text t q one f = protocol_from r text t q _ refl f
free_from r at_range text t q one f = range_from r text t q _ refl f
free_from r at_roles text t q one f = role_from r text t q _ refl f
free_from r at_labels text t q one f = labels_from_step r text t q f
free_from r (in_body owner) text t q one f = body_from_step r owner text t q one f
free_from r at_kernels text t q one f = kernel_from r text t q _ refl f
free_from r at_statements text t q one f = absurd (none-some t f)

from_at : (r : Read) (awaited : List (List ℕ)) (phase : Phase) (text : List ℕ) (t : State) (q : Rest) → is_line text ≡ true → step_at r awaited phase text ≡ Some t
    → Comes (λ q. map sure awaited ++ ahead_at phase (known r) q) (whole_at r phase) text t q
from_at r [] phase text t q one f = free_from r phase text t q one f
from_at r (a ∷ others) phase text t q one f =
    let is : a ≡ text = same_is a text (cond_true (same_line a text) (Some (state r others phase)) t f) in
    let go : state r others phase ≡ t = same_Some (state r others phase) t (cond_some (same_line a text) (Some (state r others phase)) t f) in
    subst (λ t. Comes (λ q. map sure (a ∷ others) ++ ahead_at phase (known r) q) (whole_at r phase) text t q) go (record {
      rest = q;
      first = ap (λ x. sure x ∷ (map sure others ++ ahead_at phase (known r) q)) is;
      same = refl;
    })

pub is_sound : IsSound
is_sound s t text q one f = from_at s.read s.awaited s.phase text t q one f
