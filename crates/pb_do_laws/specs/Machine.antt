-- The run of a file with calls, at one N and under a table of answers. It is the sequential run on a stack that calls grow:
-- a call puts the body of its subprotocol on the stack, with each parameter standing for a role.
--
-- In the file
--     const N = 2..max;
--     protocol Ask(role A, role B) {
--       Q() from A to B[0];
--     }
--     global protocol P(role M, role W[0..N-1]) {
--       do Ask(M, W);
--       do Ask(M, W);
--     }
-- the first step puts a frame on the stack in which A stands for M and B for W, the second reads its statement, and the
-- third sends Q. The fourth leaves the frame, and four more do the second call.
--
-- r says what names stand for, and n is N.
use Rattle.std.specs.Prelude.{ℕ, zero, suc, ℤ, pos, Bool, true, false, if◌then◌else◌, Option, Some, None, List, [], ◌∷◌, ◌++◌}
use Rattle.pb_text.specs.declared.place.Spot.{Spot}
use Rattle.pb_syntax.specs.declared.core_label.CoreKernel.{CoreKernel}
use Rattle.pb_syntax.specs.declared.core_label.CoreLabel.{CoreLabel}
use Rattle.pb_syntax.specs.declared.tree.End.{End}
use Rattle.pb_syntax.specs.Tree as tree
use Rattle.pb_syntax.specs.Tree.{PlainStatement}
use Rattle.pb_world.specs.Actions.{Action, Choose, Run, Send, Recv, Enter, Leave, of_rank, AnswerTable}
use Rattle.pb_world.specs.Family.{each}
use Rattle.pb_world.specs.Sequencer.{answers_after_all, first_or, state_after, emitted}
use Rattle.pb_core_language.specs.declared.protocol.CoreRole.{CoreRole}
use Rattle.pb_core_language.specs.Names.{same}
use Rattle.pb_core_language.specs.FileRules.{role_names}
use Rattle.pb_core_language.specs.Meaning.{Table, position_of, label_names, kernel_names, roles_of}
use Rattle.pb_core_language.specs.Ranks.{total}
use Rattle.pb_core_language.specs.Run.{Setting, is_allowed, words_now, entered_now}
use Rattle.pb_core_language.specs.Collectives.{setting, combine, payload_of, word_count}
use Rattle.pb_do_syntax.specs.Calls.{Call, plain, foreach, loop, choice, call, Calls, nothing, more, CallBranches, no_branch, branch, PlainSub, PlainCallFile}
use Rattle.pb_do_syntax.specs.Names.{Name, names, sub_named}
use Rattle.pb_do_syntax.specs.Inlining.{Roles, passed_on}
use Rattle.pb_do_laws.specs.Deeds.{Deed, sends, runs, joins, rank_at, deeds, foreach_deeds}
use Rattle.pb_do_laws.specs.Ends.{count, first_ending, call_can_end}

-- what a run knows besides its state: the subprotocols, the numbers of names, the roles, N, and what collectives do
pub record Ground : Type 0 where
  pub subs : List PlainSub
  pub table : Table
  pub roles : List CoreRole
  pub n : ℤ
  pub setting : Setting

-- in what statements stand: in a loop's braces, or in others
pub data Opener : Type 0 where
  Once : Opener
  Body : (name : Name) (body : Calls) → Opener

-- what is still to do there, where names stand for these roles: first the deeds of the statement that was begun
pub record Frame : Type 0 where
  pub opener : Opener
  pub roles : Roles
  pub doing : List Deed
  pub rest : Calls

abbrev pub frame : Opener → Roles → List Deed → Calls → Frame
frame opener r doing rest = record { opener = opener; roles = r; doing = doing; rest = rest }

-- The innermost open loop of this name begins anew, and what is left inside it is dropped. A continue of a subprotocol
-- has its loop in the same body, or it is a fault of the file.
abbrev pub back_over : Opener → Roles → Name → List Frame → List Frame → List Frame
back_over Once r x frames go_on = go_on
back_over (Body y body) r x frames go_on = if same x y then frame (Body y body) r [] body ∷ frames else go_on

abbrev pub back : Name → List Frame → List Frame
back x [] = []
back x (f ∷ frames) = back_over f.opener f.roles x frames (back x frames)

abbrev pub branch_at : ℕ → CallBranches → Calls
branch_at k no_branch = nothing
branch_at zero (branch at first rest) = first
branch_at (suc k) (branch at first rest) = branch_at k rest

-- what the parameters of a subprotocol stand for in a call
abbrev pub called_roles : PlainSub → Roles → List Spot → Roles
called_roles sub r args = record { params = names sub.params; names = passed_on r args }

-- the body of the subprotocol that is called, above what is done after it
abbrev pub enter : Option PlainSub → Roles → List Spot → List Frame → List Frame
enter None r args frames = frames
enter (Some sub) r args frames = frame Once (called_roles sub r args) [] sub.body.list ∷ frames

abbrev pub is_over_at : List Frame → Bool
is_over_at [] = true
is_over_at (f ∷ frames) = false

-- what is still to do, the innermost frame first, and the answers that are left
pub record State : Type 0 where
  pub stack : List Frame
  pub left : AnswerTable

module _ (g : Ground) where
  -- ---- what one step does

  abbrev pub emit_deed : Deed → AnswerTable → List (ℕ × Action)
  emit_deed (sends from to label) left =
      (from, Send to label (words_now g.setting left from to label)) ∷ (to, Recv from label (words_now g.setting left from to label)) ∷ []
  emit_deed (runs at kernel) left = (at, Run kernel) ∷ []
  emit_deed (joins joint) left =
      each g.setting.total (λ r. Enter joint (entered_now g.setting left joint r))
      ++ each g.setting.total (λ r. Leave joint (g.setting.outcome joint r (entered_now g.setting left joint)))

  abbrev pub chooser : Roles → End → ℕ
  chooser r who = rank_at g.table g.roles g.n r (pos 0) who

  abbrev pub kernel_of : Spot → ℕ
  kernel_of k = position_of k.name g.table.kernels

  -- the branch that is taken: the answer, or else the first one that can end
  abbrev pub branch_now : AnswerTable → ℕ → ℕ → CallBranches → ℕ
  branch_now left at kernel branches =
      first_or (left at).branches (λ taken. is_allowed g.setting at (Choose kernel (count branches) taken)) (first_ending (call_can_end g.subs) branches)

  abbrev pub emit_first : Roles → Call → AnswerTable → List (ℕ × Action)
  emit_first r (choice place k who branches) left =
      (chooser r who, Choose (kernel_of k) (count branches) (branch_now left (chooser r who) (kernel_of k) branches)) ∷ []
  emit_first r (plain s) left = []
  emit_first r (foreach place x over at items) left = []
  emit_first r (loop place x at body) left = []
  emit_first r (call place f args) left = []

  abbrev pub emit_rest : Roles → Calls → AnswerTable → List (ℕ × Action)
  emit_rest r nothing left = []
  emit_rest r (more first rest) left = emit_first r first left

  abbrev pub emit_frame : Roles → List Deed → Calls → AnswerTable → List (ℕ × Action)
  emit_frame r [] rest left = emit_rest r rest left
  emit_frame r (deed ∷ doing) rest left = emit_deed deed left

  abbrev pub emit_of : List Frame → AnswerTable → List (ℕ × Action)
  emit_of [] left = []
  emit_of (f ∷ frames) left = emit_frame f.roles f.doing f.rest left

  -- ---- where it goes

  -- a statement without braces is begun, and a continue goes back to its loop
  abbrev pub move_plain : Opener → Roles → PlainStatement → Calls → List Frame → List Frame
  move_plain o r (tree.again at x) rest frames = back x.name (frame o r [] rest ∷ frames)
  move_plain o r other rest frames = frame o r (deeds g.table g.roles g.n r (pos 0) other) rest ∷ frames

  abbrev pub move_first : Opener → Roles → Call → Calls → List Frame → AnswerTable → List Frame
  move_first o r (plain s) rest frames left = move_plain o r s rest frames
  move_first o r (foreach place x over at items) rest frames left = frame o r (foreach_deeds g.table g.roles g.n r over items) rest ∷ frames
  move_first o r (loop place x at body) rest frames left = frame (Body x.name body) r [] body ∷ frame o r [] rest ∷ frames
  move_first o r (choice place k who branches) rest frames left =
      frame Once r [] (branch_at (branch_now left (chooser r who) (kernel_of k) branches) branches) ∷ frame o r [] rest ∷ frames
  move_first o r (call place f args) rest frames left = enter (sub_named g.subs f.name) r args (frame o r [] rest ∷ frames)

  -- at the end of its braces a frame is left
  abbrev pub move_rest : Opener → Roles → Calls → List Frame → AnswerTable → List Frame
  move_rest o r nothing frames left = frames
  move_rest o r (more first rest) frames left = move_first o r first rest frames left

  abbrev pub move_frame : Opener → Roles → List Deed → Calls → List Frame → AnswerTable → List Frame
  move_frame o r [] rest frames left = move_rest o r rest frames left
  move_frame o r (deed ∷ doing) rest frames left = frame o r doing rest ∷ frames

  abbrev pub move_of : List Frame → AnswerTable → List Frame
  move_of [] left = []
  move_of (f ∷ frames) left = move_frame f.opener f.roles f.doing f.rest frames left

  abbrev pub emit : State → List (ℕ × Action)
  emit state = emit_of state.stack state.left

  abbrev pub next : State → State
  next state = record { stack = move_of state.stack state.left; left = λ r. answers_after_all (of_rank r (emit state)) (state.left r) }

-- ---- a file

-- The labels with their payloads, and the kernels, each where its number is: by these numbers actions speak of them.
pub record Numbering : Type 0 where
  pub labels : List CoreLabel
  pub kernels : List CoreKernel

abbrev pub table_at : PlainCallFile → Numbering → Table
table_at f names = record { constant = f.constant.name; roles = role_names f.roles; labels = label_names names.labels; kernels = kernel_names names.kernels }

abbrev pub setting_at : List CoreRole → List CoreLabel → ℤ → Setting
setting_at roles labels n =
    setting (total roles n) (λ label. word_count (payload_of labels label)) (λ operation label x y. combine (payload_of labels label) operation x y)

abbrev pub ground_of : PlainCallFile → Numbering → ℤ → Ground
ground_of f names n = record {
  subs = f.subs;
  table = table_at f names;
  roles = roles_of f.constant.name f.roles;
  n = n;
  setting = setting_at (roles_of f.constant.name f.roles) names.labels n;
}

abbrev pub first_stack : PlainCallFile → List Frame
first_stack f = frame Once (record { params = []; names = [] }) [] f.body.list ∷ []

abbrev pub first_state : PlainCallFile → AnswerTable → State
first_state f answers = record { stack = first_stack f; left = answers }

-- the actions of the first so many steps of a file with calls, and whether no statement is left then
abbrev pub calls : PlainCallFile → Numbering → ℤ → AnswerTable → ℕ → List (ℕ × Action)
calls f names n answers steps = emitted (emit (ground_of f names n)) (next (ground_of f names n)) steps (first_state f answers)

abbrev pub is_over : PlainCallFile → Numbering → ℤ → AnswerTable → ℕ → Bool
is_over f names n answers steps = is_over_at (state_after (emit (ground_of f names n)) (next (ground_of f names n)) steps (first_state f answers)).stack
