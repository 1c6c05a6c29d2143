-- What is seen of a rank of the program, and its steps, which are those of the definition.
use Rattle.std.specs.Prelude.{◌≡◌, ◌≤◌, ℕ, suc, ℤ, Bool, true, false, nat_lt, ◌&&◌, if◌then◌else◌, Option, Some, None, List, length, take}
use Rattle.pb_world.specs.Actions.{Action, kind_of, branch_in}
use Rattle.pb_world.specs.Machine as W
use Rattle.pb_world.specs.Counted.{Counted}
use Rattle.pb_local.specs.Ranks.{total}
use Rattle.pb_local.specs.Tree.{Codes, plain_all, Program, program_of}
use Rattle.pb_local.specs.Machine as M
use Rattle.pb_local.specs.Family.{most_silent, text_machine}
use Rattle.pb_ctree.specs.declared.tree.CTree.{CTree}
use Rattle.pb_machine_next.specs.declared.step.Step.{Step}
use Rattle.pb_machine.specs.declared.act.Act.{Act}
use Rattle.pb_machine.specs.declared.act.Act.TheVariants as A
use Rattle.pb_machine.specs.declared.act.Next.{Next}
use Rattle.pb_machine.specs.declared.act.Next.TheVariants as N
use Rattle.pb_machine.specs.declared.act.Input.{Input}
use Rattle.pb_machine.specs.declared.act.Input.TheVariants.{Plain, Tag, Answer}
use Rattle.pb_machine.specs.declared.phase.Phase.{Phase}
use Rattle.pb_machine.specs.declared.phase.Phase.TheVariants.{Going, Joined, Misled}
use Rattle.pb_machine.specs.declared.rank.Rank.{Rank}
use Rattle.pb_machine_next.specs.Heights.{height_all}
use Rattle.pb_machine_next.specs.Place.{todo}
use Rattle.pb_machine_next.specs.Calls.{collective_of}
use Rattle.pb_machine.specs.Acts.{act_of}
use Rattle.pb_machine_next.specs.View.{rank_of, move_by}
use Rattle.pb_machine_next.specs.Safe.{IsSafe}

-- ---- what is seen of a rank

-- a state of the definition's machine, or a rank that a tag made undefined
pub data Shown : Type 0 where
  going : (state : Counted M.Rank) → Shown
  misled : Shown

abbrev pub body_of : CTree → Codes
body_of tree = plain_all tree.local.body.items

abbrev pub path_of : Rank → List Step
path_of r = take r.depth r.path.items

-- in a collective the exit comes first
abbrev pub joined : Phase → M.Todo → M.Todo
joined Going rest = rest
joined (Joined call) rest = M.leave (collective_of call) rest
joined Misled rest = rest

abbrev pub state_of : CTree → Rank → Counted M.Rank
state_of tree r = record {
  state = rank_of r.state.me r.state.i (joined r.phase (todo (body_of tree) (path_of r) r.at));
  count = r.silent;
}

abbrev pub shown_in : Phase → Counted M.Rank → Shown
shown_in Going state = going state
shown_in (Joined call) state = going state
shown_in Misled state = misled

-- the rank as it is seen in this tree
abbrev pub shown : CTree → Rank → Shown
shown tree r = shown_in r.phase (state_of tree r)

-- the number N of the rank
abbrev pub param_of : Rank → ℤ
param_of r = r.state.me.n

-- the rank's memory and numbers are those of the tree
pub record IsPlaced (tree : CTree) (r : Rank) : Type 0 where
  pub total : r.state.me.total ≡ total tree.local.roles.items r.state.me.n
  pub room : height_all (body_of tree) ≤ length r.path.items
  pub inside : r.depth ≤ length r.path.items
  pub limit : r.limit ≡ most_silent (program_of tree.local)

-- ---- what comes next

abbrev pub next_of : W.Next → Next
next_of W.Silent = N.Silent
next_of (W.Does kind) = N.Acts (act_of kind)
next_of (W.Probe source) = N.Waits source
next_of W.Ended = N.Ended
next_of W.Lost = N.Lost
next_of W.Undefined = N.Undefined

abbrev pub next_shown : Program → ℤ → Shown → Next
next_shown p n (going x) = next_of ((text_machine p n).next x)
next_shown p n misled = N.Undefined

abbrev pub is_there : {A : Type 0} → Option A → Bool
is_there None = false
is_there (Some x) = true

abbrev pub is_waiting : W.Next → Bool
is_waiting (W.Probe source) = true
is_waiting W.Silent = false
is_waiting (W.Does kind) = false
is_waiting W.Ended = false
is_waiting W.Lost = false
is_waiting W.Undefined = false

-- it waits for a message, and there is a test for this label
abbrev pub takes_shown : Program → ℤ → Shown → ℕ → Bool
takes_shown p n (going x) label = is_waiting ((text_machine p n).next x) && is_there ((text_machine p n).read x label)
takes_shown p n misled label = false

-- ---- steps

abbrev pub is_plain : Input → Bool
is_plain Plain = true
is_plain (Tag label) = false
is_plain (Answer branch) = false

abbrev pub is_tag : Input → Bool
is_tag (Tag label) = true
is_tag Plain = false
is_tag (Answer branch) = false

abbrev pub is_answer : ℕ → Input → Bool
is_answer branches (Answer branch) = nat_lt branch branches
is_answer branches Plain = false
is_answer branches (Tag label) = false

abbrev pub goes_with_act : Act → Input → Bool
goes_with_act (A.Choose kernel branches) input = is_answer branches input
goes_with_act (A.Run kernel) input = is_plain input
goes_with_act (A.Send to label) input = is_plain input
goes_with_act (A.Recv from label) input = is_plain input
goes_with_act (A.Enter what root op) input = is_plain input
goes_with_act A.Leave input = is_plain input

-- the step that comes next takes this input
abbrev pub goes_with : Next → Input → Bool
goes_with N.Silent input = is_plain input
goes_with (N.Acts act) input = goes_with_act act input
goes_with (N.Waits source) input = is_tag input
goes_with N.Ended input = false
goes_with N.Lost input = false
goes_with N.Undefined input = false

abbrev pub answer_in : Input → Option ℕ
answer_in (Answer branch) = Some branch
answer_in Plain = None
answer_in (Tag label) = None

abbrev pub read_or : Option (Counted M.Rank) → Shown
read_or (Some x) = going x
read_or None = misled

-- The step of the definition's machine with this input: a silent step, an action whose branch is the answer and whose
-- words are any, or the reading of the label; no test for that label makes the rank undefined
pub record IsStep (p : Program) (n : ℤ) (x : Counted M.Rank) (input : Input) (y : Shown) : Type 0 where
  pub quiet : (text_machine p n).next x ≡ W.Silent → y ≡ going ((text_machine p n).quiet x)
  pub act : (a : Action) → (text_machine p n).next x ≡ W.Does (kind_of a) → branch_in a ≡ answer_in input → y ≡ going ((text_machine p n).act x a)
  pub read : (source label : ℕ) → (text_machine p n).next x ≡ W.Probe source → input ≡ Tag label → y ≡ read_or ((text_machine p n).read x label)

abbrev pub IsStepOf : Program → ℤ → Shown → Input → Shown → Type 0
IsStepOf p n (going x) input y = IsStep p n x input y
IsStepOf p n misled input y = y ≡ misled

-- ---- the same by moves

abbrev pub unless_lost : ℕ → ℕ → Next → Next
unless_lost limit count next = if nat_lt count limit then next else N.Lost

abbrev pub next_by : ℕ → ℕ → M.Move → Next
next_by limit count M.ends = N.Ended
next_by limit count M.undefined = N.Undefined
next_by limit count (M.silent after) = unless_lost limit count N.Silent
next_by limit count (M.does kind after) = N.Acts (act_of kind)
next_by limit count (M.chooses kernel branches after) = N.Acts (A.Choose kernel branches)
next_by limit count (M.probes source after) = unless_lost limit count (N.Waits source)

abbrev pub takes_by : ℕ → ℕ → M.Move → ℕ → Bool
takes_by limit count M.ends label = false
takes_by limit count M.undefined label = false
takes_by limit count (M.silent after) label = false
takes_by limit count (M.does kind after) label = false
takes_by limit count (M.chooses kernel branches after) label = false
takes_by limit count (M.probes source after) label = nat_lt count limit && is_there (after label)

abbrev pub counted_as : ℕ → M.Rank → Shown
counted_as count x = going (record { state = x; count = count })

abbrev pub read_as : ℕ → Option M.Rank → Shown
read_as count None = misled
read_as count (Some x) = counted_as count x

abbrev pub if_so : Bool → Shown → Option Shown
if_so held x = if held then Some x else None

-- what is seen behind a step with this input; None where the input doesn't go with it
abbrev pub answered : ℕ → (ℕ → M.Rank) → Input → Option Shown
answered branches after (Answer branch) = if_so (nat_lt branch branches) (counted_as 0 (after branch))
answered branches after Plain = None
answered branches after (Tag label) = None

abbrev pub labelled : ℕ → ℕ → (ℕ → Option M.Rank) → Input → Option Shown
labelled limit count after (Tag label) = if_so (nat_lt count limit) (read_as (suc count) (after label))
labelled limit count after Plain = None
labelled limit count after (Answer branch) = None

abbrev pub after : ℕ → ℕ → Input → M.Move → Option Shown
after limit count input M.ends = None
after limit count input M.undefined = None
after limit count input (M.silent x) = if_so (is_plain input && nat_lt count limit) (counted_as (suc count) x)
after limit count input (M.does kind x) = if_so (goes_with_act (act_of kind) input) (counted_as 0 x)
after limit count input (M.chooses kernel branches f) = answered branches f input
after limit count input (M.probes source f) = labelled limit count f input

-- the move of the rank that is seen
abbrev pub move_shown : Program → ℤ → Shown → M.Move
move_shown p n (going x) = M.move p n x.state
move_shown p n misled = M.undefined

-- ---- what a rank keeps

-- the rank is placed in the tree, and what it keeps is its next step, for which there is room
pub record Fits (tree : CTree) (r : Rank) : Type 0 where
  pub placed : IsPlaced tree r
  pub moves : move_by (body_of tree) (path_of r) r.state.me r.state.i r.state.ahead ≡ move_shown (program_of tree.local) (param_of r) (shown tree r)
  pub safe : IsSafe r.depth (height_all (body_of tree)) r.state.ahead
