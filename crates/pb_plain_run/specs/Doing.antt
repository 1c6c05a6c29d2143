-- What is still to do, as the program holds it, and when a number leaves its type.
use Rattle.std.specs.Prelude.{◌≡◌, ℕ, ◌^◌, ◌<◌, ◌≤◌, List, [], ◌∷◌, ◌++◌, map, reverse}
use Rattle.pb_world.specs.Actions.{Action, AnswerTable}
use Rattle.pb_world.specs.Sequencer.{state_after}
use Rattle.pb_core_language.specs.Flat.{Block, stop, message, compute, together, choice, looped, again, count}
use Rattle.pb_core_language.specs.Run as R
use Rattle.pb_core_language.specs.Run.{emit, next, first_state}
use Rattle.pb_plain.specs.View.{view, view_branches}
use Rattle.pb_plain_run.specs.View.{remaining}
use Rattle.pb_plain_run.specs.declared.doing.Opener.{Opener}
use Rattle.pb_plain_run.specs.declared.doing.Opener.TheVariants as O
use Rattle.pb_plain_run.specs.declared.doing.Frame.{Frame}
use Rattle.pb_plain_run.specs.declared.doing.Doing.{Doing}

abbrev pub opener_of : Opener → R.Opener
opener_of O.Top = R.Top
opener_of (O.Chosen at branches) = R.Chosen at (view_branches branches.now)
opener_of (O.Body body) = R.Body (view body.now)

abbrev pub frame_of : Frame → R.Frame
frame_of f = record { opener = opener_of f.opener; rest = view f.rest.now }

-- the innermost frame stands last in the program's list
abbrev pub stack_of : List Frame → List R.Frame
stack_of frames = reverse (map frame_of frames)

abbrev pub state_of : Doing → R.State
state_of d = record { stack = stack_of d.stack.items; left = remaining d.left }

-- one step from a state, whose actions are added to a list
pub record Steps (w : R.Setting) (before after : R.State) (old new : List (ℕ × Action)) : Type 0 where
  pub state : after ≡ next w before
  pub actions : new ≡ old ++ emit w before

-- ---- numbers that leave their type

-- next comes a choice of so many branches that 64 bits can't count them
abbrev pub IsTooWide : Block → Type 0
IsTooWide (choice a p k bs g) = 2 ^ 64 ≤ count bs
IsTooWide stop = ⊥
IsTooWide (message a p q l g) = ⊥
IsTooWide (compute a p k g) = ⊥
IsTooWide (together a j g) = ⊥
IsTooWide (looped a b g) = ⊥
IsTooWide (again n) = ⊥

abbrev pub IsAtTooWide : List R.Frame → Type 0
IsAtTooWide [] = ⊥
IsAtTooWide (f ∷ K) = IsTooWide f.rest

-- before so many steps, the run comes to such a choice
abbrev pub MeetsTooWide : R.Setting → Block → AnswerTable → ℕ → Type 0
MeetsTooWide w protocol A m = (k : ℕ) × (k < m) × IsAtTooWide (state_after (emit w) (next w) k (first_state w protocol A)).stack
