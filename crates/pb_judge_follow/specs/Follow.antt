-- Following the sequential run beside a log: what each rank has left of its entries, and what the run does under the
-- answers that are left in them.
--
-- At N = 2, with the body `A() from W[0] to W[1];` and the log `0 send 1 A`, rank 0 has one entry left at first. The send
-- fits it, and then no rank has an entry left. The receive finds none, so the log owes it.
--
-- r is a rank, K a stack of what is still to do, and g a list of recorded actions.
use Rattle.std.specs.Prelude.{◌≡◌, ◌≢◌, ℕ, zero, suc, ◌+◌, ◌<◌, ◌==◌, cond, Bool, true, false, ◌||◌, List, [], ◌∷◌, ◌++◌, filter_map}
use Rattle.pb_text.specs.declared.action.Action.{Action}
use Rattle.pb_world.specs.Actions.{AnswerTable}
use Rattle.pb_world.specs.Log.{log_of, rank_of, branch_recorded, words_recorded}
use Rattle.pb_world.specs.Sequencer.{behind_first}
use Rattle.pb_core_language.specs.Flat.{Block}
use Rattle.pb_core_language.specs.Run.{Setting, Frame, Top, emit_of, move_of, is_over_at}
use Rattle.pb_judge_ruling.specs.Ruling.{actions_of, entries_of}

-- what each rank has left of its entries, how many were used, and whether some rank had none for an action of the run
pub record Left : Type 0 where
  pub entries : ℕ → List (ℕ × Action)
  pub used : ℕ
  pub owes : Bool

abbrev pub all_of : List (ℕ × Action) → Left
all_of log = record { entries = λ r. entries_of r log; used = 0; owes = false }

abbrev pub is_none : List (ℕ × Action) → Bool
is_none [] = true
is_none (entry ∷ entries) = false

-- an action of the run is the first that its rank has left, or the rank has none left
abbrev pub Fits : List (ℕ × Action) → Action → Type 0
Fits [] action = Unit {0}
Fits (entry ∷ entries) action = entry.1 ≡ action

-- what is left behind an action of this rank
abbrev pub passed_by : ℕ → Left → Left
passed_by rank left = record {
  entries = λ r. cond (rank == r) (behind_first (left.entries r)) (left.entries r);
  used = left.used + cond (is_none (left.entries rank)) 0 1;
  owes = left.owes || is_none (left.entries rank);
}

abbrev pub passed : Action → Left → Left
passed action left = passed_by (rank_of action) left

abbrev pub AllFit : List Action → Left → Type 0
AllFit [] left = Unit {0}
AllFit (action ∷ g) left = Fits (left.entries (rank_of action)) action × AllFit g (passed action left)

abbrev pub all_passed : List Action → Left → Left
all_passed [] left = left
all_passed (action ∷ g) left = all_passed g (passed action left)

-- Of these actions, one isn't the first of its rank's entries that are left, and those before it fit. `line` is the line of
-- that one
pub record Misfits (g : List Action) (left : Left) (r line : ℕ) : Type 0 where
  pub before : List Action
  pub action : Action
  pub after : List Action
  pub other : Action
  pub others : List (ℕ × Action)
  pub is : g ≡ before ++ action ∷ after
  pub fits : AllFit before left
  pub by : rank_of action ≡ r
  pub first : (all_passed before left).entries r ≡ (line, other) ∷ others
  pub apart : action ≢ other

-- the answers that are left
abbrev pub answers_left : Left → AnswerTable
answers_left left r = record { branches = filter_map branch_recorded (actions_of (left.entries r)); words = filter_map words_recorded (actions_of (left.entries r)) }

abbrev pub first_stack : Block → List Frame
first_stack protocol = record { opener = Top; rest = protocol } ∷ []

module _ (s : Setting) where
  -- what is recorded of one step of the run, and what is still to do behind it
  abbrev pub doing : List Frame → Left → List Action
  doing K left = log_of (emit_of s K (answers_left left))

  abbrev pub moved : List Frame → Left → List Frame
  moved K left = move_of s K (answers_left left)

  -- so many steps of the run, whose actions fit
  pub data Goes : ℕ → List Frame → Left → List Frame → Left → Type 0 where
    here : {K : List Frame} {left : Left} → Goes zero K left K left
    step : {n : ℕ} {K L : List Frame} {left end : Left} → AllFit (doing K left) left → Goes n (moved K left) (all_passed (doing K left) left) L end → Goes (suc n) K left L end

  -- from here the run comes to an action that isn't the first of its rank's entries that are left
  pub record Breaks (K : List Frame) (left : Left) (r line : ℕ) : Type 0 where
    pub steps : ℕ
    pub stack : List Frame
    pub there : Left
    pub goes : Goes steps K left stack there
    pub misfits : Misfits (doing stack there) there r line

  -- From here the run comes to a round in which no entry is used, and which begins anew at its end
  pub record Circles (K : List Frame) (left end : Left) : Type 0 where
    pub steps : ℕ
    pub stack : List Frame
    pub there : Left
    pub goes : Goes steps K left stack there
    pub goes_on : is_over_at stack ≡ false
    pub round : ℕ
    pub again : Goes (suc round) stack there stack end
    pub same : (r : ℕ) → end.entries r ≡ there.entries r

-- the rank is the least that has entries left, and its first is on this line
pub record IsLeastLeft (left : Left) (r line : ℕ) : Type 0 where
  pub entry : Action
  pub entries : List (ℕ × Action)
  pub is : left.entries r ≡ (line, entry) ∷ entries
  pub least : (q : ℕ) → q < r → left.entries q ≡ []

abbrev pub IsUsedUp : Left → Type 0
IsUsedUp left = (r : ℕ) → left.entries r ≡ []
