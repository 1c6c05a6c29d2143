-- The ruling on a log: beside all that the sequential run does under the answers that the log itself shows.
--
-- At N = 2, with the body `A() from W[0] to W[1];`, the run is 0 sends, 1 receives, and then it is over. So
--     0 send 1 A, 1 recv 0 A        is whole
--     0 send 1 A                    is covered, and so is the empty log
--     0 send 1 A, 0 send 1 A        goes beyond: rank 0, line 2
--     1 send 0 A                    differs: rank 1, line 1
--
-- g and w are lists of recorded actions, r and q are ranks, and k is a place in a rank's list.
use Rattle.std.specs.Prelude.{◌≡◌, ◌≢◌, ℕ, ◌<◌, ◌≤◌, ◌==◌, cond, true, List, [], ◌∷◌, ◌++◌, length, map, Some, slice_get}
use Rattle.pb_text.specs.declared.action.Action.{Action}
use Rattle.pb_world.specs.Log.{log_of, rank_of, log_of_rank, log_answers}
use Rattle.pb_core_language.specs.Flat.{Block}
use Rattle.pb_core_language.specs.Run.{Setting, seq, is_over}
use Rattle.pb_judge_ruling.specs.declared.ruling.Ruling.{Ruling}
use Rattle.pb_judge_ruling.specs.declared.ruling.Ruling.TheVariants.{Whole, Covered, Differs, Beyond}

-- the actions of a log, whose entries have the numbers of their lines
abbrev pub actions_of : List (ℕ × Action) → List Action
actions_of log = map (λ entry. entry.1) log

-- a log without the entries of other ranks
abbrev pub entries_of : ℕ → List (ℕ × Action) → List (ℕ × Action)
entries_of r [] = []
entries_of r (entry ∷ log) = cond (rank_of entry.1 == r) (entry ∷ entries_of r log) (entries_of r log)

-- at no place of a rank's list do both have an action that differs
abbrev pub Agrees : List Action → List Action → Type 0
Agrees g w = (r k : ℕ) (x y : Action) → slice_get (log_of_rank r g) k ≡ Some x → slice_get (log_of_rank r w) k ≡ Some y → x ≡ y

module _ (s : Setting) (protocol : Block) (log : List (ℕ × Action)) where
  -- what is recorded of so many steps of the run
  abbrev pub run : ℕ → List Action
  run steps = log_of (seq s protocol (log_answers (actions_of log)) steps)

  abbrev pub ends_by : ℕ → Type 0
  ends_by steps = is_over s protocol (log_answers (actions_of log)) steps ≡ true

  -- The first action of the run, in which the ranks agree before, that isn't the one at its place of its rank's list in the
  -- log. `line` is the line of that one
  pub record DiffersAt (r line : ℕ) : Type 0 where
    pub steps : ℕ
    pub before : List Action
    pub action : Action
    pub after : List Action
    pub other : Action
    pub is : run steps ≡ before ++ action ∷ after
    pub agrees : Agrees before (actions_of log)
    pub by : rank_of action ≡ r
    pub there : slice_get (entries_of r log) (length (log_of_rank r before)) ≡ Some (line, other)
    pub apart : action ≢ other

  abbrev pub AllAgree : Type 0
  AllAgree = (steps : ℕ) → Agrees (run steps) (actions_of log)

  -- the run does at some time all that the rank did
  abbrev pub HasAll : ℕ → Type 0
  HasAll r = (steps : ℕ) × (length (log_of_rank r (actions_of log)) ≤ length (log_of_rank r (run steps)))

  -- so many actions of the rank are all that the run ever does, and the log has more; `line` is the line of the first more
  pub record GoesBeyond (r line : ℕ) : Type 0 where
    pub many : ℕ
    pub steps : ℕ
    pub other : Action
    pub reached : length (log_of_rank r (run steps)) ≡ many
    pub most : (more : ℕ) → length (log_of_rank r (run more)) ≤ many
    pub there : slice_get (entries_of r log) many ≡ Some (line, other)

  -- the run ends, and each rank did its part of it
  abbrev pub IsWhole : Type 0
  IsWhole = (steps : ℕ) × ends_by steps × ((r : ℕ) → log_of_rank r (actions_of log) ≡ log_of_rank r (run steps))

  abbrev pub IsRuling : Ruling → Type 0
  IsRuling (Differs r line) = DiffersAt r line
  IsRuling (Beyond r line) = AllAgree × GoesBeyond r line × ((q : ℕ) → q < r → HasAll q)
  IsRuling Whole = IsWhole
  IsRuling Covered = AllAgree × ((r : ℕ) → HasAll r) × (IsWhole → ⊥)
