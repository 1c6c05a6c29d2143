-- What a collective does beside a log: all enter, and then all leave.
--
-- At N = 3 with an allreduce by sum and the entries `0 enter A 1`, `1 enter A 2` and `2 enter A 3`, the words joined behind
-- two ranks are 3, and behind all three they are 6. All leave with these.
--
-- r is a rank, k counts ranks, and left is what the ranks have left.
use Rattle.std.specs.Prelude.{◌≡◌, ℕ, ◌==◌, cond, Bool, true, false, List, [], ◌∷◌, ◌++◌, nat_lt, Some, None, Result, Ok, Err}
use Rattle.pb_text.specs.declared.action.Action.{Action}
use Rattle.pb_world.specs.Actions as W
use Rattle.pb_world.specs.Family.{each}
use Rattle.pb_world.specs.Log as L
use Rattle.pb_core_language.specs.Run as R
use Rattle.pb_core_language.specs.Run.{entered_now}
use Rattle.pb_core_language.specs.Collectives.{combined_of}
use Rattle.pb_judge_follow.specs.Follow.{Left, answers_left}
use Rattle.pb_judge_steps.specs.declared.made.Made.{Made}
use Rattle.pb_judge_steps.specs.declared.meeting.Difference.{Difference}
use Rattle.pb_judge_steps.specs.Made.{list_of}
use Rattle.pb_judge_steps.specs.Met.{Met}

-- ---- what is recorded

abbrev pub all_enter : W.Collective → ℕ → (ℕ → List ℕ) → List Action
all_enter joint k words = L.log_of (each k (λ r. W.Enter joint (words r)))

abbrev pub all_leave : W.Collective → ℕ → (ℕ → List ℕ) → List Action
all_leave joint k words = L.log_of (each k (λ r. W.Leave joint (words r)))

module _ (s : R.Setting) (joint : W.Collective) (left : Left) where
  -- the words with which a rank enters
  abbrev pub entering : ℕ → List ℕ
  entering r = entered_now s (answers_left left) joint r

  -- the words with which it leaves
  abbrev pub leaving : ℕ → List ℕ
  leaving r = s.outcome joint r entering

  abbrev pub all_do : List Action
  all_do = all_enter joint s.total entering ++ all_leave joint s.total leaving

-- ---- the words that are shared

-- the words of the ranks below k, joined
abbrev pub joined : (W.Operation → ℕ → ℕ → ℕ → ℕ) → W.Collective → ℕ → (ℕ → List ℕ) → List ℕ
joined operate W.Barrier k words = []
joined operate (W.Broadcast label root) k words = cond (nat_lt root k) (words root) []
joined operate (W.Reduce label operation root) k words = combined_of (operate operation label) k words
joined operate (W.Allreduce label operation) k words = combined_of (operate operation label) k words

-- a rank leaves with them, or with no words
abbrev pub gets : W.Collective → ℕ → Bool
gets W.Barrier r = false
gets (W.Broadcast label root) r = true
gets (W.Reduce label operation root) r = r == root
gets (W.Allreduce label operation) r = true

abbrev pub share : W.Collective → List ℕ → ℕ → List ℕ
share joint all r = cond (gets joint r) all []

-- ---- one rank enters

-- it enters with these words, or its first entry says something else
abbrev pub Enters : Action → List ℕ → Left → Result Made Difference → Left → Type 0
Enters entry words old (Ok made) new = (list_of made ≡ words) × Met (entry ∷ []) old None new
Enters entry words old (Err d) new = Met (entry ∷ []) old (Some d) new
