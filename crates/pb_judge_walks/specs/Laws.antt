-- What walks over statements, and over what they stand in, have to do with each other.
use Rattle.std.specs.Prelude.{◌≡◌, ◌≢◌, ℕ, ◌⊎◌, true, false, List, [], ◌∷◌}
use Rattle.pb_text.specs.declared.action.Action.{Action}
use Rattle.pb_text.specs.declared.action.Action.TheVariants as E
use Rattle.pb_core_language.specs.Flat.{Origin, Block, stop, choice, looped, again, Branches, branch_at}
use Rattle.pb_core_language.specs.FlatOf.{between}
use Rattle.pb_core_language.specs.Run.{Setting, branch_now, seq}
use Rattle.pb_world.specs.Actions as W
use Rattle.pb_world.specs.Actions.{answers_of, Covers}
use Rattle.pb_world.specs.Log.{log_of}
use Rattle.pb_judge_ruling.specs.Laws.{IsCovered, HasRanks}
use Rattle.pb_judge_ruling.specs.Ruling.{actions_of, IsRuling}
use Rattle.pb_judge_ruling.specs.declared.ruling.Ruling.{Ruling}
use Rattle.pb_judge_ruling.specs.declared.ruling.Ruling.TheVariants.{Whole, Covered, Differs as DiffersAt, Beyond}
use Rattle.pb_judge_follow.specs.Follow.{Left, all_of, AllFit, all_passed, Misfits, answers_left, doing, moved, IsLeastLeft, IsUsedUp}
use Rattle.pb_judge_walks.specs.declared.flow.Flow.{Flow}
use Rattle.pb_judge_walks.specs.declared.flow.Flow.TheVariants.{Passed, Back, Differs, Endless}
use Rattle.pb_judge_walks.specs.Walks.{frame, Anywhere, Walked, AtRound, IsStop}

-- ---- one behind the other

-- a statement that does these actions in one step
abbrev pub Does : Setting → (Block → Block) → Left → List Action → Type 0
Does s meaning old g = Anywhere (λ opener after around. (doing s (frame opener (meaning after) ∷ around) old ≡ g) × (moved s (frame opener (meaning after) ∷ around) old ≡ frame opener after ∷ around))

pub record StepsAreWalked : Type 0 where
  pub nothing : (s : Setting) (opens : List ℕ) (left : Left) → Walked s (λ after. after) opens left Passed left
  pub fits : (s : Setting) (f : Block → Block) (opens : List ℕ) (old new : Left) (g : List Action) → Does s f old g → AllFit g old → new ≡ all_passed g old → Walked s f opens old Passed new
  pub misfits : (s : Setting) (f : Block → Block) (opens : List ℕ) (old new : Left) (g : List Action) (r line : ℕ) → Does s f old g → Misfits g old r line → Walked s f opens old (Differs r line) new
  pub goes_back : (s : Setting) (opens : List ℕ) (id : ℕ) (left : Left) → Walked s (λ after. again (between id opens)) opens left (Back id) left
  pub then : (s : Setting) (f g : Block → Block) (opens : List ℕ) (old mid new : Left) (flow : Flow) → Walked s f opens old Passed mid → Walked s g opens mid flow new → Walked s (λ after. f (g after)) opens old flow new
  pub stops : (s : Setting) (f g : Block → Block) (opens : List ℕ) (old new : Left) (flow : Flow) → IsStop flow → Walked s f opens old flow new → Walked s (λ after. f (g after)) opens old flow new

-- ---- choices

pub record ChoicesAreWalked : Type 0 where
  pub branch : (s : Setting) (origin : Origin) (at kernel : ℕ) (branches : Branches) (f : Block → Block) (opens : List ℕ) (old mid new : Left) (flow : Flow) →
      AllFit (E.Choose at kernel (branch_now s (answers_left old) at kernel branches) ∷ []) old → mid ≡ all_passed (E.Choose at kernel (branch_now s (answers_left old) at kernel branches) ∷ []) old →
      branch_at (branch_now s (answers_left old) at kernel branches) branches ≡ f stop → Walked s f opens mid flow new → Walked s (λ after. choice origin at kernel branches after) opens old flow new
  pub misfits : (s : Setting) (origin : Origin) (at kernel : ℕ) (branches : Branches) (opens : List ℕ) (old new : Left) (r line : ℕ) →
      Misfits (E.Choose at kernel (branch_now s (answers_left old) at kernel branches) ∷ []) old r line → Walked s (λ after. choice origin at kernel branches after) opens old (Differs r line) new

-- ---- loops

pub record LoopsAreWalked : Type 0 where
  pub begins : (s : Setting) (origin : Origin) (f : Block → Block) (opens : List ℕ) (left : Left) → AtRound s (λ after. looped origin (f stop) after) opens left (f stop) left
  pub again : (s : Setting) (origin : Origin) (f : Block → Block) (opens : List ℕ) (id : ℕ) (old mid new : Left) → AtRound s (λ after. looped origin (f stop) after) opens old (f stop) mid → Walked s f (id ∷ opens) mid (Back id) new →
      AtRound s (λ after. looped origin (f stop) after) opens old (f stop) new
  -- no entry was used in the round
  pub endless : (s : Setting) (origin : Origin) (f : Block → Block) (opens : List ℕ) (id : ℕ) (old mid new : Left) → AtRound s (λ after. looped origin (f stop) after) opens old (f stop) mid → Walked s f (id ∷ opens) mid (Back id) new →
      new.used ≡ mid.used → Walked s (λ after. looped origin (f stop) after) opens old Endless new
  pub ends : (s : Setting) (origin : Origin) (f : Block → Block) (opens : List ℕ) (id : ℕ) (old mid new : Left) (flow : Flow) → AtRound s (λ after. looped origin (f stop) after) opens old (f stop) mid → Walked s f (id ∷ opens) mid flow new →
      flow ≢ Back id → Walked s (λ after. looped origin (f stop) after) opens old flow new

-- ---- whole protocols

-- what is left over tells the ruling, or else whether the run has an end, and something is owed
pub record Rulings (s : Setting) (protocol : Block) (log : List (ℕ × Action)) (left : Left) : Type 0 where
  pub beyond : (r line : ℕ) → IsLeastLeft left r line → IsRuling s protocol log (Beyond r line)
  pub covered : IsUsedUp left → left.owes ≡ true → IsRuling s protocol log Covered
  pub whole : IsUsedUp left → left.owes ≡ false → IsRuling s protocol log Whole

pub record EndlessRulings (s : Setting) (protocol : Block) (log : List (ℕ × Action)) (left : Left) : Type 0 where
  pub beyond : (r line : ℕ) → IsLeastLeft left r line → IsRuling s protocol log (Beyond r line)
  pub covered : IsUsedUp left → IsRuling s protocol log Covered

abbrev pub IsRuledBy : Setting → Block → List (ℕ × Action) → Flow → Left → Type 0
IsRuledBy s protocol log Passed left = Rulings s protocol log left
IsRuledBy s protocol log (Back id) left = Rulings s protocol log left
IsRuledBy s protocol log (Differs r line) left = IsRuling s protocol log (DiffersAt r line)
IsRuledBy s protocol log Endless left = EndlessRulings s protocol log left

abbrev pub WalksAreRuled : Type 0
WalksAreRuled =
    (s : Setting) (f : Block → Block) (log : List (ℕ × Action)) (flow : Flow) (left : Left) → Walked s f [] (all_of log) flow left → IsRuledBy s (f stop) log flow left

-- ---- logs of runs

-- a log that records what the run does under its own answers, or a front of each rank's part of that, is ruled whole or covered
abbrev pub RunsAreRuled : Type 0
RunsAreRuled =
    (s : Setting) (protocol : Block) (w : List (ℕ × W.Action)) (log : List (ℕ × Action)) (total m : ℕ) → actions_of log ≡ log_of w → HasRanks total log → Covers (seq s protocol (answers_of w) m) w →
    IsCovered s protocol log × ((x : Ruling) → IsRuling s protocol log x → (x ≡ Whole) ⊎ (x ≡ Covered))
