-- What the walk over a part of a protocol is to have done, beside a log.
--
-- rows and opens are those that a sound core has there, and i is the variable's value.
use Rattle.std.specs.Prelude.{◌≡◌, ℕ, ℤ, Bool, true, false, List, ◌∷◌, Result}
use Rattle.std.specs.List.{AllByRecursion}
use Rattle.pb_core_language.specs.Tree.{BlockTree, BranchTrees}
use Rattle.pb_core_language.specs.Plain.{MarkedStmt}
use Rattle.pb_core_language.specs.Sound.{Rows, is_stmt, is_block, are_branches}
use Rattle.pb_core_language.specs.Flat.{Origin, Block, stop, looped}
use Rattle.pb_core_language.specs.FlatOf.{flat_stmt, flat_block, flat_branches, for_each, rank_of}
use Rattle.pb_core_language.specs.Run.{branch_now}
use Rattle.pb_core_language.specs.declared.tree.CoreEnd.{CoreEnd}
use Rattle.pb_judge_follow.specs.Follow.{Left, answers_left}
use Rattle.pb_judge_walks.specs.declared.flow.Flow.{Flow}
use Rattle.pb_judge_walks.specs.Walks.{Walked, AtRound}
use Rattle.pb_judge_steps.specs.declared.meeting.Difference.{Difference}
use Rattle.pb_judge_steps.specs.Met.{Chosen}
use Rattle.pb_judge_blocks.specs.declared.site.Site.{Site}
use Rattle.pb_judge_blocks.specs.Places.{IsTurn, IsSite, setting_at}

module _ (site : Site) where
  abbrev pub StmtWalks : ℤ → MarkedStmt → Left → Flow → Left → Type 0
  StmtWalks i s old flow new =
      (rows : Rows) (varies : Bool) (opens : List ℕ) → IsSite site → IsTurn i → is_stmt rows varies opens s.stmt ≡ true → Walked (setting_at site) (flat_stmt site.roles.now site.n opens i s.mark s.stmt) opens old flow new

  abbrev pub BlockWalks : ℤ → BlockTree → Left → Flow → Left → Type 0
  BlockWalks i b old flow new = (rows : Rows) (varies : Bool) (opens : List ℕ) → IsSite site → IsTurn i → is_block rows varies opens b ≡ true → Walked (setting_at site) (flat_block site.roles.now site.n opens i b) opens old flow new

  -- the rest of a block is to be walked, and with that the whole is
  abbrev pub BlockGoesOn : ℤ → BlockTree → Left → BlockTree → Left → Type 0
  BlockGoesOn i whole old rest mid =
      (rows : Rows) (varies : Bool) (opens : List ℕ) → IsSite site → IsTurn i → is_block rows varies opens whole ≡ true →
      (is_block rows varies opens rest ≡ true)
      × ((flow : Flow) (new : Left) → Walked (setting_at site) (flat_block site.roles.now site.n opens i rest) opens mid flow new → Walked (setting_at site) (flat_block site.roles.now site.n opens i whole) opens old flow new)

  -- the items of a foreach, for these values
  abbrev pub items_for : List ℕ → List ℤ → BlockTree → Block → Block
  items_for opens turns items after = for_each turns (λ j. flat_block site.roles.now site.n opens j items) after

  abbrev pub TurnsWalk : List ℤ → BlockTree → Left → Flow → Left → Type 0
  TurnsWalk turns items old flow new =
      (rows : Rows) (opens : List ℕ) → IsSite site → AllByRecursion IsTurn turns → is_block rows true opens items ≡ true → Walked (setting_at site) (items_for opens turns items) opens old flow new

  abbrev pub TurnsGoOn : List ℤ → BlockTree → Left → List ℤ → Left → Type 0
  TurnsGoOn whole items old rest mid =
      (rows : Rows) (opens : List ℕ) → IsSite site → AllByRecursion IsTurn whole → is_block rows true opens items ≡ true →
      AllByRecursion IsTurn rest × ((flow : Flow) (new : Left) → Walked (setting_at site) (items_for opens rest items) opens mid flow new → Walked (setting_at site) (items_for opens whole items) opens old flow new)

  -- a loop with this body
  abbrev pub RoundsWalk : ℤ → ℕ → BlockTree → Left → Flow → Left → Type 0
  RoundsWalk i id b old flow new =
      (rows : Rows) (opens : List ℕ) (origin : Origin) → IsSite site → IsTurn i → is_block rows false (id ∷ opens) b ≡ true →
      Walked (setting_at site) (λ after. looped origin (flat_block site.roles.now site.n (id ∷ opens) i b stop) after) opens old flow new

  -- a round of it was begun, in which so many entries were used before, and walked
  abbrev pub RoundWalked : ℤ → ℕ → BlockTree → Left → ℕ → Flow → Left → Type 0
  RoundWalked i id b old used flow new =
      (rows : Rows) (opens : List ℕ) (origin : Origin) → IsSite site → IsTurn i → is_block rows false (id ∷ opens) b ≡ true →
      (mid : Left)
      × AtRound (setting_at site) (λ after. looped origin (flat_block site.roles.now site.n (id ∷ opens) i b stop) after) opens old (flat_block site.roles.now site.n (id ∷ opens) i b stop) mid
      × Walked (setting_at site) (flat_block site.roles.now site.n (id ∷ opens) i b) (id ∷ opens) mid flow new × (used ≡ mid.used)

  -- a statement, wherever it stands and comes from
  abbrev pub SimpleWalks : ℤ → (Origin → Block → Block) → Left → Flow → Left → Type 0
  SimpleWalks i meaning old flow new = (opens : List ℕ) (origin : Origin) → IsSite site → IsTurn i → Walked (setting_at site) (meaning origin) opens old flow new

  -- a branch is taken, or the action doesn't fit
  abbrev pub Takes : ℤ → ℕ → CoreEnd → BranchTrees → Left → Result ℕ Difference → Left → Type 0
  Takes i kernel at branches old result new =
      (rows : Rows) (opens : List ℕ) → IsSite site → IsTurn i → are_branches rows opens branches ≡ true →
      Chosen (rank_of site.roles.now site.n at i) kernel
      (branch_now (setting_at site) (answers_left old) (rank_of site.roles.now site.n at i) kernel (flat_branches site.roles.now site.n opens i branches)) old result new
