-- Which collectives of which ranks belong together.
use Rattle.std.specs.Prelude.{◌≡◌, ℕ, ◌<◌, List, map, filter_map}
use Rattle.pb_world.specs.Actions.{Action, Collective, of_rank, entered_in, left_in, AnswerTable}
use Rattle.pb_world.specs.Family.{Family, IsSequential}

-- a collective of all ranks, and the words with which each rank enters
pub record Round : Type 0 where
  pub collective : Collective
  pub words : ℕ → List ℕ

-- the rank has entered these rounds, each with its words, and left each with what the round gives it
pub record HasMade {S : Type 0} (F : Family S) (rounds : List Round) (r : ℕ) (s : List Action) : Type 0 where
  pub enters : filter_map entered_in s ≡ map (λ round. (round.collective, round.words r)) rounds
  pub leaves : filter_map left_in s ≡ map (λ round. (round.collective, F.outcome round.collective r round.words)) rounds

-- In a sequential run the k-th collectives of all ranks are one statement: there is one list of rounds that each rank has made.
abbrev pub CollectivesMatch : Type 0 → Type 0
CollectivesMatch S =
    (F : Family S) → IsSequential F → (A : AnswerTable) (m : ℕ)
    → (rounds : List Round) × ((r : ℕ) → r < F.total → HasMade F rounds r (of_rank r (F.run A m)))
