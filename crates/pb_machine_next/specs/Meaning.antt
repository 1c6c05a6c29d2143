-- What a place that was found is.
use Rattle.std.specs.Prelude.{◌≡◌, ℕ, suc, List, [], ◌∷◌, ◌++◌, length, Option, Some, None}
use Rattle.pb_affine.specs.declared.lin.Lin.{Lin}
use Rattle.pb_local.specs.Tree.{Code, for_each, Codes, more}
use Rattle.pb_local.specs.Machine.{Todo, finished, do_next, round_of, back_to}
use Rattle.pb_machine_next.specs.declared.step.Step.{Step}
use Rattle.pb_machine_next.specs.Place.{block_from, number_at, head, on_from, beyond, enter, spot, root, settled, Found, nowhere, at_code, at_round}

-- a front of a path
pub record IsFront (path : List Step) (depth : ℕ) (front : List Step) : Type 0 where
  pub others : List Step
  pub joined : path ≡ front ++ others
  pub long : length front ≡ depth

pub record IsCode (b : Codes) (path : List Step) (todo : Todo) (depth k after : ℕ) (code : Code) : Type 0 where
  pub front : List Step
  pub is_front : IsFront path depth front
  pub after_is : after ≡ suc k
  pub there : block_from k (spot (root b) front).block ≡ more code (block_from (suc k) (spot (root b) front).block)
  pub todo_is : settled todo ≡ do_next (number_at (spot (root b) front).number k (spot (root b) front).block) code (beyond (spot (root b) front) k)

pub record IsRound (b : Codes) (path : List Step) (todo : Todo) (depth after : ℕ) (high : Lin) : Type 0 where
  pub front : List Step
  pub step : Step
  pub low : Lin
  pub body : Codes
  pub is_front : IsFront path depth front
  pub is_path : IsFront path (suc depth) (front ++ step ∷ [])
  pub after_is : after ≡ suc step.at
  pub inner : spot (root b) (front ++ step ∷ []) ≡ enter (spot (root b) front) step
  pub code_is : head (block_from step.at (spot (root b) front).block) ≡ for_each low high body
  pub todo_is : settled todo ≡ round_of high (suc (number_at (spot (root b) front).number step.at (spot (root b) front).block)) body (beyond (spot (root b) front) step.at)

-- what is to do begins with the place
abbrev pub IsAt : Codes → List Step → Todo → Found → Type 0
IsAt b path todo nowhere = settled todo ≡ finished
IsAt b path todo (at_code depth k after code) = IsCode b path todo depth k after code
IsAt b path todo (at_round depth after high) = IsRound b path todo depth after high

pub record IsLoop (b : Codes) (path : List Step) (id : ℕ) (todo : Todo) (depth : ℕ) : Type 0 where
  pub front : List Step
  pub is_front : IsFront path depth front
  pub todo_is : back_to id todo ≡ on_from (spot (root b) front) 0

abbrev pub IsBack : Codes → List Step → ℕ → Todo → Option ℕ → Type 0
IsBack b path id todo None = back_to id todo ≡ finished
IsBack b path id todo (Some depth) = IsLoop b path id todo depth
