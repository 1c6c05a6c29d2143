-- The words that a rank makes and the branch that it takes, by its first entry.
use Rattle.std.specs.Prelude.{ℕ, ◌==◌, cond, Bool, ◌&&◌, nat_eq, nat_lt, List, length, replicate, Option, Some, None}
use Rattle.std.specs.List.{list_all}
use Rattle.pb_text.specs.declared.action.Action.{Action}
use Rattle.pb_world.specs.Log.{words_recorded}
use Rattle.pb_judge_steps.specs.declared.made.Made.{Made}
use Rattle.pb_judge_steps.specs.declared.made.Made.TheVariants.{Given, Zeros}

abbrev pub list_of : Made → List ℕ
list_of (Given list) = list.now
list_of (Zeros count) = replicate count 0

abbrev pub is_zero : ℕ → Bool
is_zero word = nat_eq word 0

abbrev pub is_all_zero : List ℕ → ℕ → Bool
is_all_zero words count = nat_eq (length words) count && list_all is_zero words

-- words of the right length, else zeros
abbrev pub sized : List ℕ → ℕ → List ℕ
sized words size = cond (length words == size) words (replicate size 0)

abbrev pub sized_or : Option (List ℕ) → ℕ → List ℕ
sized_or None size = replicate size 0
sized_or (Some words) size = sized words size

abbrev pub made_by : Action → ℕ → List ℕ
made_by action size = sized_or (words_recorded action) size

-- a branch that is there, else the other one
abbrev pub chosen_or : Option ℕ → ℕ → ℕ → ℕ
chosen_or None count otherwise = otherwise
chosen_or (Some branch) count otherwise = cond (nat_lt branch count) branch otherwise
