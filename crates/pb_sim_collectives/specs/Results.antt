-- What all ranks have entered together, combined once.
use Rattle.std.specs.Prelude.{◌≡◌, ℕ, ◌<◌, List, [], get_or, Option, Some, None, length}
use Rattle.pb_local.specs.Collectives.{operation_of, combine, combined_of}
use Rattle.pb_sim_collectives.specs.declared.results.Combination.{Combination}
use Rattle.pb_sim_collectives.specs.Lists.{words_in}

-- all have entered their collective with this number, and these are the words of all there
pub record IsDone (lists : List (List (List ℕ))) (x : Combination) : Type 0 where
  pub closed : (r : ℕ) → r < length lists → x.number < length (get_or lists r [])
  pub is : x.words.items ≡ combined_of (combine x.payload (operation_of x.op)) (length lists) (words_in lists x.number)

-- what is kept of it is right
abbrev pub AreResults : List (List (List ℕ)) → Option Combination → Type 0
AreResults lists None = Unit {0}
AreResults lists (Some x) = IsDone lists x
