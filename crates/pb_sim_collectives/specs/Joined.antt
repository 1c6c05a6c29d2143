-- What the ranks have entered so far. The k-th collectives of all ranks belong together.
use Rattle.std.specs.Prelude.{ℕ, ◌≤◌, Bool, true, nat_eq, nat_lt, if◌then◌else◌, Option, Some, None, List, [], ◌∷◌, ◌++◌, map, length, slice_get, slice_set, get_or}
use Rattle.std.specs.List.{sum_by}
use Rattle.pb_world.specs.Actions.{Collective}
use Rattle.pb_sim_collectives.specs.declared.call.Call.{Call}
use Rattle.pb_sim_collectives.specs.Calls.{collective_of, is_same}

-- the k-th collective for each k that some rank has entered, and for each rank its words at each that it has entered
pub record Joined : Type 0 where
  pub calls : List Call
  pub words : List (List (List ℕ))

abbrev pub words_of : Joined → ℕ → List (List ℕ)
words_of x r = get_or x.words r []

-- how many the rank has entered
abbrev pub number : Joined → ℕ → ℕ
number x r = length (words_of x r)

abbrev pub collectives : Joined → List Collective
collectives x = map collective_of x.calls

abbrev pub paired : List Collective → List (List ℕ) → List (Collective × List ℕ)
paired [] words = []
paired (j ∷ js) [] = []
paired (j ∷ js) (w ∷ ws) = (j, w) ∷ paired js ws

-- each collective that the rank has entered, with its words
abbrev pub entries : Joined → ℕ → List (Collective × List ℕ)
entries x r = paired (collectives x) (words_of x r)

abbrev pub fits_with : Option Collective → Collective → Bool
fits_with None j = true
fits_with (Some i) j = is_same i j

-- the rank may enter this one next: nobody has entered another at the same place
abbrev pub agrees : Joined → ℕ → Collective → Bool
agrees x r j = fits_with (slice_get (collectives x) (number x r)) j

-- the rank has entered its k-th
abbrev pub has_entered : Joined → ℕ → ℕ → Bool
has_entered x r k = nat_lt k (number x r)

abbrev pub came_to : ℕ → List (List ℕ) → ℕ
came_to k ws = if nat_lt k (length ws) then 1 else 0

-- how many ranks have entered their k-th
abbrev pub came : Joined → ℕ → ℕ
came x k = sum_by (came_to k) x.words

abbrev pub all_entered : Joined → ℕ → Bool
all_entered x k = nat_eq (came x k) (length x.words)

-- the rank has entered this one with these words
abbrev pub entered : Joined → ℕ → Call → List ℕ → Joined
entered x r call ws = record {
  calls = if nat_lt (number x r) (length x.calls) then x.calls else x.calls ++ call ∷ [];
  words = slice_set x.words r (words_of x r ++ ws ∷ []);
}

-- no rank has entered more than there are
abbrev pub IsJoined : Joined → Type 0
IsJoined x = (r : ℕ) → number x r ≤ length x.calls
