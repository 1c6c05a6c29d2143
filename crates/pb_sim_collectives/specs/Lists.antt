-- The windows of all ranks as lists of lists.
use Rattle.std.specs.Prelude.{ℕ, zero, suc, ◌<◌, ◌≤◌, ◌-◌, List, [], ◌∷◌, map, length, get_or}
use Rattle.pb_sim_collectives.specs.declared.lists.Lists.{Lists}

abbrev pub items_of : Lists → List (List (List ℕ))
items_of x = map (λ w. w.all) x.list.items

-- of how many of its first collectives each rank's words are forgotten
abbrev pub starts_of : Lists → List ℕ
starts_of x = map (λ w. w.from) x.list.items

-- no rank's words at its k-th, or at a later one, are forgotten
abbrev pub IsKept : Lists → ℕ → Type 0
IsKept x k = (r : ℕ) → get_or (starts_of x) r 0 ≤ k

-- no words are forgotten at the one that some rank has entered last
abbrev pub AreKept : Lists → Type 0
AreKept x = (q : ℕ) → q < length (items_of x) → IsKept x (length (get_or (items_of x) q []) - 1)

-- so many empty lists
abbrev pub replicated : ℕ → List (List (List ℕ))
replicated zero = []
replicated (suc n) = [] ∷ replicated n

-- with which words a rank has entered its k-th
abbrev pub words_in : List (List (List ℕ)) → ℕ → ℕ → List ℕ
words_in xs k r = get_or (get_or xs r []) k []
