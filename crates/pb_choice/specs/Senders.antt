-- Entries that stand for others where senders are compared.
use Rattle.std.specs.Prelude.{◌≡◌, ◌⊎◌, ℕ, ℤ, true, List, []}
use Rattle.pb_part_firsts.specs.declared.firsts.Entry.{Entry}
use Rattle.pb_part_firsts.specs.Firsts.{are_small}
use Rattle.pb_choice_entries.specs.Clashes.{forks}

-- both have the same forks with any others
pub record AreAlike (sources entries : List Entry) : Type 0 where
  pub small : are_small entries ≡ true → are_small sources ≡ true
  pub same : (here : List Entry) (n : ℤ) (role : ℕ) (x : ℤ) → forks here sources n role x ≡ forks here entries n role x

-- the same, or nothing is known
abbrev pub AreCurrent : List Entry → List Entry → Type 0
AreCurrent sources entries = (sources ≡ []) ⊎ AreAlike sources entries
