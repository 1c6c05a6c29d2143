-- What a program knows of the loops around: for one rank, whether it takes part in them, and their ids.
use Rattle.std.specs.Prelude.{ℕ, Bool, List, [], ◌∷◌}
use Rattle.pb_core_language.specs.Lists.{nth}
use Rattle.pb_plain.specs.declared.held.Held.{Held, Held-F, fold-Held}
use Rattle.pb_plain.specs.declared.held.Held.TheOpen as L
use Rattle.pb_plain.specs.declared.opens.Opens.{Opens, Opens-F, fold-Opens}
use Rattle.pb_plain.specs.declared.opens.Opens.TheOpen as O

abbrev pub held_layer : ℕ → Held-F (List Bool) → List Bool
held_layer r L.Top = []
held_layer r (L.Just b rest) = b ∷ rest.now
held_layer r (L.Each table rest) = nth table.now r ∷ rest.now

abbrev pub held_at : ℕ → Held → List Bool
held_at r = fold-Held (List Bool) (held_layer r)

abbrev pub ids_layer : Opens-F (List ℕ) → List ℕ
ids_layer O.Top = []
ids_layer (O.Loop id rest) = id ∷ rest.now

abbrev pub ids_of : Opens → List ℕ
ids_of = fold-Opens (List ℕ) ids_layer
