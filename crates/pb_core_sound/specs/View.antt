-- What the program knows of a core's rows, and of the loops around.
use Rattle.std.specs.Prelude.{ℕ, List, [], ◌∷◌}
use Rattle.pb_core_language.specs.Sound as S
use Rattle.pb_core_sound.specs.declared.rows.Rows.{Rows}
use Rattle.pb_core_sound.specs.declared.opens.Opens.{Opens, Opens-F, fold-Opens}
use Rattle.pb_core_sound.specs.declared.opens.Opens.TheOpen as O

abbrev pub rows_of : Rows → S.Rows
rows_of r = record { roles = r.roles; labels = r.labels; kernels = r.kernels }

abbrev pub ids_layer : Opens-F (List ℕ) → List ℕ
ids_layer O.Top = []
ids_layer (O.Loop id rest) = id ∷ rest.now

abbrev pub ids_of : Opens → List ℕ
ids_of = fold-Opens (List ℕ) ids_layer
