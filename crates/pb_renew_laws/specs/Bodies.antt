-- Where bodies stand, and what a task must be like so that it loses none.
use Rattle.std.specs.Prelude.{◌⊎◌, ℕ, List, [], Option, None, Some, unwrap_or}
use Rattle.pb_ctree.specs.declared.kernel.KName.{KName}
use Rattle.pb_io.specs.Files.{File, content_of}
use Rattle.pb_renew_merge.specs.Lost.{Keeps, NothingLost}
use Rattle.pb_renew_put.specs.Jobs.{Behind, Task}
use Rattle.pb_renew_put.specs.Names.{left_name}

-- OUT or OUT.left has a body with this name and these bytes
abbrev pub Stands : KName → List ℕ → List ℕ → List File → Type 0
Stands name body out files = Keeps name body (content_of files out) ⊎ Keeps name body (content_of files (left_name out))

-- what a file has; a missing one has nothing
abbrev pub content : Option (List ℕ) → List ℕ
content bytes = unwrap_or bytes []

-- each body of one file stands in another
abbrev pub StandsIn : List ℕ → List ℕ → Type 0
StandsIn old new = NothingLost old new []

-- OUT.left gets each body that it had, and none that was neither there nor in the old OUT
pub record Saves (b : Behind) (old text : List ℕ) : Type 0 where
  pub whole : NothingLost old text b.bodies
  pub grows : StandsIn (content b.before) b.bodies
  pub known : NothingLost b.bodies (content b.before) old

-- each body of the old OUT goes to the text, or to OUT.left where bodies go there
abbrev pub SavesIn : Option Behind → List ℕ → List ℕ → Type 0
SavesIn None old text = StandsIn old text
SavesIn (Some b) old text = Saves b old text

abbrev pub Sound : Task → Type 0
Sound t = SavesIn t.behind (content t.old) t.text
