-- What renewing a text leaves of OUT and of the files beside it.
use Rattle.std.specs.Prelude.{◌≡◌, ◌⊎◌, ℕ, List, [], ◌∷◌, Option, None, Some, IsSome, ⊤}
use Rattle.pb_io.specs.Files.{File, content_of, file_of}
use Rattle.pb_renew_text.specs.declared.wanted.Wanted.{Wanted}
use Rattle.pb_ctree.specs.declared.kernel.KName.{KName}
use Rattle.pb_renew.specs.Plans.{Fits, SparesLines}
use Rattle.pb_renew_laws.specs.Bodies.{StandsIn}
use Rattle.pb_renew_merge.specs.declared.renewed.Renewed.{Renewed}
use Rattle.pb_renew_merge.specs.Lost.{NothingLost}
use Rattle.pb_renew_merge.specs.Renewed.{IsLeft, IsRenewal}
use Rattle.pb_renew_put.specs.Jobs.{Task}
use Rattle.pb_renew_put.specs.Names.{left_name, new_name, spare_name}
use Rattle.pb_renew_put.specs.Puts.{KeepsOld, Puts}
use Rattle.pb_renew_store.specs.Changes.{KeepsFile}

-- OUT.left has the bodies that are gone behind what it had, and there is no new one; where none is gone both are as before
pub record Grows (renewed : Renewed) (out : List ℕ) (old new : List File) : Type 0 where
  pub there : IsSome (file_of new (left_name out))
  pub bytes : IsLeft renewed (content_of old (left_name out)) (content_of new (left_name out))
  pub spare : file_of new (spare_name out) ≡ None

pub record Stays (out : List ℕ) (old new : List File) : Type 0 where
  pub left : KeepsFile (left_name out) old new
  pub spare : KeepsFile (spare_name out) old new

abbrev pub GrowsBy : List KName → Renewed → List ℕ → List File → List File → Type 0
GrowsBy [] renewed out old new = Stays out old new
GrowsBy (name ∷ names) renewed out old new = Grows renewed out old new

-- no line of the old OUT is lost; or it stands whole under a name that no file had
abbrev pub KeepsLines : Option (List ℕ) → List ℕ → List File → List File → Type 0
KeepsLines None out old new = ⊤
KeepsLines (Some bytes) out old new = SparesLines bytes ⊎ KeepsOld out (Some bytes) old new

-- OUT has the text that renews the bytes that it had; each of its old bodies stands there, byte for byte, or in OUT.left, which keeps
-- each body that it had and gets none but those; and nothing is left of a new one
pub record Renews (out : List ℕ) (wanted : Wanted) (old new : List File) : Type 0 where
  pub task : Task
  pub renewed : Renewed
  pub at : task.out ≡ out
  pub fits : Fits wanted renewed task
  pub puts : Puts task old new
  pub renewal : IsRenewal (content_of old out) wanted renewed
  pub text : file_of new out ≡ Some renewed.text.items
  pub lost : NothingLost (content_of old out) (content_of new out) (content_of new (left_name out))
  pub had : StandsIn (content_of old (left_name out)) (content_of new (left_name out))
  pub known : NothingLost (content_of new (left_name out)) (content_of old (left_name out)) (content_of old out)
  pub left : GrowsBy renewed.gone.items renewed out old new
  pub lines : KeepsLines (file_of old out) out old new
  pub fresh : file_of new (new_name out) ≡ None
