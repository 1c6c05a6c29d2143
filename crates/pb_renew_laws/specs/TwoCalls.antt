-- Two calls at once that put texts in the place of one OUT.
use Rattle.std.specs.Prelude.{◌≡◌, ℕ, List, [], ◌∷◌, IsSome}
use Rattle.pb_ctree.specs.declared.kernel.KName.{KName}
use Rattle.pb_io.specs.Files.{File, content_of}
use Rattle.pb_renew_merge.specs.Lost.{NothingLost}
use Rattle.pb_renew_store.specs.Deeds.{Deed, Does}
use Rattle.pb_renew_put.specs.Jobs.{Task}
use Rattle.pb_renew_put.specs.Names.{left_name}
use Rattle.pb_renew_put.specs.Phases.{start, walk}
use Rattle.pb_renew_laws.specs.Bodies.{Sound, Stands}

-- the deeds of two calls are done one after the other, in some order that keeps each call's own
pub data Mixes : List Deed → List Deed → List File → List File → Type 0 where
  none : (files : List File) → Mixes [] [] files files
  one : (deed : Deed) (a b : List Deed) (old between new : List File) → Does deed old between → Mixes a b between new → Mixes (deed ∷ a) b old new
  other : (deed : Deed) (a b : List Deed) (old between new : List File) → Does deed old between → Mixes a b between new → Mixes a (deed ∷ b) old new

-- the two tasks have one OUT and lose nothing by themselves, and their calls do what they may
pub record AreTwo (s t : Task) (a b : List Deed) (old new : List File) : Type 0 where
  pub one_out : t.out ≡ s.out
  pub first : Sound s
  pub second : Sound t
  pub may_first : IsSome (walk s a start)
  pub may_second : IsSome (walk t b start)
  pub mixed : Mixes a b old new

-- each body that stood in OUT or OUT.left stands in one of the two; so each body of the old OUT does
pub record LoseNothing (out : List ℕ) (old new : List File) : Type 0 where
  pub stand : (name : KName) (body : List ℕ) → Stands name body out old → Stands name body out new
  pub old_out : NothingLost (content_of old out) (content_of new out) (content_of new (left_name out))

abbrev pub TwoCallsLoseNothing : Type 0
TwoCallsLoseNothing = (s t : Task) (a b : List Deed) (old new : List File) → AreTwo s t a b old new → LoseNothing s.out old new
