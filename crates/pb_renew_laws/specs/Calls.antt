-- Calls at once that put texts in the place of one OUT.
use Rattle.std.specs.Prelude.{◌≡◌, ◌≢◌, ℕ, false, ◌&&◌, List, [], ◌∷◌, map, Some, IsSome, nat_eq, if◌then◌else◌}
use Rattle.pb_ctree.specs.declared.kernel.KName.{KName}
use Rattle.pb_io.specs.Files.{File}
use Rattle.pb_renew_store.specs.Deeds.{Deed}
use Rattle.pb_renew_put.specs.Jobs.{Task}
use Rattle.pb_renew_put.specs.Phases.{DoesAll, Phase, is_own, start, walk}
use Rattle.pb_renew_laws.specs.Bodies.{Sound, Stands}

-- a deed, and which call did it
pub record Turn : Type 0 where
  pub call : ℕ
  pub deed : Deed

-- what one call did, in its own order
abbrev pub deeds_of : ℕ → List Turn → List Deed
deeds_of call [] = []
deeds_of call (turn ∷ turns) = if nat_eq turn.call call then turn.deed ∷ deeds_of call turns else deeds_of call turns

-- Each call does what it may, and all deeds are done in this order. What was done up to some moment is such a list, too, and so
-- is what is done where some calls are cut off.
pub record AtOnce (tasks : ℕ → Task) (turns : List Turn) (old new : List File) : Type 0 where
  pub may : (call : ℕ) → IsSome (walk (tasks call) (deeds_of call turns) start)
  pub files : DoesAll (map (λ turn. turn.deed) turns) old new

-- all have one OUT
abbrev pub AreOf : List ℕ → (ℕ → Task) → Type 0
AreOf out tasks = (call : ℕ) → (tasks call).out ≡ out

-- each body that stood in OUT or OUT.left stands in one of the two
abbrev pub CallsLoseNothing : Type 0
CallsLoseNothing =
    (out : List ℕ) (tasks : ℕ → Task) → AreOf out tasks → ((call : ℕ) → Sound (tasks call))
    → (turns : List Turn) (old new : List File) → AtOnce tasks turns old new
    → (name : KName) (body : List ℕ) → Stands name body out old → Stands name body out new

-- OUT.new is never two calls' own
abbrev pub OneHasTheLock : Type 0
OneHasTheLock =
    (out : List ℕ) (tasks : ℕ → Task) → AreOf out tasks → (turns : List Turn) (old new : List File) → AtOnce tasks turns old new
    → (one other : ℕ) → one ≢ other → (p q : Phase) → walk (tasks one) (deeds_of one turns) start ≡ Some p
    → walk (tasks other) (deeds_of other turns) start ≡ Some q → (is_own p.fresh && is_own q.fresh) ≡ false
