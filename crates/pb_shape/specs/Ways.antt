-- What a rank does of straight statements, and the way of a machine through them, with its silent steps bounded.
use Rattle.std.specs.Prelude.{◌≡◌, ℕ, suc, ◌==◌, cond, List, [], ◌∷◌}
use Rattle.pb_world.specs.Actions.{Action, Kind, Sends, Receives, Runs, Enters, Leaves, kind_of}
use Rattle.pb_world.specs.Machine.{Machine, Silent, Does}
use Rattle.pb_core_language.specs.Flat.{Block, stop, message, compute, together, choice, looped, again}

-- what rank r does of straight statements, in order
abbrev pub mine : ℕ → Block → List Kind
mine r stop = []
mine r (message origin p q l g) = cond (p == r) (Sends q l ∷ mine r g) (cond (q == r) (Receives p l ∷ mine r g) (mine r g))
mine r (compute origin p k g) = cond (p == r) (Runs k ∷ mine r g) (mine r g)
mine r (together origin j g) = Enters j ∷ Leaves j ∷ mine r g
mine r (choice origin p k bs g) = []
mine r (looped origin b g) = []
mine r (again n) = []

-- From one state to another by actions of these kinds, in order, with silent steps between: at most so many before the first action,
-- and `bound` before each later one; `left` more would be allowed at the end
pub data Way {S : Type 0} (M : Machine S) (bound : ℕ) (last : S) (left : ℕ) : ℕ → S → List Kind → Type 0 where
  here : Way M bound last left left last []
  silent : {k : ℕ} {x : S} {kinds : List Kind} → M.next x ≡ Silent → Way M bound last left k (M.quiet x) kinds → Way M bound last left (suc k) x kinds
  act : {k : ℕ} {x y : S} {kind : Kind} {kinds : List Kind} → M.next x ≡ Does kind → ((a : Action) → kind_of a ≡ kind → M.act x a ≡ y) → Way M bound last left bound y kinds → Way M bound last left k x (kind ∷ kinds)

-- how many silent steps are allowed behind these actions, where so many are before
abbrev pub renewed : ℕ → ℕ → List Kind → ℕ
renewed bound k [] = k
renewed bound k (kind ∷ kinds) = bound
