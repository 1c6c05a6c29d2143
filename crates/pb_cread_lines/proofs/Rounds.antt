-- Guards that are read one after the other.
use Rattle.std.proofs.Common.{◌≡◌, ℕ, zero, suc, ◌-◌, ◌+◌, ◌<◌, ◌≤◌, List, [], ◌∷◌, ◌++◌, Option, Some, None, refl, sym, ◌∙◌, arith}
use Rattle.std.specs.Prelude.{codes}
use Rattle.pb_affine.specs.declared.guard.Guard.{Guard}
use Rattle.pb_cread_lines.specs.Guess.{closed_at, others_at}
use Rattle.pb_cread_lines.specs.Parts.{strip, StopsAt}
use Rattle.pb_cread_lines.specs.declared.cursor.Stop.{Stop}
use Rattle.pb_cread_lines.specs.declared.cursor.Stop.TheVariants as stop

abbrev pub Read : Type 0
Read = Option (List Guard × List ℕ)

-- one guard more
pub another : (count i : ℕ) (sofar : List Guard) (bytes b c : List ℕ) (g : Guard) (total : Read) → i < count → strip (codes " || (") bytes ≡ Some b → closed_at b ≡ Some (g, c)
    → others_at (count - i) sofar bytes ≡ total → others_at (count - (i + 1)) (sofar ++ g ∷ []) c ≡ total
another count i sofar bytes b c g total lt here read h =
    let k : count - i ≡ suc (count - (i + 1)) = omega arith in
    let step : others_at (count - i) sofar bytes ≡ others_at (count - (i + 1)) (sofar ++ g ∷ []) c = rw (k, here, read) refl in
    sym step ∙ h

-- a guard that can't be read
pub unread : (e : Stop) (count i : ℕ) (sofar : List Guard) (bytes b : List ℕ) (total : Read) → i < count → strip (codes " || (") bytes ≡ Some b → StopsAt e (closed_at b)
    → others_at (count - i) sofar bytes ≡ total → StopsAt e total
unread stop.NoMemory count i sofar bytes b total lt here read h = tt
unread stop.Unread count i sofar bytes b total lt here read h =
    let k : count - i ≡ suc (count - (i + 1)) = omega arith in
    let step : others_at (count - i) sofar bytes ≡ None = rw (k, here, read) refl in
    sym h ∙ step

-- no further guard
pub no_more : (count i : ℕ) (sofar : List Guard) (bytes : List ℕ) (total : Read) → strip (codes " || (") bytes ≡ None → others_at (count - i) sofar bytes ≡ total → total ≡ Some (sofar, bytes)
no_more count i sofar bytes total here h = sym h ∙ stops (count - i) where
  stops : (n : ℕ) → others_at n sofar bytes ≡ Some (sofar, bytes)
  stops zero = refl
  stops (suc n) = rw here refl

-- the count is used up
pub used_up : (count i : ℕ) (sofar : List Guard) (bytes : List ℕ) (total : Read) → count ≤ i → others_at (count - i) sofar bytes ≡ total → total ≡ Some (sofar, bytes)
used_up count i sofar bytes total le h =
    let k : count - i ≡ 0 = omega arith in
    let step : others_at (count - i) sofar bytes ≡ Some (sofar, bytes) = rw k refl in
    sym h ∙ step
