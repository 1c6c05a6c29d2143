-- Lists of places that are empty, and limits that aren't reached.
use Rattle.std.proofs.Common.{◌≡◌, ℕ, ◌<◌, Bool, true, false, nat_le, if◌then◌else◌, Some, None, List, [], ◌∷◌, ◌++◌, refl, arith}
use Rattle.std.proofs.lemmas.Bool.Decides.{nat_tests}
use Rattle.pb_text.specs.declared.quantity.Quantity.{Quantity}
use Rattle.pb_parse.specs.Limits.{full}

-- what isn't listed
pub listed_unless : {A : Type 0} (t : Bool) (x : A) (rest : List A) → (if t then [] else x ∷ []) ++ rest ≡ [] → (t ≡ true) × (rest ≡ [])
listed_unless true x rest h = (refl, h)
listed_unless false x rest h = absurd (grind arith)

pub listed_if : {A : Type 0} (t : Bool) (x : A) (rest : List A) → (if t then x ∷ [] else []) ++ rest ≡ [] → (t ≡ false) × (rest ≡ [])
listed_if true x rest h = absurd (grind arith)
listed_if false x rest h = (refl, h)

-- a limit that isn't reached
pub not_full : (most n : ℕ) (limit : Quantity) → full most n limit ≡ None → n < most
not_full most n limit e = at (nat_le most n) refl e
  where
    at : (b : Bool) → nat_le most n ≡ b → (if b then Some limit else None) ≡ None → n < most
    at true h e = absurd (grind arith)
    at false h e = grind (arith, nat_tests)
