-- Who takes part, by the sentences on it: the least sets that keep them. In docs/LANGUAGE.md: 'Who takes part'.
-- r is a rank, and E the bodies of the loops around, the innermost first.
use Rattle.std.specs.Prelude.{◌≡◌, ℕ, zero, suc, Bool, true, false, List, [], ◌∷◌}
use Rattle.pb_world.specs.Actions.{Collective}
use Rattle.pb_core_language.specs.Tree.{Mark}
use Rattle.pb_core_language.specs.Lists.{nth}
use Rattle.pb_core_language.specs.Flat.{Origin, Block, message, compute, together, choice, looped, again, Branches, branch, takes_part}

-- from the body of the loop with so many between on
abbrev pub loops_from : ℕ → List Block → List Block
loops_from zero E = E
loops_from (suc between) [] = []
loops_from (suc between) (body ∷ E) = loops_from between E

-- The rank takes part in the block, inside the loops with these bodies, for a reason other than a continue of a barred loop
mutual
  pub data Takes (r : ℕ) : List Block → List Bool → Block → Type 0 where
    sends : {E : List Block} {origin : Origin} {barred : List Bool} {from to label : ℕ} {rest : Block} → from ≡ r → Takes r E barred (message origin from to label rest)
    receives : {E : List Block} {origin : Origin} {barred : List Bool} {from to label : ℕ} {rest : Block} → to ≡ r → Takes r E barred (message origin from to label rest)
    after_message : {E : List Block} {origin : Origin} {barred : List Bool} {from to label : ℕ} {rest : Block} → Takes r E barred rest → Takes r E barred (message origin from to label rest)
    computes : {E : List Block} {origin : Origin} {barred : List Bool} {at kernel : ℕ} {rest : Block} → at ≡ r → Takes r E barred (compute origin at kernel rest)
    after_compute : {E : List Block} {origin : Origin} {barred : List Bool} {at kernel : ℕ} {rest : Block} → Takes r E barred rest → Takes r E barred (compute origin at kernel rest)
    joins : {E : List Block} {origin : Origin} {barred : List Bool} {joint : Collective} {rest : Block} → Takes r E barred (together origin joint rest)
    chooses : {E : List Block} {origin : Origin} {barred : List Bool} {at kernel : ℕ} {branches : Branches} {rest : Block} → at ≡ r → Takes r E barred (choice origin at kernel branches rest)
    in_branch : {E : List Block} {origin : Origin} {barred : List Bool} {at kernel : ℕ} {branches : Branches} {rest : Block} → Takes_some r E barred branches → Takes r E barred (choice origin at kernel branches rest)
    after_choice : {E : List Block} {origin : Origin} {barred : List Bool} {at kernel : ℕ} {branches : Branches} {rest : Block} → Takes r E barred rest → Takes r E barred (choice origin at kernel branches rest)
    in_loop : {E : List Block} {origin : Origin} {barred : List Bool} {body rest : Block} → Takes r (body ∷ E) (false ∷ barred) body → Takes r E barred (looped origin body rest)
    after_loop : {E : List Block} {origin : Origin} {barred : List Bool} {body rest : Block} → Takes r E barred rest → Takes r E barred (looped origin body rest)
    -- in the loop's body for a reason other than its own continue
    continues : {E : List Block} {barred : List Bool} {between : ℕ} (body : Block) (around : List Block) → nth barred between ≡ false → loops_from between E ≡ body ∷ around → Takes r (body ∷ around) (true ∷ []) body → Takes r E barred (again between)

  pub data Takes_some (r : ℕ) : List Block → List Bool → Branches → Type 0 where
    in_first : {E : List Block} {mark : Mark} {barred : List Bool} {first : Block} {rest : Branches} → Takes r E barred first → Takes_some r E barred (branch mark first rest)
    in_later : {E : List Block} {mark : Mark} {barred : List Bool} {first : Block} {rest : Branches} → Takes_some r E barred rest → Takes_some r E barred (branch mark first rest)

-- whether a rank takes part in the continue of each loop
abbrev pub values : ℕ → List Block → List Bool
values r [] = []
values r (body ∷ E) = takes_part (false ∷ values r E) r body ∷ values r E

abbrev pub Least : Type 0
Least = (r : ℕ) (E : List Block) (block : Block) → (Takes r E [] block → takes_part (values r E) r block ≡ true) × (takes_part (values r E) r block ≡ true → Takes r E [] block)

-- a rank takes part in a continue of the innermost loop exactly where it does in the loop's body for another reason
abbrev pub ContinueIs : Type 0
ContinueIs = (r : ℕ) (E : List Block) (body : Block) → takes_part (values r (body ∷ E)) r (again 0) ≡ takes_part (false ∷ values r E) r body

-- and that continue adds nobody to the loop
abbrev pub BodyIs : Type 0
BodyIs = (r : ℕ) (E : List Block) (body : Block) → takes_part (values r (body ∷ E)) r body ≡ takes_part (false ∷ values r E) r body
