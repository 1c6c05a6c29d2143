-- What a step of a walk returned, and what is written then.
use Rattle.std.specs.Prelude.{◌≡◌, ℕ, ◌+◌, ◌-◌, ◌≤◌, ◌<◌, Option, Some, List, [], ◌∷◌, ◌++◌, length, map, slice_get, Result, Ok, Err}
use Rattle.pb_text.specs.declared.place.Place.{Place}
use Rattle.pb_text.specs.declared.place.Spot.{Spot}
use Rattle.pb_syntax.specs.Tree.{PlainStatement, PlainBlock}
use Rattle.pb_syntax.specs.Plain.{plain_statement, plain_block}
use Rattle.pb_strips_syntax.specs.declared.tree.Col.{Col}
use Rattle.pb_strips_syntax.specs.Columns.{column_name}
use Rattle.pb_strips_syntax.specs.Flattening.{column_spot, named_column}
use Rattle.pb_strips_flatten.specs.declared.stop.Stop.{Stop}
use Rattle.pb_strips_flatten.specs.declared.stop.Stop.TheVariants.{TooMany, Unnamed, NoMemory}
use Rattle.pb_strips_flatten.specs.declared.output.Output.{Output}
use Rattle.pb_strips_flatten.specs.declared.output.Offer.{Offer}
use Rattle.pb_strips_flatten.specs.Parts.{Part, EndIn, Fits, AllFit}

-- the items of a block so far, and the statements of the whole file so far
pub record Written (A : Type 0) : Type 0 where
  pub list : List A
  pub count : ℕ

abbrev pub behind : {A : Type 0} → ℕ → Written A
behind {A} count = record { list = []; count = count }

abbrev pub written : Output → Written PlainStatement
written o = record { list = map plain_statement o.list.items; count = o.count.n }

abbrev pub offered : Offer → Written PlainBlock
offered o = record { list = map plain_block o.list.items; count = o.count.n }

abbrev pub grown : {A : Type 0} → Written A → Part A → Written A
grown w p = record { list = w.list ++ p.made; count = w.count + length p.places }

abbrev pub counted : {A : Type 0} → Written A → Written A
counted w = record { list = w.list; count = w.count + 1 }

abbrev pub with_one : {A : Type 0} → Written A → A → ℕ → Written A
with_one w x count = record { list = w.list ++ x ∷ []; count = count }

-- it stopped at the one too many, behind so many
abbrev pub Stops : {A : Type 0} → Stop → Part A → ℕ → Type 0
Stops (TooMany p) part count = slice_get part.places (4000 - count) ≡ Some p
Stops Unnamed part count = AllFit part.ends → ⊥
Stops NoMemory part count = Unit {0}

abbrev pub Ends : {R A : Type 0} → Result R Stop → (R → Written A) → Part A → Written A → Type 0
Ends (Ok r) now part before = now r ≡ grown before part
Ends (Err s) now part before = Stops s part before.count

-- one more was counted, or there is no room for it
abbrev pub Counts : {A : Type 0} → Result (Unit {0}) Stop → Place → Written A → Written A → Type 0
Counts (Ok u) place before after = (before.count < 4000) × (after ≡ counted before)
Counts (Err (TooMany p)) place before after = (4000 ≤ before.count) × (p ≡ place)
Counts (Err Unnamed) place before after = ⊥
Counts (Err NoMemory) place before after = Unit {0}

-- these ends were named, or not all of them are names
abbrev pub Names : {R A : Type 0} → Result R Stop → (R → A) → A → List EndIn → Type 0
Names (Ok r) now x ends = now r ≡ x
Names (Err (TooMany p)) now x ends = ⊥
Names (Err Unnamed) now x ends = AllFit ends → ⊥
Names (Err NoMemory) now x ends = Unit {0}

-- one more was counted and written, or there is no room for it
abbrev pub Adds : {A : Type 0} → Result (Unit {0}) Stop → A → Place → Written A → Written A → Type 0
Adds (Ok u) x place before after = (before.count < 4000) × (after ≡ with_one before x (before.count + 1))
Adds (Err (TooMany p)) x place before after = (4000 ≤ before.count) × (p ≡ place)
Adds (Err Unnamed) x place before after = ⊥
Adds (Err NoMemory) x place before after = Unit {0}

-- the name of a column, or it is too long
abbrev pub SpotStops : Stop → Spot → ℕ → Type 0
SpotStops (TooMany p) strip c = ⊥
SpotStops Unnamed strip c = 64 < length (column_name strip.name c)
SpotStops NoMemory strip c = Unit {0}

abbrev pub IsSpotOf : Result Spot Stop → Spot → ℕ → Type 0
IsSpotOf (Ok s) strip c = s ≡ column_spot strip c
IsSpotOf (Err s) strip c = SpotStops s strip c

abbrev pub IsRoleOf : Result Spot Stop → Spot → Option Col → Option ℕ → Type 0
IsRoleOf (Ok s) role col v = s ≡ named_column role col v
IsRoleOf (Err (TooMany p)) role col v = ⊥
IsRoleOf (Err Unnamed) role col v = Fits role col v → ⊥
IsRoleOf (Err NoMemory) role col v = Unit {0}
