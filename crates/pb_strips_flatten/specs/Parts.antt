-- What a part of a file gives to the flat file: statements, where each of them and of what stands in it comes from, and the
-- ends that were named for it.
use Rattle.std.specs.Prelude.{ℕ, ◌≤◌, Option, Some, None, List, [], ◌∷◌, ◌++◌, length}
use Rattle.pb_text.specs.declared.place.Place.{Place}
use Rattle.pb_text.specs.declared.place.Spot.{Spot}
use Rattle.pb_syntax.specs.Tree.{PlainStatement, PlainBlock, statements_of}
use Rattle.pb_strips_syntax.specs.declared.tree.Col.{Col}
use Rattle.pb_strips_syntax.specs.declared.tree.StripEnd.{StripEnd}
use Rattle.pb_strips_syntax.specs.Columns.{column_name, column_of, numbers}
use Rattle.pb_strips_syntax.specs.Flattening as flat
use Rattle.pb_strips_syntax.specs.Flattening.{natural, flat_at, flat_in}
use Rattle.pb_strips_syntax.specs.Strips.{Strip, message, foreach, loop, again, choice, compute, barrier, broadcast, reduce, allreduce, columns, Strips, nothing, more, StripBranches, no_branch, branch}
use Rattle.pb_strips_flatten.specs.Excess as excess
use Rattle.pb_strips_flatten.specs.Excess.{origins_at, origins_in, origins_among}

-- ---- ends

-- an end, and the value of the variable around it in one copy
pub record EndIn : Type 0 where
  pub value : Option ℕ
  pub at : StripEnd

-- the name of its column is a name
abbrev pub Fits : Spot → Option Col → Option ℕ → Type 0
Fits role None v = Unit {0}
Fits role (Some col) v = length (column_name role.name (natural (column_of col v))) ≤ 64

abbrev pub AllFit : List EndIn → Type 0
AllFit [] = Unit {0}
AllFit (e ∷ es) = Fits e.at.role e.at.col e.value × AllFit es

abbrev pub ends_for : List ℕ → (Option ℕ → List EndIn) → List EndIn
ends_for [] body = []
ends_for (c ∷ cs) body = body (Some c) ++ ends_for cs body

abbrev pub end_in : Option ℕ → StripEnd → EndIn
end_in v e = record { value = v; at = e }

-- the ends in each copy
abbrev mutual
  pub ends_at : Strip → Option ℕ → List EndIn
  ends_at (message label carries from to) v = end_in v from ∷ end_in v to ∷ []
  ends_at (foreach place var over at items) v = ends_in items v
  ends_at (loop place name at body) v = ends_in body v
  ends_at (again place name) v = []
  ends_at (choice place kernel who branches) v = end_in v who ∷ ends_among branches v
  ends_at (compute place kernel who) v = end_in v who ∷ []
  ends_at (barrier place) v = []
  ends_at (broadcast place label carries from) v = end_in v from ∷ []
  ends_at (reduce place label carries by to) v = end_in v to ∷ []
  ends_at (allreduce place label carries by) v = []
  ends_at (columns place var low high at body) v = ends_for (numbers low high) (λ c. ends_in body c)

  pub ends_in : Strips → Option ℕ → List EndIn
  ends_in nothing v = []
  ends_in (more s rest) v = ends_at s v ++ ends_in rest v

  pub ends_among : StripBranches → Option ℕ → List EndIn
  ends_among no_branch v = []
  ends_among (branch at first rest) v = ends_in first v ++ ends_among rest v

-- ---- parts

pub record Part (A : Type 0) : Type 0 where
  pub made : List A
  pub places : List Place
  pub ends : List EndIn

abbrev pub no_part : {A : Type 0} → Part A
no_part {A} = record { made = []; places = []; ends = [] }

abbrev pub joined : {A : Type 0} → Part A → Part A → Part A
joined a b = record { made = a.made ++ b.made; places = a.places ++ b.places; ends = a.ends ++ b.ends }

abbrev pub part_at : Strip → Option ℕ → Part PlainStatement
part_at s v = record { made = flat_at s v; places = origins_at s; ends = ends_at s v }

abbrev pub part_in : Strips → Option ℕ → Part PlainStatement
part_in ss v = record { made = flat_in ss v; places = origins_in ss; ends = ends_in ss v }

-- once for each of these values
abbrev pub part_for : List ℕ → Strips → Part PlainStatement
part_for cs body = record {
  made = flat.for_each cs (λ c. flat_in body c);
  places = excess.for_each cs (origins_in body);
  ends = ends_for cs (λ c. ends_in body c);
}

abbrev pub block_with : Place → List PlainStatement → PlainBlock
block_with at list = record { place = at; list = statements_of list }

abbrev pub blocks_among : StripBranches → Option ℕ → List PlainBlock
blocks_among no_branch v = []
blocks_among (branch at first rest) v = block_with at (flat_in first v) ∷ blocks_among rest v

abbrev pub part_among : StripBranches → Option ℕ → Part PlainBlock
part_among bs v = record { made = blocks_among bs v; places = origins_among bs; ends = ends_among bs v }

-- one branch
abbrev pub part_branch : Place → Strips → Option ℕ → Part PlainBlock
part_branch at first v = record { made = block_with at (flat_in first v) ∷ []; places = origins_in first; ends = ends_in first v }

-- a statement without braces
abbrev pub IsLeaf : Strip → Type 0
IsLeaf (foreach place var over at items) = ⊥
IsLeaf (loop place name at body) = ⊥
IsLeaf (choice place kernel who branches) = ⊥
IsLeaf (columns place var low high at body) = ⊥
IsLeaf other = Unit {0}
