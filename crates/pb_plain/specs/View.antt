-- The flat protocol that a value of the program stands for.
use Rattle.std.specs.Prelude.{ℕ, ℤ, pos, List, [], ◌∷◌, map}
use Rattle.pb_affine.specs.Values.{value, range}
use Rattle.pb_world.specs.Actions as W
use Rattle.pb_core_language.specs.declared.protocol.CoreRole.{CoreRole}
use Rattle.pb_core_language.specs.Ranks as R
use Rattle.pb_core_language.specs.Tree as T
use Rattle.pb_core_language.specs.Flat as F
use Rattle.pb_core_language.specs.FlatOf.{operation_of}
use Rattle.pb_plain.specs.declared.flat.Mark.{Mark}
use Rattle.pb_plain.specs.declared.flat.Seat.{Seat}
use Rattle.pb_plain.specs.declared.flat.Asked.{Asked}
use Rattle.pb_plain.specs.declared.flat.Ends.{Ends}
use Rattle.pb_plain.specs.declared.flat.Ends.TheVariants as E
use Rattle.pb_plain.specs.declared.flat.Origin.{Origin}
use Rattle.pb_plain.specs.declared.flat.Collective.{Collective}
use Rattle.pb_plain.specs.declared.flat.Collective.TheVariants as C
use Rattle.pb_plain.specs.declared.flat.Flat.{Flat, Flat-F, fold-Flat}
use Rattle.pb_plain.specs.declared.flat.Branches.TheOpen as L
use Rattle.pb_plain.specs.declared.flat.Branches.{Branches, Branches-F, fold-Branches}

abbrev pub mark_of : Mark → T.Mark
mark_of m = record { number = m.number; place = m.place }

abbrev pub seat_of : Seat → R.Seat
seat_of s = record { role = s.role; index = s.index }

abbrev pub asked_of : Asked → F.Asked
asked_of a = record { mark = mark_of a.mark; seat = seat_of a.seat }

abbrev pub ends_of : Ends → List F.Asked
ends_of E.None = []
ends_of (E.One a) = asked_of a ∷ []
ends_of (E.Two a b) = asked_of a ∷ asked_of b ∷ []

abbrev pub origin_of : Origin → F.Origin
origin_of o = record { mark = mark_of o.mark; ends = ends_of o.ends }

abbrev pub collective_of : Collective → W.Collective
collective_of C.Barrier = W.Barrier
collective_of (C.Broadcast l root) = W.Broadcast l root
collective_of (C.Reduce l op root) = W.Reduce l (operation_of op) root
collective_of (C.Allreduce l op) = W.Allreduce l (operation_of op)

-- one layer of a value, with the flat protocols of what it holds
abbrev pub flat_layer : Flat-F F.Branches F.Block → F.Block
flat_layer L.Stop = F.stop
flat_layer (L.Message o p q l g) = F.message (origin_of o) p q l g.value
flat_layer (L.Compute o p k g) = F.compute (origin_of o) p k g.value
flat_layer (L.Together o j g) = F.together (origin_of o) (collective_of j) g.value
flat_layer (L.Choice o p k bs g) = F.choice (origin_of o) p k bs.value g.value
flat_layer (L.Looped o b g) = F.looped (origin_of o) b.value g.value
flat_layer (L.Again n) = F.again n

abbrev pub branches_layer : Branches-F F.Branches F.Block → F.Branches
branches_layer L.None = F.no_branch
branches_layer (L.Branch m b bs) = F.branch (mark_of m) b.value bs.value

abbrev pub view : Flat → F.Block
view = fold-Flat F.Branches F.Block branches_layer flat_layer

abbrev pub view_branches : Branches → F.Branches
view_branches = fold-Branches F.Branches F.Block branches_layer flat_layer

-- the seats of a role with these indices
abbrev pub seats_of_role : ℕ → List ℤ → List R.Seat
seats_of_role role indices = map (λ x. record { role = role; index = x }) indices

-- the seats of a role with this number at N = n
abbrev pub seats_of : ℕ → CoreRole → ℤ → List R.Seat
seats_of number r n = seats_of_role number (range (value r.low n (pos 0)) (value r.high n (pos 0)))
