-- What the statements of a file with calls do at one N, where the parameters of a subprotocol stand for roles: as flat
-- statements, each of which is done in one step.
--
-- With `role W[0..N-1]`, and where the parameter A stands for W, at N = 3
--     Q() from A[i:0..N-2] to A[i+1];
-- does, with 0 for the label,
--     sends 0 1 0 ∷ sends 1 2 0 ∷ []
--
-- r says what names stand for, n is N, and i and j are values of the variable.
use Rattle.std.specs.Prelude.{ℕ, ℤ, pos, List, [], ◌∷◌, ◌++◌}
use Rattle.pb_affine.specs.Values.{value, range}
use Rattle.pb_text.specs.declared.place.Spot.{Spot}
use Rattle.pb_syntax.specs.declared.tree.RangeText.{RangeText}
use Rattle.pb_syntax.specs.declared.tree.IndexText.{IndexText}
use Rattle.pb_syntax.specs.declared.tree.IndexText.TheVariants.{Zero, At, Bind}
use Rattle.pb_syntax.specs.declared.tree.End.{End}
use Rattle.pb_syntax.specs.Tree as tree
use Rattle.pb_syntax.specs.Tree.{PlainStatement}
use Rattle.pb_world.specs.Actions.{Collective, Barrier, Broadcast, Reduce, Allreduce}
use Rattle.pb_core_language.specs.declared.protocol.CoreRole.{CoreRole}
use Rattle.pb_core_language.specs.FlatOf.{operation_of, rank_of}
use Rattle.pb_core_language.specs.Meaning.{Table, position_of, bounds_of, end_of}
use Rattle.pb_do_syntax.specs.Calls.{Call, plain, foreach, loop, choice, call, Calls, nothing, more}
use Rattle.pb_do_syntax.specs.Inlining.{Roles, renamed_end}

-- a flat statement: a message and what its receiver gets, a compute, a collective of all ranks
pub data Deed : Type 0 where
  sends : (from to label : ℕ) → Deed
  runs : (at kernel : ℕ) → Deed
  joins : (joint : Collective) → Deed

module _ (t : Table) (roles : List CoreRole) (n : ℤ) where
  -- the rank at an end
  abbrev pub rank_at : Roles → ℤ → End → ℕ
  rank_at r i e = rank_of roles n (end_of t (renamed_end r e)) i

  -- the values that a variable runs over
  abbrev pub values : ℤ → RangeText → List ℤ
  values i over = range (value (bounds_of t.constant over).low n i) (value (bounds_of t.constant over).high n i)

  abbrev pub sent : Roles → Spot → End → End → ℤ → Deed
  sent r l from to i = sends (rank_at r i from) (rank_at r i to) (position_of l.name t.labels)

  abbrev pub sent_for_each : Roles → Spot → End → End → List ℤ → List Deed
  sent_for_each r l from to [] = []
  sent_for_each r l from to (j ∷ js) = sent r l from to j ∷ sent_for_each r l from to js

  -- a message, once for each value of the variable that one of its ends binds; the sender's comes first
  abbrev pub by_receiver : Roles → ℤ → Spot → End → End → IndexText → List Deed
  by_receiver r i l from to Zero = sent r l from to i ∷ []
  by_receiver r i l from to (At x) = sent r l from to i ∷ []
  by_receiver r i l from to (Bind x over) = sent_for_each r l from to (values i over)

  abbrev pub by_sender : Roles → ℤ → Spot → End → End → IndexText → List Deed
  by_sender r i l from to Zero = by_receiver r i l from to to.index
  by_sender r i l from to (At x) = by_receiver r i l from to to.index
  by_sender r i l from to (Bind x over) = sent_for_each r l from to (values i over)

  -- a statement without braces; a continue does nothing itself
  abbrev pub deeds : Roles → ℤ → PlainStatement → List Deed
  deeds r i (tree.message l p from to) = by_sender r i l from to from.index
  deeds r i (tree.compute at k who) = runs (rank_at r i who) (position_of k.name t.kernels) ∷ []
  deeds r i (tree.barrier at) = joins Barrier ∷ []
  deeds r i (tree.broadcast at l p from) = joins (Broadcast (position_of l.name t.labels) (rank_at r i from)) ∷ []
  deeds r i (tree.reduce at l p o to) = joins (Reduce (position_of l.name t.labels) (operation_of o) (rank_at r i to)) ∷ []
  deeds r i (tree.allreduce at l p o) = joins (Allreduce (position_of l.name t.labels) (operation_of o)) ∷ []
  deeds r i (tree.again at x) = []
  deeds r i (tree.foreach at x over place items) = []
  deeds r i (tree.loop at x place body) = []
  deeds r i (tree.choice at k who bs) = []

  -- the items of a foreach, which are messages and computes
  abbrev pub item_deeds : Roles → ℤ → Call → List Deed
  item_deeds r i (plain s) = deeds r i s
  item_deeds r i (foreach at x over place items) = []
  item_deeds r i (loop at x place body) = []
  item_deeds r i (choice at k who bs) = []
  item_deeds r i (call at f args) = []

  abbrev pub items_deeds : Roles → ℤ → Calls → List Deed
  items_deeds r i nothing = []
  items_deeds r i (more s rest) = item_deeds r i s ++ items_deeds r i rest

  abbrev pub deeds_for_each : Roles → Calls → List ℤ → List Deed
  deeds_for_each r items [] = []
  deeds_for_each r items (j ∷ js) = items_deeds r j items ++ deeds_for_each r items js

  abbrev pub foreach_deeds : Roles → RangeText → Calls → List Deed
  foreach_deeds r over items = deeds_for_each r items (values (pos 0) over)
