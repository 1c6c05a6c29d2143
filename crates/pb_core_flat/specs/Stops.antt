-- A foreach as the list of those that stop at it, in the order in which they do.
use Rattle.std.specs.Prelude.{◌≡◌, ℕ, ℤ, pos, ◌-ℤ◌, int_le, Bool, true, not, ◌||◌, ◌&&◌, nat_eq, if◌then◌else◌, Option, Some, None, List, [], ◌∷◌, ◌++◌, map, filter}
use Rattle.std.specs.List.{list_any, list_all}
use Rattle.std.specs.Ordering.{int_eq}
use Rattle.pb_core_language.specs.declared.protocol.CoreRole.{CoreRole}
use Rattle.pb_core_language.specs.declared.tree.CoreEnd.{CoreEnd}
use Rattle.pb_core_language.specs.Tree.{StmtTree, message, foreach, loop, again, choice, run, barrier, broadcast, reduce, allreduce, BlockTree, nothing, more}
use Rattle.pb_core_language.specs.FlatOf.{rank_of}
use Rattle.pb_core_language.specs.Outcomes.{Outcome, other_first, receives}
use Rattle.pb_core_flat.specs.Seated.{is_at}
use Rattle.pb_core_flat.specs.Meets.{is_moving, is_passed}

-- what the rank at an end finds there: to send or to compute, or a message of a sender
pub data Finding : Type 0 where
  acts : Finding
  gets : (source : CoreEnd) (label : ℕ) → Finding

pub record Visit : Type 0 where
  pub end : CoreEnd
  pub finding : Finding

-- the ends of a message or of a compute, and of these, in order, the sender before the receiver
abbrev pub visits_of : StmtTree → List Visit
visits_of (message l f t) = record { end = f; finding = acts } ∷ record { end = t; finding = gets f l } ∷ []
visits_of (foreach h m items) = []
visits_of (loop id m body) = []
visits_of (again id) = []
visits_of (choice k at bs) = []
visits_of (run k at) = record { end = at; finding = acts } ∷ []
visits_of barrier = []
visits_of (broadcast l root) = []
visits_of (reduce l op root) = []
visits_of (allreduce l op) = []

abbrev pub visits : BlockTree → List Visit
visits nothing = []
visits (more m s rest) = visits_of s ++ visits rest

-- ---- those that move with the variable, by falling offset

abbrev pub off_of : Visit → ℤ
off_of v = v.end.at.off

abbrev pub falling : List Visit → Bool
falling [] = true
falling (v ∷ vs) = list_all (λ w. int_le (off_of w) (off_of v)) vs && falling vs

abbrev pub moving : List Visit → List Visit
moving vs = filter (λ v. is_moving v.end) vs

abbrev pub with_off : ℤ → List Visit → List Visit
with_off c vs = filter (λ v. int_eq (off_of v) c) vs

-- the first list has the elements of the second by falling offset, in the second's order where offsets are the same
pub record IsByFalling (sorted vs : List Visit) : Type 0 where
  pub falls : falling sorted ≡ true
  pub same : (c : ℤ) → with_off c sorted ≡ with_off c vs

abbrev pub put_in : Visit → List Visit → List Visit
put_in v [] = v ∷ []
put_in v (w ∷ ws) = if int_le (off_of w) (off_of v) then v ∷ w ∷ ws else w ∷ put_in v ws

abbrev pub by_falling : List Visit → List Visit
by_falling [] = []
by_falling (v ∷ vs) = put_in v (by_falling vs)

-- behind those with the same offset or a greater one
abbrev pub put_behind : Visit → List Visit → List Visit
put_behind v [] = v ∷ []
put_behind v (w ∷ ws) = if int_le (off_of v) (off_of w) then w ∷ put_behind v ws else v ∷ w ∷ ws

-- ---- stops

-- ranks, by role and index, and what each finds, by its index
pub record Stop : Type 0 where
  pub has : ℕ → ℤ → Bool
  pub finds : ℤ → Outcome

-- what the first stop that has the rank finds
abbrev pub first_of : List Stop → ℕ → ℤ → Option Outcome
first_of [] role x = None
first_of (s ∷ ss) role x = if s.has role x then Some (s.finds x) else first_of ss role x

module _ (roles : List CoreRole) (n : ℤ) where
  -- with i for the variable
  abbrev pub outcome_at : ℤ → Finding → Outcome
  outcome_at i acts = other_first
  outcome_at i (gets source label) = receives (rank_of roles n source i) label

  abbrev pub at_value : ℤ → Visit → Stop
  at_value i v = record { has = λ role x. is_at v.end n i role x; finds = λ x. outcome_at i v.finding }

  -- some end that stays asks for it
  abbrev pub has_fixed : List Visit → ℕ → ℤ → Bool
  has_fixed vs role x = list_any (λ v. not (is_moving v.end) && is_at v.end n (pos 0) role x) vs

  -- the ranks of an end at the first value, where there is one
  abbrev pub at_first : (low high : ℤ) → Visit → Stop
  at_first low high v = record { has = λ role x. int_le low high && is_at v.end n low role x; finds = λ x. outcome_at low v.finding }

  -- of those the ones that are at some end that stays
  abbrev pub at_fixed : (low high : ℤ) → List Visit → Visit → Stop
  at_fixed low high vs v = record {
    has = λ role x. int_le low high && (is_at v.end n low role x && (not (is_moving v.end) || has_fixed vs role x));
    finds = λ x. outcome_at low v.finding;
  }

  -- the ranks of an end that moves: the one with index x at x less the offset
  abbrev pub at_some : (low high : ℤ) → Visit → Stop
  at_some low high v = record {
    has = λ role x. nat_eq v.end.role role && is_passed (off_of v) low high x;
    finds = λ x. outcome_at (x -ℤ off_of v) v.finding;
  }

  -- At the first value all ends, in order; then the ends that move, by falling offset, as a greater offset comes to an index
  -- at an earlier value.
  abbrev pub stops : (low high : ℤ) (vs sorted : List Visit) → List Stop
  stops low high vs sorted = map (at_first low high) vs ++ map (at_some low high) sorted

  -- the same, with an end that moves taken at the first value only for ranks of ends that stay
  abbrev pub few_stops : (low high : ℤ) (vs sorted : List Visit) → List Stop
  few_stops low high vs sorted = map (at_fixed low high vs) vs ++ map (at_some low high) sorted
