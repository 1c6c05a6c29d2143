-- Where a statement stands, as the program knows it.
use Rattle.std.specs.Prelude.{◌≡◌, ◌≤◌, ℕ, ℤ, pos, ◌≤ℤ◌, ◌&&◌, ◌||◌, int_le, Bool, true, false, Option, Some, None, List, length}
use Rattle.pb_text.specs.declared.limits.TheConstants.{MOST_NUMBER}
use Rattle.pb_affine.specs.declared.range.NRange.{NRange}
use Rattle.pb_affine.specs.Values.{value}
use Rattle.pb_part_areas.specs.declared.area.Area.{Area}
use Rattle.pb_part_areas.specs.Areas.{have}
use Rattle.pb_core_language.specs.declared.tree.CoreEnd.{CoreEnd}
use Rattle.pb_core_language.specs.Ranks.{total}
use Rattle.pb_core_language.specs.Sound.{is_small, is_over_n}
use Rattle.pb_core_language.specs.Verdict.{IsIn}
use Rattle.pb_core_language.specs.Tree.{StmtTree, message, foreach, loop, again, choice, run, barrier, broadcast, reduce, allreduce, BlockTree}
use Rattle.pb_core_flat.specs.Meets.{meet}
use Rattle.pb_core_flat.specs.Seated.{is_rank, is_at}
use Rattle.pb_core_language.specs.declared.tree.Bounds.{Bounds}
use Rattle.pb_part_firsts.specs.Takers.{IsWhole}
use Rattle.pb_shape.specs.Places.{Scope, Who, Here}
use Rattle.pb_project_piece.specs.Comers.{AreBounds}
use Rattle.pb_project_piece.specs.Ranked.{late, IsBrought, Fitting}

-- The range of N, how many roles there are, and the areas of all ranks. The range begins early; early on there are no more than 2,000,000,000
-- ranks, and late the same ranks as early on
pub record Stands (range : NRange) (roles : ℕ) (whole : List Area) (sc : Scope) : Type 0 where
  pub range_is : sc.range ≡ range
  pub roles_is : roles ≡ length sc.roles
  pub whole_is : IsWhole range sc.roles whole
  pub early : range.low ≤ 100000
  pub steady : IsBrought (λ n role x. is_rank sc.roles n role x)
  pub fitting : Fitting range whole
  pub few : (n : ℤ) → IsIn range n → n ≤ℤ late → total sc.roles n ≤ MOST_NUMBER

-- of the ranks of the protocol these all come here
pub record Come (sc : Scope) (h : Here) (who : Who) : Type 0 where
  pub come : (n i : ℤ) (role : ℕ) (x : ℤ) → IsIn sc.range n → is_rank sc.roles n role x ≡ true → who n i role x ≡ true → h.comes n i role x ≡ true

-- the ranks at the ends of a statement; at those of a foreach for some value of its variable
abbrev pub at_ends : StmtTree → Who
at_ends (message l f t) n i role x = is_at f n i role x || is_at t n i role x
at_ends (foreach b m items) n i role x = meet items (value b.low n (pos 0)) (value b.high n (pos 0)) n role x
at_ends (loop id m body) n i role x = false
at_ends (again id) n i role x = false
at_ends (choice k at bs) n i role x = false
at_ends (run k at) n i role x = is_at at n i role x
at_ends barrier n i role x = false
at_ends (broadcast l root) n i role x = false
at_ends (reduce l op root) n i role x = false
at_ends (allreduce l op) n i role x = false

-- those at the ends of a foreach's items for some value of its variable
abbrev pub meeting : Bounds → BlockTree → Who
meeting over items n i role x = meet items (value over.low n (pos 0)) (value over.high n (pos 0)) n role x

-- the variable may have any value
pub record IsOpen (h : Here) : Type 0 where
  pub at : (n i : ℤ) → h.at n i ≡ true

-- within the loop of those at ends without the variable
pub record IsEach (over : Bounds) (fixed : List Area) (sc : Scope) (h : Here) : Type 0 where
  pub bounds : AreBounds over
  pub at : (n i : ℤ) → h.at n i ≡ int_le (value over.low n (pos 0)) i && int_le i (value over.high n (pos 0))
  pub comes : (n i : ℤ) (role : ℕ) (x : ℤ) → IsIn sc.range n → is_rank sc.roles n role x ≡ true → h.comes n i role x ≡ true → have fixed n role x ≡ true
  pub come : (n i : ℤ) (role : ℕ) (x : ℤ) → IsIn sc.range n → is_rank sc.roles n role x ≡ true → h.at n i ≡ true → have fixed n role x ≡ true → h.comes n i role x ≡ true
  pub steady : IsBrought (λ n role x. have fixed n role x)

abbrev pub IsHere : Option Bounds → List Area → Scope → Here → Type 0
IsHere None fixed sc h = IsOpen h
IsHere (Some over) fixed sc h = IsEach over fixed sc h

-- these ranks come here; in the loop it is known already
abbrev pub ComeIf : Option Bounds → Scope → Here → Who → Type 0
ComeIf None sc h who = Come sc h who
ComeIf (Some over) sc h who = Unit {0}

-- an end of a statement there
abbrev pub is_end_if : Option Bounds → CoreEnd → Bool
is_end_if None e = is_over_n e.at.base && is_small e.at.off
is_end_if (Some over) e = is_small e.at.off

abbrev pub varies : Option Bounds → Bool
varies None = false
varies (Some over) = true
