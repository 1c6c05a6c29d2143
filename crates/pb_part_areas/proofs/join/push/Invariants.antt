use Rattle.std.proofs.Common.{◌≡◌, ◌≤◌, ℕ, ℤ, ◌||◌, List, length, vec_len}
use Rattle.std.specs.List.{All}
use Rattle.pb_affine.specs.declared.lin.Lin.{Lin}
use Rattle.pb_affine.specs.declared.range.NRange.{NRange}
use Rattle.pb_part_areas.specs.Areas.{has, have, IsSomewhere, AreSomewhere}
use Rattle.pb_part_areas.specs.Fits.{Fits}
use Rattle.pb_part_areas.specs.Joins.{IsJoinedFrom}
use Rattle.pb_part_areas.proofs.join.push.Given as goal

abbrev pub invariant-loop-join : goal.invariant-loop-join
invariant-loop-join l = record {
  is : (n : ℤ) (role : ℕ) (x : ℤ) → have l.out.items n role x || has l.last n role x ≡ have l.initial.out.items n role x || has l.initial.last n role x;
  fits : (range : NRange) (cuts : List Lin) → All (Fits range cuts) l.initial.out.items → Fits range cuts l.initial.last → All (Fits range cuts) l.out.items;
  own : (range : NRange) (cuts : List Lin) → All (Fits range cuts) l.initial.out.items → Fits range cuts l.initial.last → Fits range cuts l.last;
  some : AreSomewhere l.initial.out.items → AreSomewhere l.out.items;
  last_some : IsSomewhere l.initial.last → IsSomewhere l.last;
  short : length l.out.items ≤ length l.initial.out.items;
  joined : (from : ℕ) → IsJoinedFrom from l.initial.out.items → IsJoinedFrom from l.out.items;
}

abbrev pub decreases-loop-join : goal.decreases-loop-join
decreases-loop-join l = vec_len l.out
