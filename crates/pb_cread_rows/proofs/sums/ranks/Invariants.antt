use Rattle.std.proofs.Common.{◌≡◌, length, drop}
use Rattle.pb_local.specs.Ranks.{size_with, ranks_of}
use Rattle.pb_ctree.specs.Sums.{HasRoomFor}
use Rattle.pb_ctree.specs.Trees.{sum_of}
use Rattle.pb_cread_rows.proofs.sums.ranks.Given as goal

abbrev pub invariant-loop-role : goal.invariant-loop-role
invariant-loop-role l = record {
  room : HasRoomFor (length (drop l.role-index l.roles)) l.first;
  size : size_with (sum_of l.first) (drop l.role-index l.roles) ≡ ranks_of l.roles;
}
