use Rattle.std.proofs.Common.{◌≡◌, ◌+◌, ◌≤◌, true, drop}
use Rattle.pb_core_language.specs.Ranks.{total}
use Rattle.pb_core_language.specs.Sound.{are_roles}
use Rattle.pb_judge_log.proofs.ranks.are_few.Given as goal

abbrev pub invariant-loop-role : goal.invariant-loop-role
invariant-loop-role l = record {
  roles : are_roles (drop l.role-index l.roles) ≡ true;
  few : l.room ≤ 1024;
  count : 1024 + total (drop l.role-index l.roles) l.n ≡ total l.roles l.n + l.room;
}
