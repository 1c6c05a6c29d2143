use Rattle.std.proofs.Common.{◌≡◌, ◌+◌, true, drop}
use Rattle.pb_core_language.specs.Ranks.{total}
use Rattle.pb_core_language.specs.Sound.{are_roles}
use Rattle.pb_judge_log.proofs.ranks.total.Given as goal

abbrev pub invariant-loop-role : goal.invariant-loop-role
invariant-loop-role l = record {
  roles : are_roles (drop l.role-index l.roles) ≡ true;
  count : l.count + total (drop l.role-index l.roles) l.n ≡ total l.roles l.n;
}
