use Rattle.std.proofs.Common.{◌≡◌, ◌≤◌, ◌+ℤ◌, pos, drop}
use Rattle.pb_core_language.specs.FileRules.{total_growth}
use Rattle.pb_core_file_rules.proofs.bounds.grows.Given as goal

abbrev pub invariant-loop-role : goal.invariant-loop-role
invariant-loop-role l = record {
  so_far : pos l.high +ℤ total_growth l.constant (drop l.role-index l.roles) ≡ pos l.low +ℤ total_growth l.constant l.roles;
  highs : l.high ≤ l.role-index;
  lows : l.low ≤ l.role-index;
}
