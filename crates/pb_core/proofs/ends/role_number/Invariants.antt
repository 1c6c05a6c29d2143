use Rattle.std.proofs.Common.{◌≡◌, ◌+◌, drop}
use Rattle.pb_core_language.specs.FileRules.{role_names}
use Rattle.pb_core_language.specs.Meaning.{position_of}
use Rattle.pb_core.proofs.ends.role_number.Given as goal

abbrev pub invariant-loop-role : goal.invariant-loop-role
invariant-loop-role l = record {
  count : l.number ≡ l.role-index;
  so_far : l.number + position_of l.name (role_names (drop l.role-index l.roles)) ≡ position_of l.name (role_names l.roles);
}
