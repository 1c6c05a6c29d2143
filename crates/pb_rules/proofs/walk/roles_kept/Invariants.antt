use Rattle.std.proofs.Common.{◌≡◌, drop}
use Rattle.pb_rules.specs.Traps.{role_traps, kept_all}
use Rattle.pb_rules.proofs.walk.roles_kept.Given as goal

abbrev pub invariant-loop-i : goal.invariant-loop-i
invariant-loop-i l = kept_all (role_traps l.range l.i (drop l.i l.roles)) l.best ≡ kept_all (role_traps l.range 0 l.roles) l.fn.best
