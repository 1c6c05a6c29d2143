use Rattle.std.proofs.Common.{◌≡◌, ◌++◌, map, drop}
use Rattle.pb_core_language.specs.Cuts.{role_cuts}
use Rattle.pb_rules.specs.CutLists.{lin_of}
use Rattle.pb_rules.proofs.cuts.add_roles.Given as goal

abbrev pub invariant-loop-role : goal.invariant-loop-role
invariant-loop-role l = map lin_of l.out.items ++ role_cuts (drop l.role-index l.roles) ≡ map lin_of l.fn.out.items ++ role_cuts l.roles
