use Rattle.std.proofs.Common.{◌≡◌, ◌++◌, drop}
use Rattle.pb_renew_merge.specs.Defaults.{default_names}
use Rattle.pb_renew_merge.proofs.defaults.push_defaults.Given as goal

abbrev pub invariant-loop-function : goal.invariant-loop-function
invariant-loop-function l =
    l.out.items ++ default_names l.form (drop l.function-index l.functions) l.kept ≡ l.initial.out.items ++ default_names l.form l.functions l.kept
