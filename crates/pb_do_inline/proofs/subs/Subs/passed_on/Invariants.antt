use Rattle.std.proofs.Common.{◌≡◌, ◌++◌, map, drop}
use Rattle.pb_do_syntax.specs.Plain.{plain_sub}
use Rattle.pb_do_syntax.specs.Inlining.{passed_on}
use Rattle.pb_do_inline.specs.Ends.{roles_of}
use Rattle.pb_do_inline.proofs.subs.Subs.passed_on.Given as goal

abbrev pub invariant-loop-arg : goal.invariant-loop-arg
invariant-loop-arg l =
    l.names.items ++ passed_on (roles_of (map plain_sub l.self.list.now) l.site) (drop l.arg-index l.args) ≡ passed_on (roles_of (map plain_sub l.fn.self.list.now) l.fn.site) l.fn.args
