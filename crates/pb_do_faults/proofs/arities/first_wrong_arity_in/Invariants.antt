use Rattle.std.proofs.Common.{◌≡◌, map, drop}
use Rattle.pb_do_syntax.specs.Plain.{plain_sub}
use Rattle.pb_do_faults.specs.Faults.{arity_in}
use Rattle.pb_do_faults.specs.Found.{first}
use Rattle.pb_do_faults.proofs.arities.first_wrong_arity_in.Given as goal

abbrev pub invariant-loop-call : goal.invariant-loop-call
invariant-loop-call l = first (arity_in (map plain_sub l.subs) (drop l.call-index l.calls)) ≡ first (arity_in (map plain_sub l.subs) l.calls)
