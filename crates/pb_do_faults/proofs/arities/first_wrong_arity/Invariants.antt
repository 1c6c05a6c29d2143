use Rattle.std.proofs.Common.{◌≡◌, map, drop}
use Rattle.pb_do_syntax.specs.Plain.{plain_sub}
use Rattle.pb_do_faults.specs.Faults.{arity_among}
use Rattle.pb_do_faults.specs.Found.{first, body_calls}
use Rattle.pb_do_faults.proofs.arities.first_wrong_arity.Given as goal

abbrev pub invariant-loop-body : goal.invariant-loop-body
invariant-loop-body l = first (arity_among (map plain_sub l.subs) (map body_calls (drop l.body-index l.bodies))) ≡ first (arity_among (map plain_sub l.subs) (map body_calls l.bodies))
