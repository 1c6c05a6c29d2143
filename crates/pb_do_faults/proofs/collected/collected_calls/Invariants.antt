use Rattle.std.proofs.Common.{◌≡◌, ◌++◌, map, drop}
use Rattle.pb_do_syntax.specs.Plain.{plain_sub}
use Rattle.pb_do_faults.specs.CallSites.{bodies_of}
use Rattle.pb_do_faults.specs.Found.{body_calls}
use Rattle.pb_do_faults.proofs.collected.collected_calls.Given as goal

abbrev pub invariant-loop-sub : goal.invariant-loop-sub
invariant-loop-sub l =
    map body_calls l.list.items ++ bodies_of l.names (map plain_sub (drop l.sub-index l.sub-items)) ≡ bodies_of l.names (map plain_sub l.sub-items)
