use Rattle.std.proofs.Common.{◌≡◌, map, drop}
use Rattle.pb_do_syntax.specs.Plain.{plain_sub}
use Rattle.pb_do_faults.specs.Strangers.{subs_strangers}
use Rattle.pb_do_faults.specs.Found.{first}
use Rattle.pb_do_faults.proofs.strangers.first_stranger.Given as goal

abbrev pub invariant-loop-i : goal.invariant-loop-i
invariant-loop-i l = first (subs_strangers (map plain_sub (drop l.i l.subs))) ≡ first (subs_strangers (map plain_sub l.subs))
