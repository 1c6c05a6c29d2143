use Rattle.std.proofs.Common.{◌≡◌}
use Rattle.pb_core_language.specs.Collectives.{combined, combine}
use Rattle.pb_core_language.specs.FlatOf.{operation_of}
use Rattle.pb_plain.specs.View.{collective_of}
use Rattle.pb_plain_run.specs.Setting.{entries}
use Rattle.pb_plain_run.specs.View.{remaining}
use Rattle.pb_plain_run.proofs.collectives.combined.Given as goal

abbrev pub invariant-loop-before : goal.invariant-loop-before
invariant-loop-before l = l.all ≡ combined (combine l.payload (operation_of l.op)) l.before (entries l.setting (remaining l.left) (collective_of l.joint))
