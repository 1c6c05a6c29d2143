use Rattle.std.proofs.Common.{◌≡◌}
use Rattle.pb_world.specs.Actions.{Enter}
use Rattle.pb_world.specs.Family.{each}
use Rattle.pb_plain.specs.View.{collective_of}
use Rattle.pb_plain_run.specs.Used.{left_after}
use Rattle.pb_plain_run.specs.Setting.{entries}
use Rattle.pb_plain_run.specs.View.{remaining}
use Rattle.pb_plain_run.proofs.collectives.use_entries.Given as goal

abbrev pub invariant-loop-rank : goal.invariant-loop-rank
invariant-loop-rank l = remaining l.left ≡ left_after (each l.rank (λ p. Enter (collective_of l.joint) (entries l.setting (remaining l.fn.left) (collective_of l.joint) p))) (remaining l.fn.left)
