use Rattle.std.proofs.Common.{◌≡◌, ◌++◌}
use Rattle.pb_world.specs.Actions.{Enter}
use Rattle.pb_world.specs.Family.{each}
use Rattle.pb_plain.specs.View.{collective_of}
use Rattle.pb_plain_run.specs.Setting.{entries}
use Rattle.pb_plain_run.specs.View.{remaining, actions_of}
use Rattle.pb_plain_run.proofs.collectives.all_enter.Given as goal

abbrev pub invariant-loop-rank : goal.invariant-loop-rank
invariant-loop-rank l = actions_of l.out.items ≡ actions_of l.fn.out.items ++ each l.rank (λ p. Enter (collective_of l.joint) (entries l.setting (remaining l.left) (collective_of l.joint) p))
