use Rattle.std.proofs.Common.{◌≡◌, ◌++◌, [], cond}
use Rattle.pb_world.specs.Actions.{Leave}
use Rattle.pb_world.specs.Family.{each}
use Rattle.pb_plain.specs.View.{collective_of}
use Rattle.pb_plain_run.specs.Setting.{leaves_with_words}
use Rattle.pb_plain_run.specs.View.{actions_of}
use Rattle.pb_plain_run.proofs.collectives.all_leave.Given as goal

abbrev pub invariant-loop-rank : goal.invariant-loop-rank
invariant-loop-rank l = actions_of l.out.items ≡ actions_of l.fn.out.items ++ each l.rank (λ p. Leave (collective_of l.joint) (cond (leaves_with_words (collective_of l.joint) p) l.words []))
