use Rattle.std.proofs.Common.{◌≡◌}
use Rattle.pb_world.specs.Sequencer.{state_after, emitted}
use Rattle.pb_core_language.specs.Run.{emit, next, first_state}
use Rattle.pb_plain.specs.View.{view}
use Rattle.pb_plain_run.specs.Setting.{setting_of}
use Rattle.pb_plain_run.specs.View.{table_of, actions_of}
use Rattle.pb_plain_run.specs.Doing.{state_of}
use Rattle.pb_plain_run.proofs.sequence.sequential_run.Given as goal

abbrev pub invariant-loop-done : goal.invariant-loop-done
invariant-loop-done l = record {
  state : state_of l.doing ≡ state_after (emit (setting_of l.setting)) (next (setting_of l.setting)) l.done (first_state (setting_of l.setting) (view l.fn.protocol) (table_of l.fn.answers));
  actions : actions_of l.actions.items ≡ emitted (emit (setting_of l.setting)) (next (setting_of l.setting)) l.done (first_state (setting_of l.setting) (view l.fn.protocol) (table_of l.fn.answers));
}
