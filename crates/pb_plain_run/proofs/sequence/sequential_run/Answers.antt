use Rattle.std.proofs.Common.{ap}
use Rattle.pb_core_language.specs.Run.{first_state}
use Rattle.pb_plain.specs.View.{view}
use Rattle.pb_plain_run.specs.Setting.{setting_of}
use Rattle.pb_plain_run.specs.View.{table_of, actions_of}
use Rattle.pb_plain_run.proofs.Runs.{run_state, run_actions}
use Rattle.pb_plain_run.proofs.sequence.sequential_run.Goals as goal

pub loop-done-init : goal.loop-done-init
loop-done-init c = record { state = c.in_ok-doing.ensures (setting_of c.args.setting.now); actions = ap actions_of c.new-actions.ensures.items }

pub loop-done-preserved : goal.loop-done-preserved
loop-done-preserved c =
    let first = first_state (setting_of c.args.setting.now) (view c.args.protocol.now) (table_of c.args.answers.now) in
    record {
      state = run_state (setting_of c.args.setting.now) c.loop-done.done first _ _ _ _ c.loop-done.invariant.state c.in_ok-step.ensures.steps;
      actions = run_actions (setting_of c.args.setting.now) c.loop-done.done first _ _ _ _ c.loop-done.invariant.state c.loop-done.invariant.actions c.in_ok-step.ensures.steps;
    }
