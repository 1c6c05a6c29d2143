use Rattle.pb_project_choice.proofs.Saying.{added, unpushed}
use Rattle.pb_project_choice.proofs.guards.add.Goals as goal
use Rattle.pb_project_choice.proofs.guards.add.Goals.{else-is_open-via-then-is_open+else-is_small, else-is_open-via-else-is_open}

pub returns-in_ok-add_said-clause-hold : goal.returns-in_ok-add_said-clause-hold
returns-in_ok-add_said-clause-hold c = added c.args.range c.args.a c.guard_in.result c.args.roles c.args.guards.now c.add_said.new.guards c.guard_in.ensures c.in_ok-add_said.ensures.is

pub returns-else-is_open-clause-hold : goal.returns-else-is_open-clause-hold
returns-else-is_open-clause-hold c = λ cuts list n i role x same r h f within is.
    unpushed _ _ (elim c.else-is_open.branch [
      | else-is_open-via-then-is_open+else-is_small w ↦ absurd (w.is_small.ensures.large w.if-is_small.false c.args.range cuts f)
      | else-is_open-via-else-is_open w ↦ c.is_open.ensures.closed w.if-is_open.false n role x
    ])
