use Rattle.std.proofs.Common.{ap, ap₂, ◌∙◌, not, length, ◌==◌}
use Rattle.pb_local.specs.Tree as L
use Rattle.pb_local.proofs.Plains.{choice_plain}
use Rattle.pb_project.specs.Blocks.{parts_now}
use Rattle.pb_project.proofs.Telling.{told_is}
use Rattle.pb_project.proofs.told.told_choice.Goals as goal

pub returns : goal.returns
returns c = told_is _ c.args.relays.items _ _ _ (c.has_some-owns.ensures ∙ ap (λ l. not (length l == 0)) c.deref.ensures.value)
    (choice_plain c.guard_at.result c.args.kernel c.args.relays c.peer_of.result c.args.tests c.args.branches
    ∙ ap₂ (λ g p. L.choice g c.args.kernel c.args.relays.items p c.args.tests.items (parts_now c.args.branches.items)) c.guard_at.ensures c.peer_of.ensures) c.in_ok-list.ensures
