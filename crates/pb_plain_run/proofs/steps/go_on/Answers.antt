use Rattle.std.proofs.Common.{List, ◌∷◌, ◌∙◌, ap}
use Rattle.pb_core_language.specs.Flat as B
use Rattle.pb_core_language.specs.Run as R
use Rattle.pb_plain.specs.View.{view, view_branches}
use Rattle.pb_plain_run.specs.Setting.{setting_of}
use Rattle.pb_plain_run.specs.View.{remaining}
use Rattle.pb_plain_run.specs.Doing.{opener_of, stack_of}
use Rattle.pb_plain_run.proofs.Moves.{moved_as}
use Rattle.pb_plain_run.proofs.Views.{view_message, view_together, view_choice}
use Rattle.pb_plain_run.proofs.steps.go_on.Goals as goal

pub returns-in_ok-enter-in-Message-clause-steps : goal.returns-in_ok-enter-in-Message-clause-steps
returns-in_ok-enter-in-Message-clause-steps c =
    let e = view_message c.args.frame.rest.now c.deref.result.now c.in-Message.origin c.in-Message.from c.in-Message.to c.in-Message.label c.in-Message.rest c.in-Message.is c.deref.ensures in
    moved_as (setting_of c.args.setting.now) (opener_of c.args.frame.opener) (view c.args.frame.rest.now) _ (stack_of c.args.doing.now.stack.items) _ (remaining c.args.doing.now.left) _ _ _ e
    c.in_ok-enter-in-Message.ensures c.in_ok-message-in-Message.ensures

pub returns-in_ok-enter-in-Together-clause-steps : goal.returns-in_ok-enter-in-Together-clause-steps
returns-in_ok-enter-in-Together-clause-steps c =
    let e = view_together c.args.frame.rest.now c.deref-in-Together.result.now c.in-Together.origin c.in-Together.joint c.in-Together.rest c.in-Together.is c.deref-in-Together.ensures in
    moved_as (setting_of c.args.setting.now) (opener_of c.args.frame.opener) (view c.args.frame.rest.now) _ (stack_of c.args.doing.now.stack.items) _ (remaining c.args.doing.now.left) _ _ _ e
    c.in_ok-enter-in-Together.ensures c.in_ok-together-in-Together.ensures

pub returns-in_ok-choice-in-Choice-clause-steps : goal.returns-in_ok-choice-in-Choice-clause-steps
returns-in_ok-choice-in-Choice-clause-steps c =
    let e = view_choice c.args.frame.rest.now c.deref-in-Choice-2.result.now c.in-Choice.origin c.in-Choice.at c.in-Choice.kernel c.deref-in-Choice-3.result.now c.in-Choice.branches c.in-Choice.rest c.in-Choice.is c.deref-in-Choice-3.ensures c.deref-in-Choice-2.ensures in
    moved_as (setting_of c.args.setting.now) (opener_of c.args.frame.opener) (view c.args.frame.rest.now) _ (stack_of c.args.doing.now.stack.items) _ (remaining c.args.doing.now.left) _ _ _ e
    (c.in_ok-choice-in-Choice.ensures.stack
    ∙ ap (λ (K : List R.Frame). record { opener = R.Chosen c.in-Choice.at (view_branches c.deref-in-Choice-3.result.now); rest = B.branch_at (R.branch_now (setting_of c.args.setting.now) (remaining c.args.doing.now.left) c.in-Choice.at c.in-Choice.kernel (view_branches c.deref-in-Choice-3.result.now)) (view_branches c.deref-in-Choice-3.result.now) } ∷ K) c.in_ok-enter-in-Choice.ensures)
    c.in_ok-choice-in-Choice.ensures.adds
