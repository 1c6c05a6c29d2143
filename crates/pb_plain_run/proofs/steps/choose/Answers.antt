use Rattle.std.proofs.Common.{◌∙◌, ℕ, List, ap, nat_lt}
use Rattle.pb_world.specs.Sequencer.{first_or}
use Rattle.pb_core_language.specs.Flat as B
use Rattle.pb_plain.specs.View.{view_branches}
use Rattle.pb_plain_run.proofs.Added.{choice_adds}
use Rattle.pb_plain_run.proofs.steps.choose.Goals as goal

pub returns-clause-adds : goal.returns-clause-adds
returns-clause-adds c =
    choice_adds c.args.at c.args.kernel c.args.number _ c.branch_of-branch.result _ _ _ _ _ c.requires
    (c.branch_of-branch.ensures ∙ ap (λ (bs : List ℕ). first_or bs (λ x. nat_lt x (B.count (view_branches c.args.branches.now))) (B.first_ending (view_branches c.args.branches.now))) c.branches.ensures)
    c.in_ok-add.ensures c.use_branch.ensures
