use Rattle.std.proofs.Common.{◌∷◌, [], subst}
use Rattle.pb_text.specs.declared.action.Action.TheVariants as E
use Rattle.pb_judge_lists.specs.Places.{left_of}
use Rattle.pb_judge_steps.specs.Met.{Met, branch_taken}
use Rattle.pb_judge_steps.proofs.Meetings.{chose}
use Rattle.pb_judge_steps.proofs.messages.choose.Goals as goal

pub returns-in-Some-clause-chosen : goal.returns-in-Some-clause-chosen
returns-in-Some-clause-chosen c =
    let old = left_of c.args.lists.now in
    let mid = left_of c.meet.new.lists in
    let m = chose old mid c.args.at c.args.kernel c.args.count c.args.otherwise c.first.result c.first_branch-branch.result c.meet.result c.first.ensures c.first_branch-branch.ensures c.meet.ensures.met in
    subst (λ r. Met (E.Choose c.args.at c.args.kernel (branch_taken old c.args.at c.args.count c.args.otherwise) ∷ []) old r mid) c.in-Some.is m.0

pub returns-in-None-clause-chosen : goal.returns-in-None-clause-chosen
returns-in-None-clause-chosen c =
    let old = left_of c.args.lists.now in
    let mid = left_of c.meet.new.lists in
    let m = chose old mid c.args.at c.args.kernel c.args.count c.args.otherwise c.first.result c.first_branch-branch.result c.meet.result c.first.ensures c.first_branch-branch.ensures c.meet.ensures.met in
    let met = subst (λ r. Met (E.Choose c.args.at c.args.kernel (branch_taken old c.args.at c.args.count c.args.otherwise) ∷ []) old r mid) c.in-None.is m.0 in
    (m.1 c.in-None.is, met.0, met.1)
