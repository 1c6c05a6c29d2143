use Rattle.std.proofs.Common.{◌≤◌, ◌+◌, true, sym, subst, arith}
use Rattle.std.proofs.lemmas.Result.{on_ok_weaker}
use Rattle.pb_project_choice.specs.Tested.{IsTested, LabelsWithin}
use Rattle.pb_project_choice.proofs.Telling.{ascend_branch}
use Rattle.pb_project_choice.proofs.testing.put_tests.Goals as goal

pub returns-clause-is : goal.returns-clause-is
returns-clause-is c =
    let s = c.args.setting.now in
    let most = c.most_label-most.result in
    let within : LabelsWithin 0 most c.in_ok-all.all.items = subst (LabelsWithin 0 most) (sym c.in_ok-all.ensures) c.most_label-most.ensures in
    on_ok_weaker c.put_tests_within.result
    (λ it. subst (λ es. IsTested s.range s.roles s.whole.now c.args.branch (λ l. true) es c.args.tests.now.items c.put_tests_within.new.tests.items) c.in_ok-all.ensures (it within))
    c.put_tests_within.ensures.is

pub returns-clause-ascend : goal.returns-clause-ascend
returns-clause-ascend c =
    let least : 0 ≤ c.most_label-most.result = omega arith in
    on_ok_weaker c.put_tests_within.result (λ it h. ascend_branch c.args.branch (c.most_label-most.result + 1) c.put_tests_within.new.tests.items (it least h)) c.put_tests_within.ensures.ascend
