use Rattle.std.proofs.Common.{rules, ◌≡◌, ◌≤◌, ◌+◌, nat_eq, length, subst, arith}
use Rattle.std.proofs.lemmas.Result.{on_ok_weaker}
use Rattle.pb_project_choice.specs.Tested.{IsTested}
use Rattle.pb_project_choice.proofs.Telling.{ascend_later}
use Rattle.pb_project_choice.proofs.LabelHalves.{tested_none, tested_one, tested_both, ascend_one}
use Rattle.pb_project_choice.proofs.testing.+put_tests_within.Goals as goal

pub returns-then-is_empty-clause-is : goal.returns-then-is_empty-clause-is
returns-then-is_empty-clause-is t c =
    let s = c.args.setting.now in
    let none : length c.args.entries.items ≡ 0 = search rules in
    λ within. tested_none s.range s.roles s.whole.now c.args.branch c.args.entries.items c.args.tests.now.items none

pub returns-then-is_empty-clause-ascend : goal.returns-then-is_empty-clause-ascend
returns-then-is_empty-clause-ascend t c = λ le h. ascend_later c.args.branch c.args.least (c.args.most + 1) c.args.tests.now.items (omega (arith, le)) h

pub returns-then-most-least-clause-is : goal.returns-then-most-least-clause-is
returns-then-most-least-clause-is t c =
    let s = c.args.setting.now in
    on_ok_weaker c.put_test.result
    (λ it within. tested_one s.range s.roles s.whole.now c.args.branch c.args.least c.args.most c.args.entries.items c.args.tests.now.items c.put_test.new.tests.items c.if-most-least.true within
    (subst (λ es. IsTested s.range s.roles s.whole.now c.args.branch (λ l. nat_eq l c.args.least) es c.args.tests.now.items c.put_test.new.tests.items) c.deref.ensures.value it))
    c.put_test.ensures.is

pub returns-then-most-least-clause-ascend : goal.returns-then-most-least-clause-ascend
returns-then-most-least-clause-ascend t c =
    on_ok_weaker c.put_test.result (λ it le h. ascend_one c.args.branch c.args.least c.args.most c.put_test.new.tests.items le (it h)) c.put_test.ensures.ascend

pub returns-clause-is : goal.returns-clause-is
returns-clause-is t c =
    let s = c.args.setting.now in
    let halves = c.in_ok-halves.halves in
    let parts = c.in_ok-halves.ensures.within c.args.least c.args.most in
    on_ok_weaker c.put_tests_within-2.result
    (λ it within.
    tested_both s.range s.roles s.whole.now c.args.branch c.args.entries.items halves.low.items halves.high.items c.args.tests.now.items c.put_tests_within.new.tests.items c.put_tests_within-2.new.tests.items
    c.in_ok-halves.ensures.is c.in_ok-halves.ensures.fits (c.in_ok-put_tests_within.ensures.is (parts within).0) (it (parts within).1))
    c.put_tests_within-2.ensures.is

pub returns-clause-ascend : goal.returns-clause-ascend
returns-clause-ascend t c =
    let middle = c.middle_of-middle.result in
    let low : c.args.least ≤ middle = c.middle_of-middle.ensures.low in
    let high : middle + 1 ≤ c.args.most = omega (arith, c.middle_of-middle.ensures.high) in
    on_ok_weaker c.put_tests_within-2.result (λ it le h. it high (c.in_ok-put_tests_within.ensures.ascend low h)) c.put_tests_within-2.ensures.ascend
