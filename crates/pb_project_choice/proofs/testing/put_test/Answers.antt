use Rattle.std.proofs.Common.{sym, subst, ap, ◌∙◌, ◌+◌, nat_eq}
use Rattle.pb_project_piece.specs.Ranked.{IsThere}
use Rattle.pb_project_choice.specs.Tested.{IsTested, AscendTo}
use Rattle.pb_project_choice.proofs.Telling.{Says, test_there, test_gone, ascend_with, ascend_on}
use Rattle.pb_project_choice.proofs.testing.put_test.Goals as goal
use Rattle.pb_project_choice.proofs.testing.put_test.Goals.{then-there+in_ok-guards+in_ok-push, else-there}

pub returns-clause-is : goal.returns-clause-is
returns-clause-is c =
    let range = c.args.setting.now.range in
    let roles = c.args.setting.now.roles in
    let whole = c.args.setting.now.whole.now in
    let areas = c.in_ok-areas.areas.items in
    let entries = c.args.entries.now in
    elim c.if-there.branch [
      | then-there+in_ok-guards+in_ok-push w ↦
          test_there range roles whole areas c.args.branch c.args.label entries c.args.tests.now.items c.if-there.tests.items w.in_ok-guards.guards
          (λ n role x. c.in_ok-areas.ensures.is n role x) (λ cuts f. c.in_ok-areas.ensures.fits range cuts f)
          (subst (λ b. IsThere range whole areas b) w.if-there.true (subst (λ a. IsThere range whole a c.in_ok-there.there) c.deref.ensures.value c.in_ok-there.ensures))
          (subst (λ a. Says range roles a w.in_ok-guards.guards) w.deref-then-there.ensures.value w.in_ok-guards.ensures.hold)
          w.in_ok-guards.ensures.each
          (ap (λ v. v.items) w.tests-is ∙ w.in_ok-push.ensures.items)
      | else-there w ↦
          subst (λ v. IsTested range roles whole c.args.branch (λ l. nat_eq l c.args.label) entries c.args.tests.now.items v.items) (sym w.tests-is)
          (test_gone range roles whole areas c.args.branch c.args.label entries c.args.tests.now.items (λ n role x. c.in_ok-areas.ensures.is n role x)
          (subst (λ b. IsThere range whole areas b) w.if-there.false (subst (λ a. IsThere range whole a c.in_ok-there.there) c.deref.ensures.value c.in_ok-there.ensures)))
    ]

pub returns-clause-ascend : goal.returns-clause-ascend
returns-clause-ascend c = λ h. elim c.if-there.branch [
  | then-there+in_ok-guards+in_ok-push w ↦
      ascend_with c.args.branch c.args.label w.in_ok-guards.guards c.args.tests.now.items c.if-there.tests.items (ap (λ v. v.items) w.tests-is ∙ w.in_ok-push.ensures.items) h
  | else-there w ↦ subst (λ v. AscendTo c.args.branch (c.args.label + 1) v.items) (sym w.tests-is) (ascend_on c.args.branch c.args.label c.args.tests.now.items h)
]
